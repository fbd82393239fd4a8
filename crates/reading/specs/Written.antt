-- What a reading says of its RM3 table (SPEC 6 and 7), and the bytes that it leaves.
use Rattle.std.specs.Prelude.{ℕ, ◌≡◌, List, length, Result}
use Rattle.majority.specs.declared.Counts.{Counts}
use Rattle.translation.specs.declared.Mode.{Mode}
use Rattle.rm3.specs.Claimed.{claimed_translate, claimed_bytes}
use Rattle.refusals.specs.declared.Refusal.{Refusal}

-- the reply, in this mode, to records xs whose counts are claimed and a buffer of the bytes ys, which leaves it the bytes zs
abbrev pub WrittenIn : Mode → List ℕ → Counts → List ℕ → (Result ℕ Refusal) → List ℕ → Type 0
WrittenIn mode xs c ys r zs = (r ≡ claimed_translate mode xs c (length ys)) × (zs ≡ claimed_bytes mode xs c ys)

-- Claimed counts: where they are those found, the RM3 table and its bytes are the plain call's.
use Prim.Native.Nat.{ℕ, ◌/◌}
use mathlib.Core.Path.{◌≡◌}
use mathlib.Core.List.{List}
use lib.ListN.{length}
use Rattle.majority.specs.Check.{counts_of}
use Rattle.majority.specs.declared.Counts.{Counts}
use Rattle.translation.specs.declared.Mode.{Mode}
use Rattle.tables.specs.Bytes.{table_of}
use Rattle.tables.specs.Calls.{checked_of}
use Rattle.tables.specs.Claimed.{claimed_of}
use Rattle.tables.proofs.Claims.{claimed_check_lem}
use Rattle.rm3.specs.Calls.{rm3_of, translate_of, translate_bytes}
use Rattle.rm3.specs.Claimed.{claimed_rm3, claimed_translate, claimed_bytes}

module _ (mode : Mode) (xs : List ℕ) (claim : Counts) (own : claim ≡ counts_of (table_of xs (length xs / 8))) where
  claimed_rm3_lem : (room : ℕ) → claimed_rm3 mode xs claim room ≡ rm3_of mode xs (length xs) room
  unfolding claimed_rm3 rm3_of claimed_of checked_of
  claimed_rm3_lem room = rw (claimed_check_lem xs claim own)

  pub claimed_translate_lem : (room : ℕ) → claimed_translate mode xs claim room ≡ translate_of mode xs (length xs) room
  unfolding claimed_translate translate_of
  claimed_translate_lem room = rw (claimed_rm3_lem room)

  pub claimed_bytes_lem : (ys : List ℕ) → claimed_bytes mode xs claim ys ≡ translate_bytes mode xs (length xs) ys
  unfolding claimed_bytes translate_bytes
  claimed_bytes_lem ys = rw (claimed_rm3_lem (length ys))

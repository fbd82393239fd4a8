-- The fields and bytes of a list after the two bytes of a field were put.
use Prim.Native.Nat.{ℕ, ◌+◌, ◌*◌, ◌/◌, ◌%◌, ◌<◌}
use mathlib.Core.Path.{◌≡◌, ◌∙◌, ap₂}
use mathlib.Core.List.{List}
use native.Mathlib.Omega.{arith}
use lib.ListN.{length, get_or, set, drop, length-set}
use lib.Seq.{get_or-set_same, get_or-set_other, drop-set-lt}
use Rattle.tables.specs.Field.{joined, field_at, put_bytes, put_field}

module _ (xs : List ℕ) (k low high : ℕ) where
  -- the bytes with the low byte put
  abbrev half : List ℕ
  half = set xs (2 * k) low

  pub bytes_length : length (put_bytes xs k low high) ≡ length xs
  unfolding put_bytes
  bytes_length = simp length-set

  pub low_same : 2 * k + 1 < length xs → get_or (put_bytes xs k low high) (2 * k) 0 ≡ low
  unfolding put_bytes
  low_same h = get_or-set_other half (2 * k + 1) (2 * k) high 0 (omega arith) ∙ get_or-set_same xs (2 * k) low 0 (omega arith)

  pub high_same : 2 * k + 1 < length xs → get_or (put_bytes xs k low high) (2 * k + 1) 0 ≡ high
  unfolding put_bytes
  high_same h = get_or-set_same half (2 * k + 1) high 0 (simp length-set h)

  pub byte_other : (i : ℕ) → (i ≡ 2 * k → ⊥) → (i ≡ 2 * k + 1 → ⊥) → get_or (put_bytes xs k low high) i 0 ≡ get_or xs i 0
  unfolding put_bytes
  byte_other i a b = get_or-set_other half (2 * k + 1) i high 0 b ∙ get_or-set_other xs (2 * k) i low 0 a

  pub field_other : (j : ℕ) → (j ≡ k → ⊥) → field_at (put_bytes xs k low high) j ≡ field_at xs j
  unfolding field_at
  field_other j n = ap₂ joined (byte_other (2 * j) (omega arith) (omega arith)) (byte_other (2 * j + 1) (omega arith) (omega arith))

  pub bytes_rest : (n : ℕ) → 2 * k + 1 < n → drop n (put_bytes xs k low high) ≡ drop n xs
  unfolding put_bytes
  bytes_rest n h = drop-set-lt n half (2 * k + 1) high h ∙ drop-set-lt n xs (2 * k) low (omega arith)

pub field_same : (xs : List ℕ) (k v : ℕ) → 2 * k + 1 < length xs → field_at (put_field xs k v) k ≡ v
unfolding field_at
field_same xs k v h = ap₂ joined (low_same xs k (v % 256) (v / 256) h) (high_same xs k (v % 256) (v / 256) h) ∙ omega arith

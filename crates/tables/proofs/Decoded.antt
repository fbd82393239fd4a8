-- The records that bytes hold, one by one.
use Prim.Native.Nat.{ℕ, zero, suc, ◌+◌, ◌*◌, ◌/◌, ◌%◌, ◌≤◌, ◌<◌}
use mathlib.Core.Path.{◌≡◌, refl, sym, ap}
use mathlib.Core.List.{List}
use native.Mathlib.Omega.{arith}
use native.Mathlib.Decide.{dec_lt}
use borrow.Author.Tests.{lt-ltb, le-ltb}
use lib.ListN.{length, get_or, take, get_or-eq_default}
use lib.Seq.{get_or-take}
use Rattle.majority.specs.Table.{record_of, blank, record_at}
use Rattle.tables.specs.Field.{field_at}
use Rattle.tables.specs.Bytes.{record_in, decode, table_of, records_of, field_of}

pub length_decode : (xs : List ℕ) (k i : ℕ) → length (decode xs i k) ≡ k
unfolding decode
length_decode xs zero i = refl
length_decode xs (suc k) i = ap suc (length_decode xs k (suc i))

pub decode_at : (xs : List ℕ) (k i j : ℕ) → j < k → record_at (decode xs i k) j ≡ record_in xs (i + j)
unfolding decode
decode_at xs zero i j h = absurd (omega arith)
decode_at xs (suc k) i zero h = let e : i + 0 ≡ i = omega arith in rw e
decode_at xs (suc k) i (suc j) h = let e : i + suc j ≡ suc i + j = omega arith in rw e (decode_at xs k (suc i) j (omega arith))

-- the first bytes hold the first records
module _ (xs : List ℕ) (used : ℕ) where
  field_take : (k : ℕ) → 2 * k + 1 < used → field_at (take used xs) k ≡ field_at xs k
  unfolding field_at
  field_take k h = rw (get_or-take used xs (2 * k) 0 (omega arith), get_or-take used xs (2 * k + 1) 0 h)

  decode_take : (k i : ℕ) → 8 * (i + k) ≤ used → decode (take used xs) i k ≡ decode xs i k
  unfolding decode
  decode_take zero i h = refl
  decode_take (suc k) i h =
      rw (get_or-take used xs (8 * i) 0 (omega arith), get_or-take used xs (8 * i + 1) 0 (omega arith), field_take (4 * i + 1) (omega arith), field_take (4 * i + 2) (omega arith), field_take (4 * i + 3) (omega arith), decode_take k (suc i) (omega arith))

  pub table_take : (n : ℕ) → 8 * n ≤ used → table_of (take used xs) n ≡ table_of xs n
  table_take n h = decode_take n 0 (omega arith)

module _ (xs : List ℕ) (n : ℕ) where
  pub length_table : length (table_of xs n) ≡ n
  length_table = length_decode xs n 0

  pub table_at : (i : ℕ) → i < n → record_at (table_of xs n) i ≡ record_in xs i
  table_at i h = let e : 0 + i ≡ i = omega arith in rw e at (decode_at xs n 0 i h)

  pub table_past : (i : ℕ) → n ≤ i → record_at (table_of xs n) i ≡ blank
  table_past i h = get_or-eq_default (table_of xs n) blank (let e = length_table in omega arith)

-- a record of the bytes, field by field: the low byte of the first is the kind, the high byte the block
pub read_fields : (xs : List ℕ) (i : ℕ) → get_or xs (8 * i) 0 < 256
    → record_of (field_of xs i 0 % 256) (field_of xs i 0 / 256) (field_of xs i 1) (field_of xs i 2) (field_of xs i 3) ≡ record_at (records_of xs) i
unfolding field_of field_at
read_fields xs i byte = go (dec_lt i (length xs / 8))
  where
    go : Dec (i < length xs / 8)
        → record_of (field_of xs i 0 % 256) (field_of xs i 0 / 256) (field_of xs i 1) (field_of xs i 2) (field_of xs i 3) ≡ record_at (records_of xs) i
    go (yes h) =
        let e : 2 * (4 * i + 0) ≡ 8 * i = omega arith in
        let low : (get_or xs (8 * i) 0 + 256 * get_or xs (8 * i + 1) 0) % 256 ≡ get_or xs (8 * i) 0 = omega arith in
        let high : (get_or xs (8 * i) 0 + 256 * get_or xs (8 * i + 1) 0) / 256 ≡ get_or xs (8 * i + 1) 0 = omega arith in
        rw (lt-ltb i (length xs / 8) h, e, low, high) (sym (table_at xs (length xs / 8) i h))
    go (no h) = rw (le-ltb i (length xs / 8) (omega arith)) (sym (table_past xs (length xs / 8) i (omega arith)))

-- Bytes are the encoding of the records that they hold, and an encoding holds the records that it encodes; so an accepted buffer is the encoding of its table, and the rest.
use Prim.Native.Nat.{ℕ, zero, suc, ◌+◌, ◌*◌, ◌/◌, ◌%◌, ◌≤◌, ◌<◌}
use mathlib.Core.Path.{◌≡◌, refl, ap, ap₂, ◌∙◌}
use mathlib.Core.Bool.{Bool, true, false, not}
use mathlib.Core.List.{List, [], ◌∷◌, ◌++◌}
use native.Mathlib.Omega.{arith}
use borrow.Author.Tests.{ltb-false, le-ltb, eqb-true, eq-eqb, not-false}
use lib.Dec.{ltb, eqb}
use lib.ListN.{length, get_or, drop, length-append, length-drop}
use lib.Seq.{drop-cons, get_or-append-add, ext_get_or}
use Rattle.std.specs.Prelude.{if◌then◌else◌, Ok, Err}
use Rattle.majority.specs.Table.{blank, record_at}
use Rattle.majority.specs.Check.{check_records}
use Rattle.majority.specs.declared.Record.{Record}
use Rattle.majority.specs.declared.Counts.{Counts}
use Rattle.majority.proofs.Logic.{neither}
use Rattle.tables.specs.Field.{joined, field_at}
use Rattle.tables.specs.Bytes.{record_in, decode, table_of, field_bytes, record_bytes, encode, holding}
use Rattle.tables.specs.Calls.{bad_length, check_of}
use Rattle.tables.proofs.Decoded.{length_table, table_at}
use Rattle.refusals.specs.declared.Refusal.TheVariants as refusal

-- every number of the list is a byte
abbrev pub Bytes : List ℕ → Type 0
Bytes xs = (i : ℕ) → get_or xs i 0 < 256

module _ (xs : List ℕ) (bytes : Bytes xs) where
  drop_field : (k : ℕ) → 2 * k + 1 < length xs → drop (2 * k) xs ≡ field_bytes (field_at xs k) (drop (2 * (k + 1)) xs)
  unfolding field_at
  drop_field k h =
      let a = get_or xs (2 * k) 0 in
      let b = get_or xs (2 * k + 1) 0 in
      let la = bytes (2 * k) in
      let lb = bytes (2 * k + 1) in
      let p : (a + 256 * b) % 256 ≡ a = omega arith in
      let q : (a + 256 * b) / 256 ≡ b = omega arith in
      let e : suc (2 * k) ≡ 2 * k + 1 = omega arith in
      let e2 : suc (2 * k + 1) ≡ 2 * (k + 1) = omega arith in
      drop-cons xs (2 * k) 0 (omega arith) ∙ rw (e, drop-cons xs (2 * k + 1) 0 h, e2, p, q)

  drop_record : (i : ℕ) → 8 * i + 7 < length xs → drop (8 * i) xs ≡ record_bytes (record_in xs i) (drop (8 * (i + 1)) xs)
  drop_record i h =
      let s0 : suc (8 * i) ≡ 8 * i + 1 = omega arith in
      let s1 : suc (8 * i + 1) ≡ 2 * (4 * i + 1) = omega arith in
      let e1 : 4 * i + 1 + 1 ≡ 4 * i + 2 = omega arith in
      let e2 : 4 * i + 2 + 1 ≡ 4 * i + 3 = omega arith in
      let e3 : 2 * (4 * i + 3 + 1) ≡ 8 * (i + 1) = omega arith in
      drop-cons xs (8 * i) 0 (omega arith)
      ∙ rw (s0, drop-cons xs (8 * i + 1) 0 (omega arith), s1, drop_field (4 * i + 1) (omega arith), e1, drop_field (4 * i + 2) (omega arith), e2, drop_field (4 * i + 3) (omega arith), e3)

  drop_decode : (k i : ℕ) → 8 * (i + k) ≤ length xs → drop (8 * i) xs ≡ encode (decode xs i k) ++ drop (8 * (i + k)) xs
  unfolding encode decode
  drop_decode zero i h = let e : i + 0 ≡ i = omega arith in rw e
  drop_decode (suc k) i h =
      let e : i + suc k ≡ suc i + k = omega arith in
      let e1 : i + 1 ≡ suc i = omega arith in
      let r = drop_decode k (suc i) (omega arith) in
      drop_record i (omega arith) ∙ rw (e1, r, e)

  pub as_encoded : (n : ℕ) → 8 * n ≤ length xs → xs ≡ encode (table_of xs n) ++ drop (8 * n) xs
  as_encoded n h = let e : 0 + n ≡ n = omega arith in rw e at (drop_decode n 0 (omega arith))

-- a check that is accepted was not refused for the length, and accepts the records
pub accepted_records : (xs : List ℕ) (used : ℕ) (c : Counts) → check_of xs used ≡ Ok c
    → (used % 8 ≡ 0) × (used ≤ length xs) × (check_records (table_of xs (used / 8)) ≡ Ok c)
unfolding check_of
accepted_records xs used c e = go (bad_length xs used) refl e
  where
    go : (t : Bool) → bad_length xs used ≡ t → (if t then Err refusal.Length else check_records (table_of xs (used / 8))) ≡ Ok c
        → (used % 8 ≡ 0) × (used ≤ length xs) × (check_records (table_of xs (used / 8)) ≡ Ok c)
    go true q h = let z : ◌≡◌ {A = ℕ} 0 1 = cc in absurd (omega arith)
    go false q h =
        let w = neither (not (eqb (used % 8) 0)) (ltb (length xs) used) q in
        (eqb-true _ _ (not-false _ w.0), ltb-false _ _ w.1, h)

-- and the other way: at a length that is not refused, the check is that of the records
pub records_checked : (xs : List ℕ) (used : ℕ) → used % 8 ≡ 0 → used ≤ length xs → check_of xs used ≡ check_records (table_of xs (used / 8))
unfolding check_of
records_checked xs used whole inside = rw (eq-eqb (used % 8) 0 whole, le-ltb (length xs) used inside)

-- an accepted buffer is the encoding of its table, followed by the rest
pub accepted_encoded : (xs : List ℕ) → Bytes xs → (used : ℕ) (c : Counts) → check_of xs used ≡ Ok c → xs ≡ encode (table_of xs (used / 8)) ++ drop used xs
accepted_encoded xs bytes used c e =
    let w = accepted_records xs used c e in
    let h : 8 * (used / 8) ≡ used = omega (arith, w.0) in
    rw h at (as_encoded xs bytes (used / 8) (omega (arith, w.0, w.1)))

-- and the other way: an encoding holds the records that it encodes
pub length_encode : (t : List Record) → length (encode t) ≡ 8 * length t
unfolding encode
length_encode [] = refl
length_encode (r ∷ t) = omega (arith, length_encode t)

-- the bytes of one record
abbrev eight : Record → List ℕ
eight r = record_bytes r []

-- a byte and a field behind the first record
byte_behind : (r : Record) (ys : List ℕ) (k j : ℕ) → k ≡ 8 + j → get_or (record_bytes r ys) k 0 ≡ get_or ys j 0
byte_behind r ys k j e = rw e (get_or-append-add (eight r) ys j 0)

field_behind : (r : Record) (ys : List ℕ) (k : ℕ) → field_at (record_bytes r ys) (4 + k) ≡ field_at ys k
unfolding field_at
field_behind r ys k =
    ap₂ joined (byte_behind r ys (2 * (4 + k)) (2 * k) (omega arith)) (byte_behind r ys (2 * (4 + k) + 1) (2 * k + 1) (omega arith))

whole : (v : ℕ) → joined (v % 256) (v / 256) ≡ v
whole v = omega arith

first_record : (r : Record) (ys : List ℕ) → record_in (record_bytes r ys) 0 ≡ r
unfolding field_at
first_record r ys = λ d. record { kind = r.kind; block = r.block; e1 = whole r.e1 d; e2 = whole r.e2 d; e3 = whole r.e3 d }

later_record : (r : Record) (ys : List ℕ) (j : ℕ) → record_in (record_bytes r ys) (suc j) ≡ record_in ys j
later_record r ys j =
    let at : (d : ℕ) → field_at (record_bytes r ys) (4 * suc j + d) ≡ field_at ys (4 * j + d) =
    λ d. let e : 4 * suc j + d ≡ 4 + (4 * j + d) = omega arith in ap (field_at (record_bytes r ys)) e ∙ field_behind r ys (4 * j + d)
    in
    let k = byte_behind r ys (8 * suc j) (8 * j) (omega arith) in
    let b = byte_behind r ys (8 * suc j + 1) (8 * j + 1) (omega arith) in
    let p1 = at 1 in
    let p2 = at 2 in
    let p3 = at 3 in
    λ d. record { kind = k d; block = b d; e1 = p1 d; e2 = p2 d; e3 = p3 d }

pub encoded_at : (t : List Record) (rest : List ℕ) (j : ℕ) → j < length t → record_in (encode t ++ rest) j ≡ record_at t j
unfolding encode
encoded_at [] rest j h = absurd (omega arith)
encoded_at (r ∷ t) rest zero h = first_record r (encode t ++ rest)
encoded_at (r ∷ t) rest (suc j) h = later_record r (encode t ++ rest) j ∙ encoded_at t rest j (omega arith)

pub encoded_table : (t : List Record) (rest : List ℕ) → table_of (encode t ++ rest) (length t) ≡ t
encoded_table t rest =
    ext_get_or blank _ _ (length_table _ (length t))
    (λ j h. let l : j < length t = omega (arith, length_table (encode t ++ rest) (length t)) in table_at _ (length t) j l ∙ encoded_at t rest j l)

-- a buffer that holds a table has the length that it had, and that table
module _ (t : List Record) (xs : List ℕ) where
  pub holding_length : 8 * length t ≤ length xs → length (holding t xs) ≡ length xs
  unfolding holding
  holding_length fits = simp (length-append, length-drop) (omega (arith, length_encode t))

  pub holding_table : table_of (holding t xs) (length t) ≡ t
  unfolding holding
  holding_table = encoded_table t _

-- The records of a list of bytes after a record was put: that one is new, and no other changes.
use Prim.Native.Nat.{ℕ, ◌+◌, ◌*◌, ◌/◌, ◌%◌, ◌≤◌, ◌<◌}
use mathlib.Core.Path.{◌≡◌, ap, ap₂, ◌∙◌}
use mathlib.Core.List.{List}
use native.Mathlib.Omega.{arith}
use borrow.Author.Tests.{lt-ltb}
use lib.ListN.{length, get_or, drop}
use Rattle.majority.specs.declared.Record.{Record}
use Rattle.tables.specs.Field.{joined, field_at, put_bytes, put_field}
use Rattle.tables.specs.Bytes.{record_in, put_fields, put_record}
use Rattle.tables.proofs.PutField.{bytes_length, low_same, high_same, byte_other, field_same, field_other, bytes_rest}

module _ (xs : List ℕ) (i : ℕ) (r : Record) where
  -- the bytes after one, two and three fields
  abbrev one : List ℕ
  one = put_bytes xs (4 * i) r.kind r.block

  abbrev two : List ℕ
  two = put_field one (4 * i + 1) r.e1

  abbrev three : List ℕ
  three = put_field two (4 * i + 2) r.e2

  fields_length : length (put_fields xs i r) ≡ length xs
  unfolding put_fields
  fields_length = bytes_length three _ _ _ ∙ bytes_length two _ _ _ ∙ bytes_length one _ _ _ ∙ bytes_length xs _ _ _

  -- a byte of another record stays
  byte_stays : (k : ℕ) → (k / 8 ≡ i → ⊥) → get_or (put_fields xs i r) k 0 ≡ get_or xs k 0
  unfolding put_fields
  byte_stays k n =
      byte_other three _ _ _ k (omega arith) (omega arith)
      ∙ byte_other two _ _ _ k (omega arith) (omega arith)
      ∙ byte_other one _ _ _ k (omega arith) (omega arith)
      ∙ byte_other xs _ _ _ k (omega arith) (omega arith)

  record_other : (j : ℕ) → (j ≡ i → ⊥) → record_in (put_fields xs i r) j ≡ record_in xs j
  unfolding field_at
  record_other j n =
      let at : (d : ℕ) → d < 4 → field_at (put_fields xs i r) (4 * j + d) ≡ field_at xs (4 * j + d) =
      λ d h. ap₂ joined (byte_stays (2 * (4 * j + d)) (omega arith)) (byte_stays (2 * (4 * j + d) + 1) (omega arith))
      in
      let k = byte_stays (8 * j) (omega arith) in
      let b = byte_stays (8 * j + 1) (omega arith) in
      let p1 = at 1 (omega arith) in
      let p2 = at 2 (omega arith) in
      let p3 = at 3 (omega arith) in
      λ d. record { kind = k d; block = b d; e1 = p1 d; e2 = p2 d; e3 = p3 d }

  fields_same : 8 * i + 7 < length xs → record_in (put_fields xs i r) i ≡ r
  unfolding put_fields
  fields_same h =
      let l1 = bytes_length xs (4 * i) r.kind r.block in
      let l2 = bytes_length one (4 * i + 1) (r.e1 % 256) (r.e1 / 256) in
      let l3 = bytes_length two (4 * i + 2) (r.e2 % 256) (r.e2 / 256) in
      let past2 : (j : ℕ) → (j ≡ 4 * i + 2 → ⊥) → field_at three j ≡ field_at two j = field_other two (4 * i + 2) _ _ in
      let past3 : (j : ℕ) → (j ≡ 4 * i + 3 → ⊥) → field_at (put_fields xs i r) j ≡ field_at three j = field_other three (4 * i + 3) _ _ in
      let head : (k : ℕ) → k < 8 * i + 2 → get_or (put_fields xs i r) k 0 ≡ get_or one k 0 =
      λ k l. byte_other three _ _ _ k (omega arith) (omega arith) ∙ byte_other two _ _ _ k (omega arith) (omega arith) ∙ byte_other one _ _ _ k (omega arith) (omega arith)
      in
      let e : 2 * (4 * i) ≡ 8 * i = omega arith in
      let k = head (8 * i) (omega arith) ∙ rw e at (low_same xs (4 * i) r.kind r.block (omega arith)) in
      let b = head (8 * i + 1) (omega arith) ∙ rw e at (high_same xs (4 * i) r.kind r.block (omega arith)) in
      let p1 = past3 (4 * i + 1) (omega arith) ∙ past2 (4 * i + 1) (omega arith) ∙ field_same one (4 * i + 1) r.e1 (omega arith) in
      let p2 = past3 (4 * i + 2) (omega arith) ∙ field_same two (4 * i + 2) r.e2 (omega arith) in
      let p3 = field_same three (4 * i + 3) r.e3 (omega arith) in
      λ d. record { kind = k d; block = b d; e1 = p1 d; e2 = p2 d; e3 = p3 d }

  fields_rest : (n : ℕ) → 8 * i + 8 ≤ n → drop n (put_fields xs i r) ≡ drop n xs
  unfolding put_fields
  fields_rest n h =
      bytes_rest three _ _ _ n (omega arith) ∙ bytes_rest two _ _ _ n (omega arith) ∙ bytes_rest one _ _ _ n (omega arith) ∙ bytes_rest xs _ _ _ n (omega arith)

  -- where there is room
  module _ (room : 8 * i + 8 ≤ length xs) where
    put_is : put_record xs i r ≡ put_fields xs i r
    unfolding put_record
    put_is = let l : i < length xs / 8 = omega arith in rw (lt-ltb i (length xs / 8) l)

    pub put_length : length (put_record xs i r) ≡ length xs
    put_length = ap length put_is ∙ fields_length

    pub put_same : record_in (put_record xs i r) i ≡ r
    put_same = ap (λ (ys : List ℕ). record_in ys i) put_is ∙ fields_same (omega arith)

    pub put_other : (j : ℕ) → (j ≡ i → ⊥) → record_in (put_record xs i r) j ≡ record_in xs j
    put_other j n = ap (λ (ys : List ℕ). record_in ys j) put_is ∙ record_other j n

    pub put_rest : (n : ℕ) → 8 * i + 8 ≤ n → drop n (put_record xs i r) ≡ drop n xs
    put_rest n h = ap (drop n) put_is ∙ fields_rest n h

-- Buffers that are the same from one record on have that record in common, and are the same from any later one on.
use Rattle.std.proofs.Common.{◌≡◌, ℕ, ◌+◌, ◌-◌, ◌*◌, ◌≤◌, List, get_or, drop, sym, ap, ◌∙◌, ap₂, arith, get_or-drop, drop-drop}
use Rattle.tables.specs.Field.{joined, field_at}
use Rattle.tables.specs.Bytes.{record_in}

module _ (xs ys : List ℕ) (i : ℕ) (same : drop (8 * i) ys ≡ drop (8 * i) xs) where
  same_byte : (d : ℕ) → get_or ys (8 * i + d) 0 ≡ get_or xs (8 * i + d) 0
  same_byte d = sym (get_or-drop (8 * i) ys d 0) ∙ ap (λ (l : List ℕ). get_or l d 0) same ∙ get_or-drop (8 * i) xs d 0

  same_field : (d : ℕ) → field_at ys (4 * i + d) ≡ field_at xs (4 * i + d)
  unfolding field_at
  same_field d =
      let low : 2 * (4 * i + d) ≡ 8 * i + 2 * d = omega arith in
      let high : 8 * i + 2 * d + 1 ≡ 8 * i + (2 * d + 1) = omega arith in
      rw (low, high) (ap₂ joined (same_byte (2 * d)) (same_byte (2 * d + 1)))

  pub same_record : record_in ys i ≡ record_in xs i
  same_record =
      let e : 8 * i + 0 ≡ 8 * i = omega arith in
      let k : get_or ys (8 * i) 0 ≡ get_or xs (8 * i) 0 = rw e at (same_byte 0) in
      let b = same_byte 1 in
      let p1 = same_field 1 in
      let p2 = same_field 2 in
      let p3 = same_field 3 in
      λ d. record { kind = k d; block = b d; e1 = p1 d; e2 = p2 d; e3 = p3 d }

  pub same_later : (j : ℕ) → i ≤ j → drop (8 * j) ys ≡ drop (8 * j) xs
  same_later j h =
      let e : 8 * i + (8 * j - 8 * i) ≡ 8 * j = omega arith in
      rw e at (sym (drop-drop (8 * j - 8 * i) (8 * i) ys) ∙ ap (drop (8 * j - 8 * i)) same ∙ drop-drop (8 * j - 8 * i) (8 * i) xs)

-- A word is put behind the first bytes of a room, as far as the room goes.
use Prim.Native.Nat.{ℕ, ◌+◌, ◌-◌, ◌≤◌, min, max}
use mathlib.Core.Path.{◌≡◌, ◌∙◌, sym, ap}
use mathlib.Core.List.{List, ◌++◌, append-nil, append_assoc}
use native.Mathlib.Decide.{dec_le}
use native.Mathlib.Omega.{arith}
use borrow.Rule.Slice.PartMut.{put_mid}
use lib.ListN.{length, take, drop, length-take, drop_of_length-le}
use lib.Seq.{take_all, take-append_seam, take-append-add}
use Rattle.std.proofs.lemmas.List.{drop-drop}
use Rattle.text.specs.Shown.{line_of, appended}

module _ (room word : List ℕ) (len : ℕ) where
  -- the room is full
  pub full : length room ≤ len → line_of room len ≡ appended room len word
  unfolding appended
  full h =
      let far : length room ≤ len + length word = omega arith in
      let count : max len (min (length room) (len + length word)) ≡ len = omega arith in
      rw (take_all len room h, take-append_seam, drop_of_length-le room far, append-nil, count)

  -- as many of its bytes as there is room for
  pub some : (count k : ℕ) (put : List ℕ) → count ≡ min (length word) (length room - len) → k ≡ count → put ≡ take count word → len ≤ length room → line_of (put_mid len k room put) (len + count) ≡ appended room len word
  unfolding appended
  some count k put is same_k same_put h =
      let before : length (take len room) ≡ len = simp length-take (omega arith) in
      let whole : length (take len room) + (length room - len) ≡ length room = rw (before) (omega arith) in
      let text : take (length room) (take len room ++ word) ≡ take len room ++ take count word
      = ap (λ (n : ℕ). take n (take len room ++ word)) (sym whole) ∙ take-append-add (take len room) word (length room - len) ∙ ap (λ (w : List ℕ). take len room ++ w) as_far in
      let ends : len + count ≡ max len (min (length room) (len + length word)) = omega (arith, is) in
      rw (same_k, same_put, drop-drop count len room, text, ← behind, ends, append_assoc)
    where
      as_far : take (length room - len) word ≡ take count word
      as_far = go (dec_le (length word) (length room - len))
        where
          go : Dec (length word ≤ length room - len) → take (length room - len) word ≡ take count word
          go (yes f) = take_all _ word f ∙ sym (take_all count word (omega (arith, is)))
          go (no f) = let same : length room - len ≡ count = omega (arith, is) in rw (same)

      behind : drop (len + length word) room ≡ drop (len + count) room
      behind = go (dec_le (length word) (length room - len))
        where
          go : Dec (length word ≤ length room - len) → drop (len + length word) room ≡ drop (len + count) room
          go (yes f) = let same : length word ≡ count = omega (arith, is) in rw (same)
          go (no f) = drop_of_length-le room (omega arith) ∙ sym (drop_of_length-le room (omega (arith, is)))

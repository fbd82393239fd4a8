-- A text is read digit by digit: what is left of it decides, and a number that has passed its bound stays past it.
use Prim.Native.Nat.{ℕ, ◌+◌, ◌^◌, ◌≤◌, ◌<◌}
use mathlib.Core.Path.{◌≡◌, ◌∙◌, refl}
use mathlib.Core.List.{List, [], ◌∷◌}
use mathlib.Core.Bool.{Bool, true, false, ◌&&◌}
use native.Mathlib.Decide.{dec_lt}
use native.Mathlib.Omega.{arith}
use lib.ListN.{length, drop, get_or, drop_of_length-le}
use borrow.Author.Tests.{lt-ltb, le-ltb}
use Rattle.std.proofs.lemmas.List.{drop_more}
use Rattle.std.specs.Prelude.{if◌then◌else◌, Some, None}
use Rattle.text.specs.Spelled.{is_digit, digits_alone, with_byte, with_digit, with_digits, spelled_after}

-- more digits make no number smaller
grows : (v : ℕ) (ds : List ℕ) → v ≤ with_digits v ds
unfolding with_digits
grows v [] = omega arith
grows v (d ∷ ds) = let h = grows (with_digit v d) ds in omega arith

-- a number that has passed its bound
too_large : (v : ℕ) (ds : List ℕ) → 2 ^ 32 ≤ v → spelled_after v ds ≡ None
unfolding spelled_after
too_large v ds h =
    let k = grows v ds in
    let past : 2 ^ 32 ≤ with_digits v ds = omega arith in
    rw (le-ltb (with_digits v ds) (2 ^ 32) past) (no (digits_alone ds))
  where
    no : (t : Bool) → (if t && false then Some (with_digits v ds) else None) ≡ None
    no true = refl
    no false = refl

module _ (text : List ℕ) (i v : ℕ) where
  -- nothing is left
  pub at_end : length text ≤ i → v < 2 ^ 32 → spelled_after v (drop i text) ≡ Some v
  unfolding spelled_after digits_alone with_digits
  at_end h k = rw (drop_of_length-le text h, lt-ltb v (2 ^ 32) k)

-- a digit and what comes after it
one_digit : (v d : ℕ) (ds : List ℕ) → is_digit d ≡ true → spelled_after v (d ∷ ds) ≡ spelled_after (with_digit v d) ds
unfolding spelled_after digits_alone with_digits
one_digit v d ds h = rw (h)

-- no digit
no_digit : (v d : ℕ) (ds : List ℕ) → is_digit d ≡ false → spelled_after v (d ∷ ds) ≡ None
unfolding spelled_after digits_alone with_digits
no_digit v d ds h = rw (h)

module _ (text : List ℕ) (i v : ℕ) (h : i < length text) where
  -- the next byte is no digit, or with it the number passes its bound
  pub no_more : with_byte v (get_or text i 0) ≡ None → spelled_after v (drop i text) ≡ None
  unfolding with_byte
  no_more n = rw (drop_more text i 0 h) (go (is_digit (get_or text i 0)) refl (dec_lt (with_digit v (get_or text i 0)) (2 ^ 32)))
    where
      go : (t : Bool) → is_digit (get_or text i 0) ≡ t → Dec (with_digit v (get_or text i 0) < 2 ^ 32) → spelled_after v (get_or text i 0 ∷ drop (i + 1) text) ≡ None
      go false p c = no_digit v (get_or text i 0) (drop (i + 1) text) p
      go true p (yes s) = absurd (grind (arith, n, p, lt-ltb (with_digit v (get_or text i 0)) (2 ^ 32) s))
      go true p (no s) = one_digit v (get_or text i 0) (drop (i + 1) text) p ∙ too_large (with_digit v (get_or text i 0)) (drop (i + 1) text) (omega arith)

  -- the next byte is a digit, and with it the number stays within its bound
  pub one_more : (w : ℕ) → with_byte v (get_or text i 0) ≡ Some w → spelled_after v (drop i text) ≡ spelled_after w (drop (i + 1) text)
  unfolding with_byte
  one_more w n = rw (drop_more text i 0 h) (go (is_digit (get_or text i 0)) refl (dec_lt (with_digit v (get_or text i 0)) (2 ^ 32)))
    where
      go : (t : Bool) → is_digit (get_or text i 0) ≡ t → Dec (with_digit v (get_or text i 0) < 2 ^ 32) → spelled_after v (get_or text i 0 ∷ drop (i + 1) text) ≡ spelled_after w (drop (i + 1) text)
      go false p c = absurd (grind (arith, n, p))
      go true p (yes s) = grind (arith, one_digit v (get_or text i 0) (drop (i + 1) text) p, n, p, lt-ltb (with_digit v (get_or text i 0)) (2 ^ 32) s)
      go true p (no s) = absurd (grind (arith, n, p, le-ltb (with_digit v (get_or text i 0)) (2 ^ 32) (omega arith)))

-- A list that grows at its end: it begins with what it was, and what held of each place still does.
use Prim.Native.Nat.{ℕ, suc, ◌≤◌, ◌<◌}
use mathlib.Core.Path.{◌≡◌, refl, ◌∙◌}
use mathlib.Core.List.{List, [], ◌∷◌, ◌++◌}
use native.Mathlib.Omega.{arith}
use native.Mathlib.Decide.{dec_lt}
use lib.ListN.{length, get_or, length-append, get_or-append}
use lib.Seq.{get_or-append_seam}

-- ys begins with xs
pub record Begins {A : Type 0} (d : A) (xs ys : List A) : Type 0 where
  pub longer : length xs ≤ length ys
  pub same : (i : ℕ) → i < length xs → get_or ys i d ≡ get_or xs i d

-- P of each place of a list and what stands there
pub record All {A : Type 0} (d : A) (P : ℕ → A → Type 0) (xs : List A) : Type 0 where
  pub each : (i : ℕ) → i < length xs → P i (get_or xs i d)

pub length_more : {A : Type 0} (xs : List A) (x : A) → length (xs ++ x ∷ []) ≡ suc (length xs)
length_more xs x = simp length-append (omega arith)

module _ {A : Type 0} {d : A} where
  pub begins_same : (xs : List A) → Begins d xs xs
  begins_same xs = record { longer = omega arith; same = λ i h. refl }

  pub begins_then : {xs ys zs : List A} → Begins d xs ys → Begins d ys zs → Begins d xs zs
  begins_then p q = record { longer = omega (arith, p.longer, q.longer); same = λ i h. q.same i (omega (arith, p.longer)) ∙ p.same i h }

  pub begins_append : (xs ys : List A) → Begins d xs (xs ++ ys)
  begins_append xs ys = record { longer = simp length-append (omega arith); same = λ i h. get_or-append xs ys d i h }

  -- the place after xs, in a list that begins with one more
  pub begins_last : {ys : List A} (xs : List A) (x : A) → Begins d (xs ++ x ∷ []) ys → get_or ys (length xs) d ≡ x
  begins_last xs x b = b.same (length xs) (omega (arith, length_more xs x)) ∙ get_or-append_seam xs x [] d

  pub all_more : {P : ℕ → A → Type 0} {xs : List A} (x : A) → All d P xs → P (length xs) x → All d P (xs ++ x ∷ [])
  all_more {P} {xs} x all last = record { each = λ i h. go i h (dec_lt i (length xs)) }
    where
      go : (i : ℕ) → i < length (xs ++ x ∷ []) → Dec (i < length xs) → P i (get_or (xs ++ x ∷ []) i d)
      go i h (yes l) = rw (get_or-append xs (x ∷ []) d i l) (all.each i l)
      go i h (no l) = let e : i ≡ length xs = omega (arith, length_more xs x) in rw (e, get_or-append_seam xs x [] d) last

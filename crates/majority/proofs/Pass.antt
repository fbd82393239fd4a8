-- A pass: its length, what it keeps, and the equation that each of its worths meets.
use Prim.Native.Nat.{ℕ, zero, suc, ◌+◌, ◌<◌}
use mathlib.Core.Path.{◌≡◌, refl, sym, ◌∙◌}
use mathlib.Core.List.{List, [], ◌∷◌, ◌++◌}
use native.Mathlib.Omega.{arith}
use native.Mathlib.Nat.{add-zero}
use lib.ListN.{length, get_or, length-append, get_or-append}
use lib.Seq.{get_or_at}
use Rattle.majority.specs.Node.{pass}

module _ {R A : Type 0} (F : (ℕ → A) → ℕ → R → A) (z : A) where
  -- the worths known after the element r of number b
  abbrev next : ℕ → List A → R → List A
  next b known r = known ++ F (λ k. get_or known k z) b r ∷ []

  length_next : (b : ℕ) (known : List A) (r : R) → length (next b known r) ≡ suc (length known)
  length_next b known r = simp length-append (omega arith)

  pub length_pass : (b : ℕ) (known : List A) (rs : List R) → length (pass F z b known rs) ≡ length known + length rs
  length_pass b known [] = omega arith
  length_pass b known (r ∷ rs) = omega (arith, length_pass (suc b) (next b known r) rs, length_next b known r)

  pub pass_keeps : (b : ℕ) (known : List A) (rs : List R) (k : ℕ) → k < length known → get_or (pass F z b known rs) k z ≡ get_or known k z
  pass_keeps b known [] k h = refl
  pass_keeps b known (r ∷ rs) k h =
      pass_keeps (suc b) (next b known r) rs k (omega (arith, length_next b known r)) ∙ get_or-append known _ z k h

-- where F makes the worth of number b of worths below b alone, each worth of a pass is made of the pass's own worths
module _ {R A : Type 0} (F : (ℕ → A) → ℕ → R → A) (z : A) (d : R) (Low : ℕ → R → Type 0)
    (local : (v w : ℕ → A) (b : ℕ) (r : R) → Low b r → ((k : ℕ) → k < b → v k ≡ w k) → F v b r ≡ F w b r) where
  at_start : (b : ℕ) (known : List A) (r : R) (rs : List R) → length known ≡ b → Low b r
      → get_or (pass F z b known (r ∷ rs)) b z ≡ F (λ k. get_or (pass F z b known (r ∷ rs)) k z) b r
  at_start b known r rs e low =
      let keeps : (k : ℕ) → k < suc b → get_or (pass F z b known (r ∷ rs)) k z ≡ get_or (next F z b known r) k z =
      λ k h. pass_keeps F z (suc b) (next F z b known r) rs k (omega (arith, length_next F z b known r))
      in
      keeps b (omega arith)
      ∙ get_or_at known _ [] z b e
      ∙ local _ _ b r low (λ k h. sym (keeps k (omega arith) ∙ get_or-append known _ z k (omega arith)))

  pub pass_eq : (b : ℕ) (known : List A) (rs : List R) → length known ≡ b → ((j : ℕ) → j < length rs → Low (b + j) (get_or rs j d))
      → (j : ℕ) → j < length rs → get_or (pass F z b known rs) (b + j) z ≡ F (λ k. get_or (pass F z b known rs) k z) (b + j) (get_or rs j d)
  pass_eq b known [] e low j h = absurd (omega arith)
  pass_eq b known (r ∷ rs) e low zero h = rw add-zero (at_start b known r rs e (rw add-zero at (low zero h)))
  pass_eq b known (r ∷ rs) e low (suc j) h =
      let shift : (i : ℕ) → b + suc i ≡ suc b + i = λ i. omega arith in
      rw (shift j)
      (pass_eq (suc b) (next F z b known r) rs (omega (arith, length_next F z b known r)) (λ i l. rw (← shift i) (low (suc i) (omega arith))) j (omega arith))

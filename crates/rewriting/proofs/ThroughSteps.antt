-- What goes along with a table through a script, one turn at a time: a step that is taken, one that is refused, and the end.
use Rattle.std.proofs.Common.{◌≡◌, ℕ, ◌-◌, ◌≤◌, List, [], ◌∷◌, arith}
use Rattle.majority.specs.declared.Record.{Record}
use Rattle.rules.specs.declared.Step.{Step}
use Rattle.rewriting.specs.Calls.{step_of, step_bytes}
use Rattle.rewriting.specs.Script.{steps_from}
use Rattle.rewriting.specs.Through.{through_steps}
use Rattle.std.specs.Prelude.{Ok, Err}
use Rattle.refusals.specs.declared.Refusal.{Refusal}

module _ {A : Type 0} (f : List Record → Step → A → A) (xs : List ℕ) (used : ℕ) where
  pub through_on : (s : Step) (rest : List Step) (next : ℕ) (x : A) → step_of xs used s ≡ Ok next → {ys : List ℕ} → ys ≡ step_bytes xs used s → {y : A} → y ≡ through_steps f xs used (s ∷ []) x
      → through_steps f xs used (s ∷ rest) x ≡ through_steps f ys next rest y
  unfolding through_steps
  through_on s rest next x e bytes past = rw (bytes, past, e)

  pub through_off : (s : Step) (rest : List Step) (w : Refusal) (x : A) → step_of xs used s ≡ Err w → through_steps f xs used (s ∷ rest) x ≡ x
  unfolding through_steps
  through_off s rest w x e = rw e

  pub through_end : (steps : List ℕ) (n i : ℕ) (x : A) → n ≤ i → through_steps f xs used (steps_from steps i (n - i)) x ≡ x
  unfolding through_steps steps_from
  through_end steps n i x h = let e : n - i ≡ 0 = omega arith in rw e

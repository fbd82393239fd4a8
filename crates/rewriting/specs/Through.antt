-- What goes along with a table through a script (SPEC 5.6), as a probe does: by each step taken it becomes f of the table before the step, of the step, and of what it was.
use Rattle.std.specs.Prelude.{ℕ, ◌/◌, not, List, [], ◌∷◌, if◌then◌else◌}
use Rattle.rules.specs.declared.Step.{Step}
use Rattle.majority.specs.declared.Record.{Record}
use Rattle.tables.specs.Bytes.{table_of}
use Rattle.rewriting.specs.Calls.{step_of, step_bytes}
use Rattle.rewriting.specs.Script.{by_reply, steps_of, whole}

module _ {A : Type 0} (f : List Record → Step → A → A) where
  -- the steps, one after another until one is refused
  unfoldable pub through_steps : List ℕ → ℕ → List Step → A → A
  through_steps xs used [] x = x
  through_steps xs used (s ∷ steps) x = by_reply (step_of xs used s) (λ next. through_steps (step_bytes xs used s) next steps (f (table_of xs (used / 8)) s x)) (λ w. x)

  -- a script, of which no step is taken where it is not a whole number of steps long
  unfoldable pub through_script : List ℕ → ℕ → List ℕ → A → A
  through_script xs used script x = if not (whole script) then x else through_steps xs used (steps_of script) x

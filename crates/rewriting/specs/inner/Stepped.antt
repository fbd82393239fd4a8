-- A step on an accepted table, taken or refused (SPEC 5.4).
use Rattle.std.specs.Prelude.{◌≡◌, ℕ, List, Result}
use Rattle.majority.specs.declared.Counts.{Counts}
use Rattle.rules.specs.declared.Step.{Step}
use Rattle.refusals.specs.declared.Refusal.{Refusal}
use Rattle.rewriting.specs.Calls.{step_of, step_bytes}
use Rattle.rewriting.specs.Script.{counts_after}
use Rattle.rewriting.specs.inner.Applied.{used_by}

-- the step s on the table with the counts c in xs: r is the reply, and ys and d are the bytes and the counts then
pub record Stepped (xs : List ℕ) (c : Counts) (s : Step) (r : Result ℕ Refusal) (ys : List ℕ) (d : Counts) : Type 0 where
  pub reply : r ≡ step_of xs (used_by c) s
  pub bytes : ys ≡ step_bytes xs (used_by c) s
  pub counts : d ≡ counts_after c r

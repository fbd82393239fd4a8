-- Scripts (SPEC 5.5): steps are taken in order until one is refused, each with the used length that the one before replied.
use Rattle.std.specs.Prelude.{ℕ, zero, suc, ◌+◌, ◌-◌, ◌/◌, ◌%◌, Bool, not, List, [], ◌∷◌, length, ◌==◌, if◌then◌else◌, Result, Ok, Err, Option, None, Some}
use Rattle.rules.specs.declared.Step.{Step}
use Rattle.majority.specs.declared.Counts.{Counts}
use Rattle.tables.specs.Bytes.{field_of}
use Rattle.tables.specs.Calls.{check_of}
use Rattle.rewriting.specs.Calls.{step_of, step_bytes}
use Rattle.rewriting.specs.declared.Progress.{Progress}
use Rattle.refusals.specs.declared.Refusal.{Refusal}
use Rattle.refusals.specs.declared.Refusal.TheVariants as refusal

-- what a script replies, and the bytes that it leaves: the steps taken, the refusal that stopped it, if one did, and the used length
pub record Run : Type 0 where
  pub taken : ℕ
  pub end : Option Refusal
  pub used : ℕ
  pub bytes : List ℕ

-- step i of a script: its eight bytes are four fields, the number of the rule, the gate, a and b
abbrev pub step_at : List ℕ → ℕ → Step
step_at xs i = record { rule = field_of xs i 0; gate = field_of xs i 1; a = field_of xs i 2; b = field_of xs i 3 }

-- k steps of a script, from step i on
unfoldable pub steps_from : List ℕ → ℕ → ℕ → List Step
steps_from xs i zero = []
steps_from xs i (suc k) = step_at xs i ∷ steps_from xs (suc i) k

-- the steps of a script
abbrev pub steps_of : List ℕ → List Step
steps_of xs = steps_from xs 0 (length xs / 8)

-- the script is a whole number of steps long
abbrev pub whole : List ℕ → Bool
whole xs = length xs % 8 == 0

-- what follows an accepted step, or a refused one
abbrev pub by_reply : {A : Type 0} → Result ℕ Refusal → (ℕ → A) → (Refusal → A) → A
by_reply (Ok used) on stop = on used
by_reply (Err w) on stop = stop w

-- no step is taken
abbrev pub untaken : Refusal → List ℕ → ℕ → Run
untaken w xs used = record { taken = 0; end = Some w; used = used; bytes = xs }

-- where a step on the first `used` bytes of a buffer replies `reply` and leaves the bytes `left`
module _ (reply : List ℕ → ℕ → Step → Result ℕ Refusal) (left : List ℕ → ℕ → Step → List ℕ) where
  -- the steps, one after another, where `taken` were taken before
  unfoldable pub run_by : ℕ → List ℕ → ℕ → List Step → Run
  run_by taken xs used [] = record { taken = taken; end = None; used = used; bytes = xs }
  run_by taken xs used (s ∷ steps) =
      by_reply (reply xs used s)
      (λ next. run_by (taken + 1) (left xs used s) next steps)
      (λ w. record { taken = taken; end = Some w; used = used; bytes = xs })

  abbrev pub after_check : Result Counts Refusal → List ℕ → ℕ → List ℕ → Run
  after_check (Err w) xs used steps = untaken w xs used
  after_check (Ok c) xs used steps = if not (whole steps) then untaken refusal.Script xs used else run_by 0 xs used (steps_of steps)

  -- a script: refusals 1 to 5 of the table, then 12, then its steps
  unfoldable pub script_by : List ℕ → ℕ → List ℕ → Run
  script_by xs used steps = after_check (check_of xs used) xs used steps

-- with the steps that `step` takes
abbrev pub run_from : ℕ → List ℕ → ℕ → List Step → Run
run_from = run_by step_of step_bytes

abbrev pub script_run : List ℕ → ℕ → List ℕ → Run
script_run = script_by step_of step_bytes

-- the run of which p is the reply and ys are the bytes
abbrev pub run_of : Progress → List ℕ → Run
run_of p ys = record { taken = p.taken; end = p.refusal; used = p.used; bytes = ys }

-- one step more: it counts and gives the used length, or stops the script
abbrev pub progress_after : Progress → Result ℕ Refusal → Progress
progress_after p (Ok n) = record { taken = p.taken + 1; used = n; refusal = None }
progress_after p (Err r) = record { taken = p.taken; used = p.used; refusal = Some r }

-- the counts of a table of this used length, with the inputs and outputs of c
abbrev pub counts_at : Counts → ℕ → Counts
counts_at c used = record { inputs = c.inputs; gates = used / 8 - c.inputs - c.outputs; outputs = c.outputs }

-- the counts after a step that replied so
abbrev pub counts_after : Counts → Result ℕ Refusal → Counts
counts_after c (Ok used) = counts_at c used
counts_after c (Err w) = c

-- the progress of a script of which no step was taken
abbrev pub stopped_by : ℕ → Refusal → Progress
stopped_by used r = record { taken = 0; used = used; refusal = Some r }

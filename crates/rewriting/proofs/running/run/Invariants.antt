-- `running::run` meets its contract. What is left of the script decides; the progress has the used length of the table so far.
use Rattle.std.proofs.Common.{◌≡◌, ◌-◌, ◌/◌, ◌≤◌, length}
use Rattle.std.specs.Prelude.{None}
use Rattle.rewriting.specs.Script.{steps_of, steps_from, run_from}
use Rattle.rewriting.specs.Through.{through_steps}
use Rattle.rewriting.specs.Follow.{followed_places}
use Rattle.rewriting.specs.inner.Applied.{used_by}
use Rattle.rewriting.specs.inner.Places.{Places}
use Rattle.rewriting.proofs.running.run.Given as goal

abbrev pub invariant-loop-i : goal.invariant-loop-i
invariant-loop-i l = record {
  lent : l.table.bytes.ghost_name ≡ l.initial.table.bytes.ghost_name;
  few : l.progress.taken ≤ l.i;
  short : l.n ≤ 2305843009213693951;
  going : l.progress.refusal ≡ None;
  used : l.progress.used ≡ used_by l.table.counts;
  inputs : l.table.counts.inputs ≡ l.initial.table.counts.inputs;
  within : Places l.table.counts.inputs l.table.counts.gates (length l.places) l.places;
  rest : run_from 0 l.initial.table.bytes.now (used_by l.initial.table.counts) (steps_of l.steps)
      ≡ run_from l.progress.taken l.table.bytes.now l.progress.used (steps_from l.steps l.i (length l.steps / 8 - l.i));
  places : through_steps (followed_places l.initial.table.counts.inputs (length l.initial.places)) l.initial.table.bytes.now (used_by l.initial.table.counts) (steps_of l.steps) l.initial.places
      ≡ through_steps (followed_places l.initial.table.counts.inputs (length l.initial.places)) l.table.bytes.now l.progress.used (steps_from l.steps l.i (length l.steps / 8 - l.i)) l.places;
}

abbrev pub decreases-loop-i : goal.decreases-loop-i
decreases-loop-i l = l.n - l.i

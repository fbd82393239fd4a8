-- `levels::set_levels` meets its contract. The loop's invariant: what is left, done to the levels so far, gives what the whole was to give.
use Rattle.std.proofs.Common.{◌≡◌, ◌-◌}
use Rattle.tables.specs.Bytes.{records_of}
use Rattle.questions.specs.Levelled.{levelled_by}
use Rattle.questions.proofs.levels.set_levels.Given as goal

abbrev pub invariant-loop-i : goal.invariant-loop-i
invariant-loop-i l = levelled_by (records_of l.s) l.i (l.n - l.i) l.levels ≡ levelled_by (records_of l.s) l.first (l.n - l.first) l.initial.levels

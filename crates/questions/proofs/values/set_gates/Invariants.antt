-- `values::set_gates` meets its contract: the nodes so far are set, from the inputs on.
use Rattle.std.proofs.Common.{◌+◌}
use Rattle.majority.specs.Value.{values as values_of}
use Rattle.questions.specs.inner.Worths.{Holds}
use Rattle.questions.proofs.values.set_gates.Given as goal

abbrev pub invariant-loop-i : goal.invariant-loop-i
invariant-loop-i l = Holds (values_of l.assignment) l.table.records (l.inputs + l.i) l.values

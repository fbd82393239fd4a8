-- `sweeping::mark_gates` meets its contract. The loop's invariant: the marks are those of the nodes that the records from where it stands on reach.
use Rattle.std.proofs.Common.{◌+◌, ◌-◌}
use Rattle.rewriting.specs.inner.Marks.{reached_by, Marked}
use Rattle.rewriting.proofs.sweeping.mark_gates.Given as goal

abbrev pub invariant-loop-done : goal.invariant-loop-done
invariant-loop-done l = Marked (reached_by l.table.records (l.table.counts.inputs + l.table.counts.gates - l.done)) l.marks

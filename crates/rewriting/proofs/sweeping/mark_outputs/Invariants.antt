-- `sweeping::mark_outputs` meets its contract. The loop's invariant: the first j outputs are marked.
use Rattle.std.proofs.Common.{◌+◌}
use Rattle.rewriting.proofs.Marks.{Marking}
use Rattle.rewriting.proofs.sweeping.mark_outputs.Given as goal

abbrev pub invariant-loop-j : goal.invariant-loop-j
invariant-loop-j l = Marking l.table.records (l.table.counts.inputs + l.table.counts.gates) l.j l.marks

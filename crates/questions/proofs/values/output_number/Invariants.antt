-- `values::output_number` meets its contract: the number so far has the bits of the outputs so far.
use Rattle.std.proofs.Common.{◌≡◌}
use Rattle.majority.specs.Value.{output_value, number as number_of}
use Rattle.questions.proofs.values.output_number.Given as goal

abbrev pub invariant-loop-j : goal.invariant-loop-j
invariant-loop-j l = (l.number ≡ number_of (output_value l.assignment l.table.counts.inputs l.table.counts.gates l.table.records) l.j)

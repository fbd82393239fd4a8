-- `levels::depth` meets its contract: the highest so far is that of the nodes that the outputs so far name.
use Rattle.std.proofs.Common.{◌≡◌}
use Rattle.majority.specs.Level.{output_level, highest as highest_of}
use Rattle.questions.proofs.levels.depth.Given as goal

abbrev pub invariant-loop-j : goal.invariant-loop-j
invariant-loop-j l = (l.highest ≡ highest_of (output_level l.table.counts.inputs l.table.counts.gates l.table.records) l.j)

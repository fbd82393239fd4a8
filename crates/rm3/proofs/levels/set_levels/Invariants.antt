-- `levels::set_levels` meets its contract: the levels of the nodes so far are set.
use Rattle.rm3.specs.inner.Levelled.{Levelled}
use Rattle.rm3.proofs.levels.set_levels.Given as goal

abbrev pub invariant-loop-i : goal.invariant-loop-i
invariant-loop-i l = Levelled l.table.counts l.table.records l.i l.levels

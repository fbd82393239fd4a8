-- `sweeping::close_outputs` meets its contract. The loop's invariant: so many outputs have moved.
use Rattle.std.proofs.Common.{◌+◌}
use Rattle.rewriting.specs.inner.ClosedUp.{renumber_by, Moved}
use Rattle.rewriting.proofs.sweeping.close_outputs.Given as goal

abbrev pub invariant-loop-j : goal.invariant-loop-j
invariant-loop-j l = Moved (renumber_by l.numbers) (l.fn.counts.inputs + l.fn.counts.gates) l.place l.j l.initial.s l.s

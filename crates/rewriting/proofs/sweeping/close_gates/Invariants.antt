-- `sweeping::close_gates` meets its contract. The loop's invariant: what stays of the records below i is closed up, and the nodes up to i are numbered.
use Rattle.rewriting.specs.inner.ClosedUp.{ClosedUp}
use Rattle.rewriting.proofs.sweeping.close_gates.Given as goal

abbrev pub invariant-loop-i : goal.invariant-loop-i
invariant-loop-i l = ClosedUp l.initial.s l.fn.counts l.i l.place l.s l.numbers

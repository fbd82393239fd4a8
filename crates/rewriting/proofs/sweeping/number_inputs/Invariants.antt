-- `sweeping::number_inputs` meets its contract: the inputs so far are numbered.
use Rattle.rewriting.specs.inner.ClosedUp.{Numbered}
use Rattle.rewriting.proofs.sweeping.number_inputs.Given as goal

abbrev pub invariant-loop-i : goal.invariant-loop-i
invariant-loop-i l = Numbered (λ k. k) l.i l.numbers

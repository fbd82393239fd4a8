-- `values::set_inputs` meets its contract: the inputs so far are set.
use Rattle.questions.specs.inner.Worths.{HoldsInputs}
use Rattle.questions.proofs.values.set_inputs.Given as goal

abbrev pub invariant-loop-i : goal.invariant-loop-i
invariant-loop-i l = HoldsInputs l.assignment l.i l.values

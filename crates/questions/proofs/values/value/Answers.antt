-- `values::value` meets its contract: the array of values is false everywhere before the inputs are set.
use Rattle.std.proofs.Common.{false, ap, arith}
use Rattle.majority.specs.declared.Counts.{Counts}
use Rattle.tables.proofs.Sound.{fresh}
use Rattle.questions.proofs.values.value.Goals as goal

pub set_inputs-requires : goal.set_inputs-requires
set_inputs-requires c = let inputs = ap (λ (k : Counts). k.inputs) c.counts-inputs.ensures.counts in (omega (arith, inputs, c.counts-inputs.ensures.limits.inputs), fresh false)

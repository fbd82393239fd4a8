-- `forms::has_form` meets its contract: the fields of a voter name a gate.
use Rattle.std.proofs.Common.{refl}
use Rattle.rules.specs.declared.Rule.TheVariants.{Voter}
use Rattle.rules.proofs.AcceptedStep.{gate_field}
use Rattle.rewriting.proofs.forms.has_form.Goals as goal

pub voter_form-requires-clause-from : goal.voter_form-requires-clause-from
voter_form-requires-clause-from c = (gate_field _ _ _ _ _ Voter refl (rw c.in-Voter.is at c.requires)).0

pub voter_form-requires-clause-upto : goal.voter_form-requires-clause-upto
voter_form-requires-clause-upto c = (gate_field _ _ _ _ _ Voter refl (rw c.in-Voter.is at c.requires)).1

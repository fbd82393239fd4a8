-- `sweeping::close_up` meets its contract: the gates close up, and then the outputs move down.
use Rattle.tables.proofs.Sound.{fresh, sound_limits}
use Rattle.rewriting.proofs.MovedOutputs.{outputs_closed}
use Rattle.rewriting.proofs.sweeping.close_up.Goals as goal

pub number_inputs-requires-clause-few : goal.number_inputs-requires-clause-few
number_inputs-requires-clause-few c = (sound_limits c.requires.sound).inputs

pub number_inputs-requires-clause-fresh : goal.number_inputs-requires-clause-fresh
number_inputs-requires-clause-fresh c = fresh 0

pub returns-clause-closed : goal.returns-clause-closed
returns-clause-closed c = outputs_closed c.requires.sound c.close_gates-place.ensures c.close_outputs.ensures

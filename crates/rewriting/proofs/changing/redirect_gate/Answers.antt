-- `changing::redirect_gate` meets its contract: on a checked table the edit of lent records redirects the gate everywhere.
use Rattle.rewriting.proofs.Gate.{at_few}
use Rattle.rewriting.proofs.changing.redirect_gate.Goals as goal

pub records-requires : goal.records-requires
records-requires c = at_few c.requires

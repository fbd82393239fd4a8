-- `changing::edit` meets its contract: each arm is the rule of one case.
use Rattle.std.proofs.Common.{arith}
use Rattle.rules.proofs.AcceptedStep.{share_field}
use Rattle.rewriting.proofs.Gate.{fit_gate, at_node}
use Rattle.rewriting.proofs.changing.edit.Goals as goal

pub plain-requires : goal.plain-requires
plain-requires c = let low = (share_field _ _ _ _ _ (rw c.in-Share.is at c.requires.fits.fields)).1 in
    omega (arith, low, at_node (fit_gate c.requires.fits c.requires.other))

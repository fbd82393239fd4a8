-- `changing::inversion` meets its contract: the gate is redirected to its own inverse, and becomes the inverted one.
use Rattle.std.proofs.Common.{arith}
use Rattle.rewriting.proofs.Gate.{at_node}
use Rattle.rewriting.proofs.changing.inversion.Goals as goal

pub plain-requires : goal.plain-requires
plain-requires c = omega (arith, at_node c.requires)

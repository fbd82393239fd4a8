-- `changing::inward` meets its contract: a gate is inserted, and the one above it becomes another.
use Rattle.std.proofs.Common.{arith}
use Rattle.rewriting.proofs.Gate.{at_few, at_node}
use Rattle.rewriting.proofs.changing.inward.Goals as goal

pub records-requires : goal.records-requires
records-requires c = at_few c.requires.at

pub plain-requires : goal.plain-requires
plain-requires c = omega (arith, at_node c.requires.at)

-- `changing::outward` meets its contract: two gates are inserted, and the one above them becomes another.
use Rattle.std.proofs.Common.{arith}
use Rattle.rewriting.proofs.Gate.{at_few, at_node}
use Rattle.rewriting.proofs.changing.outward.Goals as goal

pub records-requires : goal.records-requires
records-requires c = at_few c.requires.at

pub plain-requires : goal.plain-requires
plain-requires c = omega (arith, at_node c.requires.at)

pub plain-requires-2 : goal.plain-requires-2
plain-requires-2 c = omega (arith, at_node c.requires.at)

-- `voting::levels_fit` meets its contract: the array holds the levels of the nodes up to b.
use Rattle.std.proofs.Common.{arith}
use Rattle.tables.proofs.Sound.{fresh}
use Rattle.questions.proofs.Levelled.{levels_upto}
use Rattle.rewriting.proofs.voting.levels_fit.Goals as goal

pub returns : goal.returns
returns c = let holds = levels_upto c.table.invariant (fresh 0) c.args.b (rw (← c.table.view_is) at c.requires.upto) in
    rw (c.set_levels.ensures, c.counts.ensures.counts, ← c.table.view_is, holds.worths c.args.a (omega (arith, c.requires.order)), holds.worths c.args.b (omega arith))

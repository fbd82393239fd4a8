-- `Writer::put_helpers` meets its contract: the outputs so far have their operands, and what is left decides.
use borrow.Author.Rules.{rules}
use native.Mathlib.Omega.{arith}
use Rattle.rm3.proofs.OutputPass.{naming_small, naming_more, naming_end}
use Rattle.rm3.proofs.writing.Writer.put_helpers.Goals as goal

pub place-requires : goal.place-requires
place-requires c = (c.output-edge.ensures.below, c.output_helped.ensures, omega (arith, naming_small _ _ _ c.counts-j-end.ensures.accepted c.loop-j.invariant.1))

pub loop-j-preserved : goal.loop-j-preserved
loop-j-preserved c =
    let put = c.place.ensures in
    (search rules, naming_more _ _ _ c.counts-j-end.ensures.accepted _ c.loop-j.invariant.0.mode put.operands c.output-edge.ensures.edge (search rules) put.on.size put.places c.loop-j.invariant.1)

pub returns-clause-put : goal.returns-clause-put
returns-clause-put c = naming_end _ _ _ c.counts-j-end.ensures.accepted (search rules) c.loop-j.invariant.1

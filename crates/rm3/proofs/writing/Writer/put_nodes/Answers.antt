-- `Writer::put_nodes` meets its contract: the records so far are translated, and what is left decides.
use borrow.Author.Rules.{rules}
use native.Mathlib.Omega.{arith}
use Rattle.rm3.proofs.NodePass.{gone_small, gone_more}
use Rattle.rm3.proofs.writing.Writer.put_nodes.Goals as goal

pub put_node-requires : goal.put_node-requires
put_node-requires c = (c.record.ensures.below, omega (arith, gone_small _ _ _ c.counts-counts.ensures.accepted c.loop-i.invariant.1))

pub overflow_add-self : goal.overflow_add-self
overflow_add-self c =
    let sound = c.counts-counts.ensures.accepted in
    let put = c.put_node.ensures in
    omega (arith, gone_small _ _ _ sound (gone_more _ _ _ sound _ c.loop-i.invariant.0.mode put.operands c.record.ensures.record (search rules) put.on.size put.writes c.loop-i.invariant.1))

pub loop-i-preserved : goal.loop-i-preserved
loop-i-preserved c =
    let put = c.put_node.ensures in
    (search rules, gone_more _ _ _ c.counts-counts.ensures.accepted _ c.loop-i.invariant.0.mode put.operands c.record.ensures.record (search rules) put.on.size put.writes c.loop-i.invariant.1)

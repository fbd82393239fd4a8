-- `sweeping::mark_outputs` meets its contract.
use Rattle.std.proofs.Common.{ap, arith}
use Rattle.majority.specs.declared.Counts.{Counts}
use Rattle.rewriting.proofs.Marks.{marking_next, marking_end}
use Rattle.rewriting.proofs.sweeping.mark_outputs.Goals as goal

pub loop-j-preserved : goal.loop-j-preserved
loop-j-preserved c =
    let outputs = ap (λ (k : Counts). k.outputs) c.counts-j-end.ensures.counts in
    rw c.mark.ensures (marking_next c.counts-j-end.ensures.formed _ _ (omega (arith, c.loop-j-test.true, outputs)) c.output.ensures.edge c.output.ensures.below c.loop-j.invariant)

pub returns : goal.returns
returns c =
    let outputs = ap (λ (k : Counts). k.outputs) c.counts-j-end.ensures.counts in
    marking_end c.counts-j-end.ensures.formed _ (omega (arith, c.loop-j-test.false, c.loop-j.auto.j-end, outputs)) c.loop-j.invariant

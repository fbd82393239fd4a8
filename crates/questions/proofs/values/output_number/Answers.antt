-- `values::output_number` meets its contract: the number so far has the bits of the outputs so far.
use Rattle.std.proofs.Common.{sym, ap, ◌∙◌, arith}
use Rattle.majority.proofs.Numbers.{number_set, number_clear}
use Rattle.majority.specs.declared.Counts.{Counts}
use Rattle.questions.specs.inner.Worths.{edge_value}
use Rattle.questions.proofs.Worths.{output_value_lem}
use Rattle.questions.proofs.values.output_number.Goals as goal
use Rattle.questions.proofs.values.output_number.Goals.{else-edge_value, then-edge_value}

pub loop-j-preserved : goal.loop-j-preserved
loop-j-preserved c =
    let facts = c.counts-j-end.ensures in
    let outputs = ap (λ (k : Counts). k.outputs) facts.counts in
    let value =
    sym (c.edge_value.ensures ∙ ap (edge_value c.args.values.now) c.output.ensures.edge ∙ output_value_lem facts.formed c.args.assignment c.loop-j.j (omega (arith, outputs, c.loop-j-test.true)) c.requires)
    in
    elim c.if-edge_value.branch [ then-edge_value w ↦ number_set _ c.loop-j.j _ (omega (arith, outputs, c.loop-j-test.true, facts.limits.outputs)) c.loop-j.invariant _ (value ∙ w.if-edge_value.true) w.number-is | else-edge_value w ↦ number_clear _ c.loop-j.j _ (omega (arith, outputs, c.loop-j-test.true, facts.limits.outputs)) c.loop-j.invariant _ (value ∙ w.if-edge_value.false) w.number-is ]

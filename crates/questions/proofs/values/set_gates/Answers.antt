-- `values::set_gates` meets its contract: the nodes so far are set, from the inputs on.
use Rattle.std.proofs.Common.{◌≡◌, ◌+◌, ◌<◌, ap, ◌∙◌, arith}
use Rattle.questions.specs.inner.Worths.{gate_value}
use Rattle.questions.proofs.Worths.{holds_more, gate_value_lem, values_begin}
use Rattle.questions.proofs.values.set_gates.Goals as goal

pub loop-i-init : goal.loop-i-init
loop-i-init c =
    let n = c.args.table.now.counts.inputs in
    let none : n + 0 ≡ n = omega arith in
    rw (c.counts-inputs.ensures.counts, none) (values_begin c.counts-inputs.ensures.formed _ c.requires)

pub loop-i-preserved : goal.loop-i-preserved
loop-i-preserved c =
    let facts = c.counts-inputs.ensures in
    let n = c.args.table.now.counts.inputs in
    let low : c.loop-i.i < c.args.table.now.counts.gates = rw (← c.gates-bytes-items.ensures.many) c.loop-i-test.true in
    let holds = rw facts.counts at c.loop-i.invariant in
    let value =
    c.gate_value.ensures
    ∙ ap (gate_value c.loop-i.values) (c.read.ensures ∙ c.gates-bytes-items.ensures.each c.loop-i.i low)
    ∙ gate_value_lem facts.formed _ (n + c.loop-i.i) (omega arith) (omega arith) holds
    in
    let on : n + (c.loop-i.i + 1) ≡ n + c.loop-i.i + 1 = omega arith in
    rw (facts.counts, on) (holds_more _ _ (omega (arith, facts.limits.inputs, facts.limits.gates)) value holds)

-- `sweeping::mark_gates` meets its contract.
use Rattle.std.proofs.Common.{◌≡◌, ◌+◌, ◌-◌, ◌<◌, false, get_or, sym, ap, ◌∙◌, arith}
use Rattle.majority.specs.Table.{record_at}
use Rattle.majority.specs.declared.Counts.{Counts}
use Rattle.rewriting.proofs.Marks.{mark_gate, mark_skip, mark_end}
use Rattle.rewriting.proofs.sweeping.mark_gates.Goals as goal
use Rattle.rewriting.proofs.sweeping.mark_gates.Goals.{else-marks-k, then-marks-k}

pub loop-done-preserved : goal.loop-done-preserved
loop-done-preserved c =
    let t = c.args.table.now in
    let limits = c.counts-inputs.ensures.limits in
    let inputs = ap (λ (k : Counts). k.inputs) c.counts-inputs.ensures.counts in
    let gates = ap (λ (k : Counts). k.gates) c.counts-inputs.ensures.counts in
    let next = t.counts.inputs + t.counts.gates - (c.loop-done.done + 1) in
    let k = t.counts.inputs + t.counts.gates - c.loop-done.done in
    let here : c.loop-done.done < t.counts.gates = omega (arith, c.loop-done-test.true, gates) in
    let read : c.counts-inputs.result.inputs + c.counts-inputs.result.gates - c.loop-done.done - 1 ≡ next = omega (arith, inputs, gates) in
    let own = ap (λ (q : Counts). get_or c.loop-done.marks (q.inputs + q.gates - c.loop-done.done) false) c.counts-inputs.ensures.counts in
    elim c.if-marks-k.branch [
      | then-marks-k w ↦ rw (w.marks-is ∙ w.mark_names.ensures)
          (mark_gate c.counts-inputs.ensures.formed k next (omega arith) (omega (arith, limits.inputs, limits.gates)) (omega arith) (omega arith) c.loop-done.invariant
          w.«record».result
          (w.«record».ensures.«record» ∙ ap (record_at t.records) read)
          w.«record».ensures.below
          (sym own ∙ w.if-marks-k.true))
      | else-marks-k w ↦ rw w.marks-is
          (mark_skip c.counts-inputs.ensures.formed k next (omega arith) (omega (arith, limits.inputs, limits.gates)) (omega arith) (omega arith) c.loop-done.invariant (sym own ∙ w.if-marks-k.false))
    ]

pub returns : goal.returns
returns c =
    let gates = ap (λ (k : Counts). k.gates) c.counts-inputs.ensures.counts in
    mark_end c.counts-inputs.ensures.formed _ (omega (arith, c.loop-done-test.false, c.loop-done.auto.done-end, gates)) c.loop-done.invariant

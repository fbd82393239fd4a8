-- `sweeping::number_left` meets its contract.
use Rattle.std.proofs.Common.{◌+◌, ◌<◌, ◌≤◌, false, sym, ap, ◌∙◌, arith}
use Rattle.majority.specs.declared.Counts.{Counts}
use Rattle.tables.proofs.Sound.{fresh}
use Rattle.rewriting.proofs.NewNumbers.{number_input}
use Rattle.rewriting.proofs.ClosedGates.{mark_stays}
use Rattle.rewriting.proofs.NumbersLeft.{left_inputs, left_kept, left_dropped}
use Rattle.rewriting.proofs.sweeping.number_left.Goals as goal
use Rattle.rewriting.proofs.sweeping.number_left.Goals.{else-stays, then-stays}

pub mark_reached-requires : goal.mark_reached-requires
mark_reached-requires c = fresh false

pub loop-i-init : goal.loop-i-init
loop-i-init c = let formed = c.counts-inputs.ensures.formed in
    let inputs = ap (λ (k : Counts). k.inputs) c.counts-inputs.ensures.counts in
    rw inputs (record { last = sym (number_input formed _ (omega arith)); numbers = left_inputs formed (rw inputs at c.number_inputs.ensures) })

pub loop-i-preserved : goal.loop-i-preserved
loop-i-preserved c = let formed = c.counts-inputs.ensures.formed in
    let limits = c.counts-inputs.ensures.limits in
    let t = c.args.table.now.counts in
    let inputs = ap (λ (k : Counts). k.inputs) c.counts-inputs.ensures.counts in
    let gates = ap (λ (k : Counts). k.gates) c.counts-inputs.ensures.counts in
    let from : t.inputs ≤ c.loop-i.i = omega (arith, c.loop-i.auto.i, inputs) in
    let upto : c.loop-i.i < t.inputs + t.gates = omega (arith, c.loop-i-test.true, inputs, gates) in
    let few : c.loop-i.i < 1056 = omega (arith, limits.inputs, limits.gates) in
    let stays = mark_stays formed limits c.mark_reached.ensures c.loop-i.i from upto in
    elim c.if-stays.branch [
      | then-stays w ↦ let kept = left_kept formed c.loop-i.i c.loop-i.last few c.loop-i.invariant.numbers c.loop-i.invariant.last (sym stays ∙ w.if-stays.true) in
          record { last = w.last-is ∙ kept.0; numbers = rw w.number-is kept.1 }
      | else-stays w ↦ let dropped = left_dropped formed c.loop-i.i c.loop-i.last few c.loop-i.invariant.numbers c.loop-i.invariant.last (sym stays ∙ w.if-stays.false) in
          record { last = w.last-is ∙ dropped.0; numbers = rw w.number-is dropped.1 }
    ]

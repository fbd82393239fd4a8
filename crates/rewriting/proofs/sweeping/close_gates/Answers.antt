-- `sweeping::close_gates` meets its contract. The loop's invariant: what stays of the records below i is closed up, and the nodes up to i are numbered.
use Rattle.std.proofs.Common.{◌∙◌, arith}
use Rattle.majority.proofs.Formed.{below_more}
use Rattle.tables.proofs.Sound.{sound_accepted}
use Rattle.rewriting.proofs.ClosedGates.{close_start, close_below, close_keep, close_drop}
use Rattle.rewriting.proofs.sweeping.close_gates.Goals as goal
use Rattle.rewriting.proofs.sweeping.close_gates.Goals.{else-marks-i, then-marks-i}

pub loop-i-init : goal.loop-i-init
loop-i-init c = close_start c.requires.sound c.requires.numbered

pub bounds-marks-i : goal.bounds-marks-i
bounds-marks-i c = let limits = (sound_accepted c.requires.sound).limits in
    omega arith

pub renumbered_record-requires-clause-named : goal.renumbered_record-requires-clause-named
renumbered_record-requires-clause-named c = let limits = (sound_accepted c.requires.sound).limits in
    let below = close_below c.requires.sound c.loop-i.i c.loop-i.place c.loop-i.auto.i c.loop-i-test.true c.loop-i.invariant _ c.record_at-r.ensures in
    below_more _ _ _ (omega arith) below

pub renumbered_record-requires-clause-lower : goal.renumbered_record-requires-clause-lower
renumbered_record-requires-clause-lower c = c.loop-i.invariant.numbers.lower

pub bounds-numbers-i : goal.bounds-numbers-i
bounds-numbers-i c = let limits = (sound_accepted c.requires.sound).limits in
    omega arith

pub loop-i-preserved : goal.loop-i-preserved
loop-i-preserved c = elim c.if-marks-i.branch [
  | then-marks-i w ↦ let kept = close_keep c.requires.sound c.loop-i.i c.loop-i.place c.loop-i.auto.i c.loop-i-test.true c.loop-i.invariant c.requires.marked w.if-marks-i.true _ _ w.record_at-r.ensures w.renumbered_record.ensures in
      rw (w.s-is ∙ w.put_record.ensures, w.place-is) kept
  | else-marks-i w ↦ let dropped = close_drop c.requires.sound c.loop-i.i c.loop-i.place c.loop-i.auto.i c.loop-i-test.true c.loop-i.invariant c.requires.marked w.if-marks-i.false in
      rw (w.s-is, w.place-is) dropped
]

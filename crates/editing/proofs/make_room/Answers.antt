-- `editing::make_room` meets its contract. The first loop's invariant: as many records as are done have moved up, and those below are as they were. The second
-- loop's: if that was so where it began, it is so.
use Rattle.std.proofs.Common.{◌+◌, ◌-◌, sym, ◌∙◌, arith, rules}
use Rattle.editing.proofs.Loops.{has_room, move_start, move_next}
use Rattle.editing.proofs.make_room.Goals as goal

pub loop-done-init : goal.loop-done-init
loop-done-init c = let a = c.args in
    let room = has_room _ _ _ _ (sym c.no_room.ensures ∙ c.if-no_room.false) in
    (omega arith, omega arith, λ i. (c.type_inv.s i).fits, move_start a.s.now a.n a.g a.k (a.n - 0) (omega arith))

pub loop-done-preserved : goal.loop-done-preserved
loop-done-preserved c = let a = c.args in
    let i = a.n - (c.loop-done.done + 4) in
    let room = sym c.no_room.ensures ∙ c.if-no_room.false in
    let one = move_next a.s.now a.n a.g a.k room (i + 3) _ (omega arith) (omega arith) (omega arith) c.move_up.ensures c.loop-done.invariant.3 in
    let two = move_next a.s.now a.n a.g a.k room (i + 2) _ (omega arith) (omega arith) (omega arith) c.move_up-in-loop-done.ensures one in
    let three = move_next a.s.now a.n a.g a.k room (i + 1) _ (omega arith) (omega arith) (omega arith) c.move_up-in-loop-done-2.ensures two in
    let four = move_next a.s.now a.n a.g a.k room i _ (omega arith) (omega arith) (omega arith) c.move_up-in-loop-done-3.ensures three in
    (c.loop-done.invariant.0, omega arith, λ j. (c.type_inv.s j).fits, four)

pub loop-done-2-preserved : goal.loop-done-2-preserved
loop-done-2-preserved c = let a = c.args in
    let i = a.n - (c.loop-done-2.done + 1) in (
      c.loop-done-2.invariant.0,
      omega arith,
      λ j. (c.type_inv.s j).fits,
      search rules,
      λ xs room s. move_next xs a.n a.g a.k room i _ (omega arith) (omega arith) (omega arith) c.move_up-in-loop-done-2-2.ensures (c.loop-done-2.invariant.4 xs room s),
    )

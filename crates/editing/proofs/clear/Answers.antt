-- `editing::clear` meets its contract.
use Rattle.std.proofs.Common.{refl}
use Rattle.editing.proofs.Loops.{edit_start, edit_next}
use Rattle.editing.proofs.clear.Goals as goal

pub loop-i-init : goal.loop-i-init
loop-i-init c = edit_start _ _ _ _ c.if-s-n.false c.type_inv.s

pub loop-i-preserved : goal.loop-i-preserved
loop-i-preserved c = edit_next _ _ _ _ c.if-s-n.false _ _ c.loop-i.auto.i c.loop-i-test.true refl c.put_record.ensures c.type_inv.s c.loop-i.invariant

-- `editing::insert` meets its contract.
use Rattle.std.proofs.Common.{sym, ◌∙◌}
use Rattle.editing.proofs.Inserted.{placing_start, placing_next}
use Rattle.editing.proofs.insert.Goals as goal

pub loop-i-init : goal.loop-i-init
loop-i-init c = placing_start _ _ _ _ (sym c.no_room.ensures ∙ c.if-no_room.false) c.make_room.ensures c.type_inv.s

pub loop-i-preserved : goal.loop-i-preserved
loop-i-preserved c = placing_next _ _ _ _ (sym c.no_room.ensures ∙ c.if-no_room.false) _ c.loop-i-test.true c.put_record.ensures c.type_inv.s c.loop-i.invariant

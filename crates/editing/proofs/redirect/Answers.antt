-- `editing::redirect` meets its contract.
use Rattle.std.proofs.Common.{sym, ap, ◌∙◌}
use Rattle.majority.specs.Edge.{redirect}
use Rattle.majority.specs.Edit.{edges}
use Rattle.editing.proofs.Changed.{unnamed}
use Rattle.editing.proofs.Loops.{edit_start, edit_next, edit_skip}
use Rattle.editing.proofs.redirect.Goals as goal
use Rattle.editing.proofs.redirect.Goals.{else-names, then-names}

pub loop-i-init : goal.loop-i-init
loop-i-init c = edit_start _ _ _ _ c.if-s-n.false c.type_inv.s

pub loop-i-preserved : goal.loop-i-preserved
loop-i-preserved c =
    let f = edges (redirect c.args.from c.args.to) in
    let read = ap f c.record_at-r.ensures in
    elim c.if-names.branch [
      | then-names w ↦ edit_next _ _ _ _ c.if-s-n.false _ _ c.loop-i.auto.i c.loop-i-test.true (w.redirected_record.ensures ∙ read) (w.s-is ∙ w.put_record.ensures) (rw w.s-is w.slice_known-then-names-1.given) c.loop-i.invariant
      | else-names w ↦ let same = sym read ∙ unnamed c.args.from c.args.to _ (sym c.names.ensures ∙ w.if-names.false) ∙ c.record_at-r.ensures in
          rw w.s-is (edit_skip _ _ _ _ c.if-s-n.false _ c.loop-i.auto.i c.loop-i-test.true same c.loop-i.invariant)
    ]

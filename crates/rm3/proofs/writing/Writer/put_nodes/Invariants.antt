-- `Writer::put_nodes` meets its contract: the records so far are translated, and what is left decides.
use Rattle.rm3.specs.inner.Laid.{GoesOn, Gone}
use Rattle.rm3.proofs.writing.Writer.put_nodes.Given as goal

abbrev pub invariant-loop-i : goal.invariant-loop-i
invariant-loop-i l =
    let w = l.initial.self in
    GoesOn w l.self × Gone w.mode l.table.counts l.table.records w.out.now l.i l.self.at l.self.operands.now l.self.helpers.now l.self.out.now

-- `Writer::put_helpers` meets its contract: the outputs so far have their operands, and what is left decides.
use Rattle.rm3.specs.inner.Laid.{GoesOn, Naming}
use Rattle.rm3.proofs.writing.Writer.put_helpers.Given as goal

abbrev pub invariant-loop-j : goal.invariant-loop-j
invariant-loop-j l =
    let w = l.initial.self in
    GoesOn w l.self × Naming w.mode l.table.counts l.table.records w.out.now l.j l.self.at l.self.operands.now l.self.helpers.now l.named l.self.out.now

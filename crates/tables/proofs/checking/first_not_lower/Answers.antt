-- `checking::first_not_lower` meets its contract: where it stops, all before reads lower nodes.
use Rattle.std.proofs.Common.{◌≡◌, ◌-◌, false, sym, ap, ◌∙◌, arith}
use Rattle.majority.specs.Check.{faulty}
use Rattle.majority.specs.Seek.{first_from}
use Rattle.majority.proofs.Seek.{Seeking, seek_next}
use Rattle.tables.specs.inner.Runs.{faulty_as}
use Rattle.tables.proofs.Faults.{same_run}
use Rattle.tables.proofs.checking.first_not_lower.Goals as goal

pub returns-then-not-reads_lower-clause-faults : goal.returns-then-not-reads_lower-clause-faults
returns-then-not-reads_lower-clause-faults c = λ last. same_run c.args.s.now 2 last c.args.from c.loop-i.i c.args.to (c.loop-i.invariant last)

pub loop-i-preserved : goal.loop-i-preserved
unfolding faulty_as
loop-i-preserved c = λ last.
    let passes : faulty_as c.args.s.now 2 last c.loop-i.i ≡ false = sym (ap (faulty last c.loop-i.i) c.record_as.ensures) ∙ c.reads_lower.ensures c.if-not-reads_lower.false last in
    seek_next (faulty_as c.args.s.now 2 last) c.args.to c.loop-i.i _ c.loop-i-test.true passes (c.loop-i.invariant last)

pub returns-clause-faults : goal.returns-clause-faults
returns-clause-faults c = λ last.
    let end : c.loop-i.i ≡ c.args.to = omega (arith, c.loop-i-test.false, c.loop-i.auto.i, c.loop-i.auto.i-end) in
    let sought : Seeking (faulty_as c.args.s.now 2 last) c.args.to c.loop-i.i (first_from (faulty_as c.args.s.now 2 last) c.args.from (c.args.to - c.args.from)) = c.loop-i.invariant last in
    same_run c.args.s.now 2 last c.args.from c.args.to c.args.to (rw end at sought)

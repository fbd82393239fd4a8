-- `sweeping::close_outputs` meets its contract. The loop's invariant: so many outputs have moved.
use Rattle.std.proofs.Common.{arith}
use Rattle.rewriting.proofs.MovedOutputs.{moved_read, moved_next}
use Rattle.rewriting.proofs.sweeping.close_outputs.Goals as goal

pub renumbered_record-requires-clause-named : goal.renumbered_record-requires-clause-named
renumbered_record-requires-clause-named c = let read = moved_read _ _ _ _ c.loop-j.j c.requires.down (omega (arith, c.requires.fits)) c.loop-j.invariant _ c.record_at-r.ensures in
    rw read (c.requires.named c.loop-j.j c.loop-j-test.true)

pub loop-j-preserved : goal.loop-j-preserved
loop-j-preserved c = let moved = moved_next _ _ _ _ c.loop-j.j c.requires.down (omega (arith, c.requires.fits)) c.loop-j.invariant _ c.record_at-r.ensures _ c.renumbered_record.ensures in
    rw c.put_record.ensures moved

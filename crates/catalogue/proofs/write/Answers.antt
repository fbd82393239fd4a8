-- `write` meets its contract. The loop's invariant: the records below i are the table's, and what stands past the table is as it was.
use native.Mathlib.Omega.{arith}
use Rattle.tables.proofs.HoldsFirst.{write_start, write_next, write_end}
use Rattle.catalogue.proofs.write.Goals as goal

pub loop-i-init : goal.loop-i-init
loop-i-init c = record { bytes = λ k. (c.type_inv.out k).fits; written = write_start _ _ }

pub loop-i-preserved : goal.loop-i-preserved
loop-i-preserved c = record {
  bytes = λ k. (c.type_inv.out k).fits;
  written = rw c.put_record.ensures (write_next _ _ c.requires c.loop-i.i _ (omega arith) c.record_of.ensures c.loop-i.invariant.written);
}

pub returns : goal.returns
returns c = write_end _ _ c.requires c.loop-i.i (omega arith) c.loop-i.invariant.bytes c.loop-i.invariant.written

-- `write` meets its contract. The loop's invariant: the records below i are the table's, and what stands past the table is as it was.
use Rattle.tables.proofs.Encoded.{Bytes}
use Rattle.tables.proofs.HoldsFirst.{WrittenTo}
use Rattle.catalogue.specs.Networks.{network_of}
use Rattle.catalogue.proofs.write.Given as goal

abbrev pub invariant-loop-i : goal.invariant-loop-i
invariant-loop-i l = record { bytes : Bytes l.out; written : WrittenTo (network_of l.entry) l.initial.out l.i l.out }

-- `checking::run_end` meets its contract. The loop seeks a record of another kind: what is left decides.
use Rattle.tables.specs.Bytes.{table_of}
use Rattle.tables.specs.inner.Runs.{other_kind, run_end}
use Rattle.majority.proofs.Seek.{Seeking}
use Rattle.tables.proofs.checking.run_end.Given as goal

abbrev pub invariant-loop-i : goal.invariant-loop-i
invariant-loop-i l = Seeking (other_kind (table_of l.s l.n) l.kind) l.n l.i (run_end (table_of l.s l.n) l.n l.kind l.from)

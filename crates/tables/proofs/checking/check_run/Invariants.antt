-- `checking::check_run` meets its contract. The loop seeks a fault: what is left decides.
use Prim.Native.Nat.{◌-◌}
use Rattle.majority.specs.Seek.{first_from}
use Rattle.tables.specs.inner.Runs.{faulty_as}
use Rattle.majority.proofs.Seek.{Seeking}
use Rattle.tables.proofs.checking.check_run.Given as goal

abbrev pub invariant-loop-i : goal.invariant-loop-i
invariant-loop-i l = Seeking (faulty_as l.s l.kind l.last) l.to l.i (first_from (faulty_as l.s l.kind l.last) l.from (l.to - l.from))

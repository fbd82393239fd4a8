-- `checking::first_not_lower` meets its contract: as long as all read lower nodes, a search for a fault goes on.
use Rattle.std.proofs.Common.{ℕ, ◌-◌}
use Rattle.majority.specs.Seek.{first_from}
use Rattle.majority.proofs.Seek.{Seeking}
use Rattle.tables.specs.inner.Runs.{faulty_as}
use Rattle.tables.proofs.checking.first_not_lower.Given as goal

abbrev pub invariant-loop-i : goal.invariant-loop-i
invariant-loop-i l = (last : ℕ) → Seeking (faulty_as l.s 2 last) l.to l.i (first_from (faulty_as l.s 2 last) l.from (l.to - l.from))

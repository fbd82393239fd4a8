-- `checking::check_kinds` meets its contract: three runs find the first bad kind, or the counts.
use native.Mathlib.Omega.{arith}
use Rattle.tables.proofs.Decoded.{length_table}
use Rattle.tables.proofs.Runs.{runs_inside}
use Rattle.tables.proofs.checking.check_kinds.Goals as goal

pub overflow_sub-result : goal.overflow_sub-result
overflow_sub-result c = omega (arith, runs_inside _ _ (length_table _ _) _ _ _ c.run_end-inputs.ensures c.run_end-nodes.ensures c.run_end-end.ensures)

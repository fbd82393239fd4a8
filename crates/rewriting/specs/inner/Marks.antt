-- The marks of sweep (SPEC 5.3, rule 8): a node is marked where an output reaches it.
use Rattle.std.specs.Prelude.{◌≡◌, ℕ, suc, ◌<◌, ◌≤◌, Bool, true, false, List, length, drop, slice_index_or, slice_set}
use Rattle.majority.specs.Edge.{node_of}
use Rattle.rules.specs.Sweep.{member, reached_from}
use Rattle.majority.specs.declared.Record.{Record}

-- the nodes that the records of t from record i on reach
unfoldable pub reached_by : List Record → ℕ → List ℕ
reached_by t i = reached_from (suc i) (drop i t)

-- the marks are those of the nodes ks. The constant's is not read: it stays, whatever its mark
pub record Marked (ks : List ℕ) (marks : List Bool) : Type 0 where
  pub room : length marks ≡ 1057
  pub marked : (k : ℕ) → 1 ≤ k → k < 1057 → slice_index_or marks k false ≡ member k ks

-- the marks, and one for each node that r names
abbrev pub mark_names : List Bool → Record → List Bool
mark_names marks r = slice_set (slice_set (slice_set marks (node_of r.e1) true) (node_of r.e2) true) (node_of r.e3) true

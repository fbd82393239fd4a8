-- Levels of a translation (SPEC 6.1 and 6.2), told from the majority table: of each node's operand, of a gate's operation, of an output's operand.
use Rattle.std.specs.Prelude.{ℕ, ◌+◌, Bool, List, eqb, get_or}
use Rattle.majority.specs.Edge.{node_of}
use Rattle.majority.specs.Level.{above}
use Rattle.translation.specs.Rm3.{level3}
use Rattle.translation.specs.Translate.{class_of, middle, operands_of, translation}
use Rattle.translation.specs.Count3.{helper_count}
use Rattle.majority.specs.declared.Record.{Record}
use Rattle.translation.specs.declared.Mode.{Mode}

-- the level of the operand of node k in the translation of a table of n inputs and m gates
unfoldable pub operand_level : Mode → ℕ → ℕ → List Record → ℕ → ℕ
operand_level mode n m rs k = level3 (translation mode n m rs) (get_or (operands_of mode n m rs) k 0)

-- the level of the operand of the edge e, in the middle place or another, where that of node k has the level v k: a helper stands one higher
abbrev pub edge_level : (ℕ → ℕ) → Bool → ℕ → ℕ
edge_level v isMiddle e = v (node_of e) + helper_count isMiddle (class_of e)

-- the level of a gate's operation
unfoldable pub gate_level : (ℕ → ℕ) → Record → ℕ
gate_level v r =
    let mid = middle (class_of r.e1) (class_of r.e2) (class_of r.e3) in
    above (edge_level v (eqb mid 1) r.e1) (edge_level v (eqb mid 2) r.e2) (edge_level v (eqb mid 3) r.e3)

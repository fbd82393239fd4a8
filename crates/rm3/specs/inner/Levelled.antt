-- Levels of operands in a list, one a node, as the depth is worked out (SPEC 6.1).
use Rattle.std.specs.Prelude.{ℕ, ◌≤◌, ◌≡◌, List, length, get_or}
use Rattle.translation.specs.Level3.{operand_level}
use Rattle.majority.specs.declared.Record.{Record}
use Rattle.majority.specs.declared.Counts.{Counts}
use Rattle.translation.specs.declared.Mode.TheVariants.{Once}

-- the level of the operand of node k
abbrev pub level_in : List ℕ → ℕ → ℕ
level_in levels k = get_or levels k 0

-- the list holds the levels of the operands of the nodes 0 to i, and has room for every node
pub record Levelled (c : Counts) (rs : List Record) (i : ℕ) (levels : List ℕ) : Type 0 where
  pub room : length levels ≡ 1057
  pub each : (k : ℕ) → k ≤ i → level_in levels k ≡ operand_level Once c.inputs c.gates rs k

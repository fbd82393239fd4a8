-- Whose block a record of the RM3 table has (SPEC 6.2), in either mode. Records are only put at the end of the table so far. So what was made for a gate, the
-- helpers that it is the first to need and then its operation, stands after the operand of the node before it, up to its own operand.
use Rattle.std.specs.Prelude.{ℕ, suc, ◌+◌, ◌-◌, ◌≤◌, ◌<◌, ◌≡◌, List, get_or}
use Rattle.majority.specs.Table.{record_at}
use Rattle.translation.specs.Translate.{operands_of}
use Rattle.majority.specs.declared.Record.{Record}
use Rattle.translation.specs.declared.Mode.{Mode}

-- how many records the translation of a table of n inputs and m gates has up to the operand of node k
abbrev pub up_to : Mode → ℕ → ℕ → List Record → ℕ → ℕ
up_to mode n m rs k = get_or (operands_of mode n m rs) k 0 - 1

-- one record or more of the table ts, from `start` on and before `end`, each of the block b
pub record OfBlock (ts : List Record) (start end b : ℕ) : Type 0 where
  pub some : start < end
  pub each : (i : ℕ) → start ≤ i → i < end → (record_at ts i).block ≡ b

-- the blocks of the RM3 table ts, which is the translation of a table of n inputs and m gates
pub record Blocks3 (mode : Mode) (n m : ℕ) (rs ts : List Record) : Type 0 where
  -- nothing was made for the constant
  pub constant : up_to mode n m rs 0 ≡ 0
  -- what was made for the node of record j has that record's block: helpers and operation their gate's, an input 0
  pub nodes : (j : ℕ) → j < n + m → OfBlock ts (up_to mode n m rs j) (up_to mode n m rs (suc j)) (record_at rs j).block
  -- what comes after all nodes, the helpers of outputs and the outputs, has block 0
  pub outputs : (i : ℕ) → up_to mode n m rs (n + m) ≤ i → (record_at ts i).block ≡ 0

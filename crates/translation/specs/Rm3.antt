-- The RM3 table (SPEC 6.1). A table is a list of records: inputs, then operations, then outputs. Operands have no inversion:
-- operand 0 is false and 1 is true; record j, an input or an operation, is operand j + 2.
use Rattle.std.specs.Prelude.{ℕ, zero, suc, ◌+◌, ◌-◌, ◌<◌, ◌≤◌, ◌≡◌, Bool, List, [], ◌∷◌, length, get_or}
use Rattle.majority.specs.Table.{record_of, input, output, record_at}
use Rattle.majority.specs.Node.{Meaning, pass}
use Rattle.majority.specs.Value.{values}
use Rattle.majority.specs.Level.{levels, highest}
use Rattle.majority.specs.declared.Record.{Record}

-- the operation of block b with the operands x, y and z
abbrev pub operation : ℕ → ℕ → ℕ → ℕ → Record
operation b x y z = record_of 4 b x y z

-- a choice by the kind of a record: an input, an operation, an output, or none of these
abbrev pub by_kind3 : {A : Type 0} → ℕ → A → A → A → A → A
by_kind3 zero i p o d = d
by_kind3 (suc zero) i p o d = i
by_kind3 (suc (suc zero)) i p o d = d
by_kind3 (suc (suc (suc zero))) i p o d = o
by_kind3 (suc (suc (suc (suc k)))) i p o d = p

module _ {A : Type 0} (𝓜 : Meaning A) where
  -- what operand k is worth, where r is its record and operand i is worth v i: an operation is the gate of x, the inverse of y, and z
  unfoldable pub operand_worth : (ℕ → A) → ℕ → Record → A
  operand_worth v k r = by_kind3 r.kind (𝓜.input (k - 1)) (𝓜.gate (v r.e1) (𝓜.inverse (v r.e2)) (v r.e3)) (v r.e1) 𝓜.constant

  -- what operand k of an RM3 table is worth
  unfoldable pub worth3 : List Record → ℕ → A
  worth3 ts k = get_or (pass operand_worth 𝓜.constant 2 (𝓜.constant ∷ 𝓜.inverse 𝓜.constant ∷ []) ts) k 𝓜.constant

-- the value of operand k under the assignment a, and its level
abbrev pub value3 : ℕ → List Record → ℕ → Bool
value3 a = worth3 (values a)

abbrev pub level3 : List Record → ℕ → ℕ
level3 = worth3 levels

-- the value of output j, counted from 0, of a table of n inputs and p operations
unfoldable pub output_value3 : ℕ → ℕ → ℕ → List Record → ℕ → Bool
output_value3 a n p ts j = value3 a ts (record_at ts (n + p + j)).e1

-- the level of the operand that output j names
unfoldable pub output_level3 : ℕ → ℕ → List Record → ℕ → ℕ
output_level3 n p ts j = level3 ts (record_at ts (n + p + j)).e1

-- the highest level among the operands that outputs name, in a table of n inputs, p operations and o outputs; other operations do not count
unfoldable pub depth3 : ℕ → ℕ → ℕ → List Record → ℕ
depth3 n p o ts = highest (output_level3 n p ts) o

-- a well-formed RM3 table of n inputs, p operations and o outputs: an operation reads only operands lower than itself, and an output names any operand
pub record WellFormed3 (n p o : ℕ) (ts : List Record) : Type 0 where
  pub whole : length ts ≡ n + p + o
  pub inputs : (j : ℕ) → j < n → record_at ts j ≡ input
  pub operations : (j : ℕ) → n ≤ j → j < n + p → ((record_at ts j).kind ≡ 4) × ((record_at ts j).e1 < j + 2) × ((record_at ts j).e2 < j + 2) × ((record_at ts j).e3 < j + 2)
  pub outputs : (j : ℕ) → n + p ≤ j → j < n + p + o → (record_at ts j ≡ output (record_at ts j).e1) × ((record_at ts j).e1 < n + p + 2)

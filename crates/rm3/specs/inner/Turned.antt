-- How far a pass over a table has come (SPEC 6.2): what it has translated, and that what is left decides the whole.
use Rattle.std.specs.Prelude.{ℕ, suc, ◌+◌, ◌≡◌, List, length, take, drop}
use Rattle.translation.specs.Translate.{Draft, nodes3, all_nodes3, outputs3, parts3}
use Rattle.majority.specs.declared.Record.{Record}
use Rattle.translation.specs.declared.Mode.{Mode}

-- the inputs and gates before record i are translated: their operands, after that of node 0, and the draft
pub record Turned (mode : Mode) (n m : ℕ) (rs : List Record) (i : ℕ) (operands : List ℕ) (d : Draft) : Type 0 where
  pub count : length operands ≡ suc i
  pub left : all_nodes3 mode n m rs ≡ nodes3 mode operands d (drop i (take (n + m) rs))

-- and the first j outputs: the draft with their helpers, and their own records
pub record Named (mode : Mode) (n m : ℕ) (rs : List Record) (operands : List ℕ) (j : ℕ) (d : Draft) (os : List Record) : Type 0 where
  pub count : length os ≡ j
  pub left : parts3 mode n m rs ≡ outputs3 mode operands d os (drop (n + m + j) rs)

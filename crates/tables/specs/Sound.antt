-- What a call knows of an accepted table (SPEC 3), and the lists in which it works out what nodes are worth.
use Rattle.std.specs.Prelude.{ℕ, ◌<◌, [], ◌+◌, ◌*◌, ◌≤◌, ◌≡◌, List, length, get_or, Ok}
use Rattle.majority.specs.Table.{record_at, Below}
use Rattle.majority.specs.Check.{check_records}
use Rattle.majority.specs.declared.Record.{Record}
use Rattle.majority.specs.declared.Counts.{Counts}
use Rattle.tables.specs.Bytes.{record_in, table_of}

-- the bytes xs hold an accepted table with these counts
pub record Sound (xs : List ℕ) (c : Counts) : Type 0 where
  pub fits : 8 * (c.inputs + c.gates + c.outputs) ≤ length xs
  pub sound : check_records (table_of xs (c.inputs + c.gates + c.outputs)) ≡ Ok c

-- the table of these counts that the bytes hold
abbrev pub table_in : List ℕ → Counts → List Record
table_in xs c = table_of xs (c.inputs + c.gates + c.outputs)

-- an accepted table: its records and their counts
pub record Table : Type 0 where
  pub records : List Record
  pub counts : Counts

-- the accepted table of these counts that the bytes hold
abbrev pub held : List ℕ → Counts → Table
held xs c = record { records = table_in xs c; counts = c }

-- of the lists bs each is the bytes of a gate of the table, in their order, which names nodes that a table has room for
pub record GatesIn (t : Table) (bs : List (List ℕ)) : Type 0 where
  pub many : length bs ≡ t.counts.gates
  pub each : (i : ℕ) → i < t.counts.gates → record_in (get_or bs i []) 0 ≡ record_at t.records (t.counts.inputs + i)
  pub below : (i : ℕ) → i < t.counts.gates → Below 1057 (record_in (get_or bs i []) 0)

-- a list with room for every node, in which d stands everywhere
pub record Fresh {A : Type 0} (d : A) (ws : List A) : Type 0 where
  pub room : length ws ≡ 1057
  pub all : (k : ℕ) → get_or ws k d ≡ d

-- The majority table (SPEC 2.1). A table is a list of records: all inputs come first, then gates, then outputs.
-- Node 0 is the constant false; record j, an input or a gate, is node j + 1.
use Rattle.std.specs.Prelude.{ℕ, suc, ◌+◌, ◌≤◌, ◌<◌, ◌≡◌, List, length, get_or}
use Rattle.majority.specs.Edge.{node_of}
use Rattle.majority.specs.declared.Record.{Record}

-- the record of this kind and block with these three fields
abbrev pub record_of : ℕ → ℕ → ℕ → ℕ → ℕ → Record
record_of k b x y z = record { kind = k; block = b; e1 = x; e2 = y; e3 = z }

-- a record of no kind, which stands for what is past the end of a table
abbrev pub blank : Record
blank = record_of 0 0 0 0 0

abbrev pub input : Record
input = record_of 1 0 0 0 0

-- the gate of block b with the three edges x, y and z
abbrev pub gate : ℕ → ℕ → ℕ → ℕ → Record
gate b x y z = record_of 2 b x y z

-- the output with the edge e
abbrev pub output : ℕ → Record
output e = record_of 3 0 e 0 0

-- record j, counted from 0
abbrev pub record_at : List Record → ℕ → Record
record_at rs j = get_or rs j blank

-- each of the three edges names a node below b
pub record Below (b : ℕ) (r : Record) : Type 0 where
  pub first : node_of r.e1 < b
  pub second : node_of r.e2 < b
  pub third : node_of r.e3 < b

-- a well-formed table of n inputs, m gates and o outputs: a gate reads only nodes lower than itself, and an output names any node of the table
pub record WellFormed (n m o : ℕ) (rs : List Record) : Type 0 where
  pub whole : length rs ≡ n + m + o
  pub inputs : (j : ℕ) → j < n → record_at rs j ≡ input
  pub gates : (j : ℕ) → n ≤ j → j < n + m → ((record_at rs j).kind ≡ 2) × Below (suc j) (record_at rs j)
  pub outputs : (j : ℕ) → n + m ≤ j → j < n + m + o → (record_at rs j ≡ output (record_at rs j).e1) × (node_of (record_at rs j).e1 ≤ n + m)

-- the limits: inputs 0 to 32, gates 0 to 1,024, outputs 1 to 32
pub record WithinLimits (n m o : ℕ) : Type 0 where
  pub inputs : n ≤ 32
  pub gates : m ≤ 1024
  pub some : 1 ≤ o
  pub outputs : o ≤ 32

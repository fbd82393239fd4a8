-- Levels and depth (SPEC 2.4). The size of a table is its number of gates.
use Rattle.std.specs.Prelude.{ℕ, zero, suc, ◌+◌, max, List}
use Rattle.majority.specs.Edge.{node_of}
use Rattle.majority.specs.Table.{record_at}
use Rattle.majority.specs.Node.{Meaning, worth}
use Rattle.majority.specs.declared.Record.{Record}

-- one more than the highest of the three
unfoldable pub above : ℕ → ℕ → ℕ → ℕ
above a b c = suc (max a (max b c))

-- what levels mean: the constant and an input have 0, an inverse the same, a gate one more than the highest that it reads
abbrev pub levels : Meaning ℕ
levels = record { constant = 0; input = λ k. 0; inverse = λ l. l; gate = above }

-- the level of node k
abbrev pub level : List Record → ℕ → ℕ
level = worth levels

-- the level of the node that output j, counted from 0, names in a table of n inputs and m gates
unfoldable pub output_level : ℕ → ℕ → List Record → ℕ → ℕ
output_level n m rs j = level rs (node_of (record_at rs (n + m + j)).e1)

-- the highest of f 0, f 1 and so on, k of them; 0 where there is none
unfoldable pub highest : (ℕ → ℕ) → ℕ → ℕ
highest f zero = 0
highest f (suc k) = max (highest f k) (f k)

-- the highest level among the nodes that outputs name, in a table of n inputs, m gates and o outputs; other gates do not count
unfoldable pub depth : ℕ → ℕ → ℕ → List Record → ℕ
depth n m o rs = highest (output_level n m rs) o

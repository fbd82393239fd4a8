-- How sweep closes up (SPEC 5.3, rule 8): the numbers of the nodes, and the bytes after the gates and after the outputs.
use Rattle.std.specs.Prelude.{◌≡◌, ℕ, ◌+◌, ◌*◌, ◌%◌, ◌<◌, ◌≤◌, List, length, drop, slice_index}
use Rattle.majority.specs.Edge.{node_of}
use Rattle.majority.specs.Table.{record_at, Below}
use Rattle.majority.specs.Edit.{edges}
use Rattle.rules.specs.Sweep.{stays, kept, sweep}
use Rattle.majority.specs.declared.Record.{Record}
use Rattle.majority.specs.declared.Counts.{Counts}
use Rattle.tables.specs.Bytes.{record_in}
use Rattle.tables.specs.Sound.{table_in}

-- the new number of node k of the table t; so many records stay, too, before record k
unfoldable pub new_number : List Record → ℕ → ℕ
new_number t k = kept (stays t) 0 k

-- no node's number in ns is higher than it was
abbrev pub Lower : List ℕ → Type 0
Lower ns = (k : ℕ) → slice_index ns k ≤ k

-- ns has the numbers of the nodes up to i
pub record Numbered (number : ℕ → ℕ) (i : ℕ) (ns : List ℕ) : Type 0 where
  pub room : length ns ≡ 1057
  pub lower : Lower ns
  pub numbers : (k : ℕ) → k ≤ i → slice_index ns k ≡ number k

-- the edge x with its node's number in ns
unfoldable pub renumber_by : List ℕ → ℕ → ℕ
renumber_by ns x = 2 * slice_index ns (node_of x) + x % 2

-- ys is the table of xs, closed up below record i: what stays of the records so far is in place, and from record i on all is as it was
pub record Closed (xs : List ℕ) (c : Counts) (i : ℕ) (ys : List ℕ) : Type 0 where
  pub long : length ys ≡ length xs
  pub rest : drop (8 * i) ys ≡ drop (8 * i) xs
  pub closed : (j : ℕ) → j < new_number (table_in xs c) i → record_in ys j ≡ record_at (sweep (table_in xs c)) j

-- with that, the nodes up to i are numbered in ns, and the next record goes to record `to`
pub record ClosedUp (xs : List ℕ) (c : Counts) (i to : ℕ) (ys ns : List ℕ) : Type 0 where
  pub place : to ≡ new_number (table_in xs c) i
  pub numbers : Numbered (new_number (table_in xs c)) i ns
  pub bytes : Closed xs c i ys

-- the outputs of ys can move down to record `to`, renumbered by ns
pub record Movable (ys : List ℕ) (c : Counts) (to : ℕ) (ns : List ℕ) : Type 0 where
  pub fits : 8 * (c.inputs + c.gates + c.outputs) ≤ length ys
  pub down : to ≤ c.inputs + c.gates
  pub named : (j : ℕ) → j < c.outputs → Below 1057 (record_in ys (c.inputs + c.gates + j))
  pub lower : Lower ns

-- zs is ys after j of its records moved from record `from` down to record `to`, with f of each of their edges
pub record Moved (f : ℕ → ℕ) (from to j : ℕ) (ys zs : List ℕ) : Type 0 where
  pub long : length zs ≡ length ys
  pub rest : drop (8 * (from + j)) zs ≡ drop (8 * (from + j)) ys
  pub before : (k : ℕ) → k < to → record_in zs k ≡ record_in ys k
  pub moved : (k : ℕ) → k < j → record_in zs (to + k) ≡ edges f (record_in ys (from + k))

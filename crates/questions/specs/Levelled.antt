-- Levels worked out in an array of 16-bit numbers, one a node (SPEC 2.4): of any array and any records.
use Rattle.std.specs.Prelude.{ℕ, zero, suc, ◌-◌, ◌%◌, List, nat_lt, slice_index, slice_set, if◌then◌else◌}
use Rattle.majority.specs.Edge.{node_of}
use Rattle.majority.specs.Table.{record_at}
use Rattle.majority.specs.Level.{above}
use Rattle.majority.specs.declared.Record.{Record}

-- the level of node k in the array ls; 0 where there is no place for it
unfoldable pub level_at : List ℕ → ℕ → ℕ
level_at ls k = if nat_lt k 1057 then slice_index ls k else 0

-- the level of a gate, in 16 bits
unfoldable pub gate_level : List ℕ → Record → ℕ
gate_level ls r = above (level_at ls (node_of r.e1)) (level_at ls (node_of r.e2)) (level_at ls (node_of r.e3)) % 65536

-- the array after the levels of records i, i + 1 and so on, k of them, were set one after another; record i is that of node i + 1
unfoldable pub levelled_by : List Record → ℕ → ℕ → List ℕ → List ℕ
levelled_by rs i zero ls = ls
levelled_by rs i (suc k) ls = levelled_by rs (suc i) k (slice_set ls (suc i) (gate_level ls (record_at rs i)))

-- of the records from the first on, up to n; of none where there is no place for n nodes
abbrev pub levelled : List Record → ℕ → ℕ → List ℕ → List ℕ
levelled rs first n ls = if nat_lt 1056 n then ls else levelled_by rs first (n - first) ls

-- What edits of records leave in a buffer (SPEC 5.2).
use Rattle.std.specs.Prelude.{ℕ, ◌+◌, ◌-◌, ◌/◌, ◌%◌, Bool, ◌||◌, List, ◌++◌, map, length, take, drop, ◌==◌, nat_lt, if◌then◌else◌}
use Rattle.majority.specs.Edge.{node_of, redirect, raise}
use Rattle.majority.specs.Table.{blank}
use Rattle.majority.specs.Edit.{edges}
use Rattle.majority.specs.declared.Record.{Record}
use Rattle.tables.specs.Bytes.{decode, table_of, holding}

-- the table t with f of each record from record i on
unfoldable pub changed_from : (Record → Record) → ℕ → List Record → List Record
changed_from f i t = take i t ++ map f (drop i t)

-- the buffer xs with f of each record from record i on, up to n; as it was where it has fewer than n records, or i is past n
unfoldable pub edited_from : (Record → Record) → List ℕ → ℕ → ℕ → List ℕ
edited_from f xs i n = if nat_lt (length xs / 8) n || nat_lt n i then xs else holding (changed_from f i (table_of xs n)) xs

-- an edge of the record r names node k
abbrev pub names_node : ℕ → Record → Bool
names_node k r = node_of r.e1 == k || node_of r.e2 == k || node_of r.e3 == k

-- node g is redirected to the edge e
abbrev pub redirected_from : List ℕ → ℕ → ℕ → ℕ → ℕ → List ℕ
redirected_from xs i n g e = edited_from (edges (redirect g e)) xs i n

-- the records are cleared
abbrev pub cleared_from : List ℕ → ℕ → ℕ → List ℕ
cleared_from xs i n = edited_from (λ r. blank) xs i n

-- an edge of 16 bits after k gates were put directly before node g
unfoldable pub raise16 : ℕ → ℕ → ℕ → ℕ
raise16 g k x = raise g k x % 65536

-- the table t with the gates `news` directly before node g, and edges from g upward raised by as many in what stands after them
unfoldable pub grown : ℕ → List Record → List Record → List Record
grown g news t = take (g - 1) t ++ (news ++ map (edges (raise16 g (length news))) (drop (g - 1) t))

-- of `all` records n are a table: there is no place directly before its node g, or no room for k more
unfoldable pub no_room_of : ℕ → ℕ → ℕ → ℕ → Bool
no_room_of all n g k = nat_lt g 1 || nat_lt all (n + k) || nat_lt n (g - 1)

-- the buffer xs with the gates `news` put directly before node g of n records; as it was where there is no such place or no room
unfoldable pub inserted_at : List ℕ → ℕ → ℕ → List Record → List ℕ
inserted_at xs n g news = if no_room_of (length xs / 8) n g (length news) then xs else holding (grown g news (table_of xs n)) xs

-- the buffer xs with room for k gates there: in their places stands what stood in these before
abbrev pub room_at : List ℕ → ℕ → ℕ → ℕ → List ℕ
room_at xs n g k = inserted_at xs n g (decode xs (g - 1) k)

-- The parts of which the rules are made (SPEC 5.2): redirect, insert, and a gate that becomes another.
use Rattle.std.specs.Prelude.{ℕ, ◌-◌, List, ◌++◌, map, length, take, drop, set}
use Rattle.majority.specs.Edge.{redirect, raise}
use Rattle.majority.specs.Table.{record_of, record_at}
use Rattle.majority.specs.declared.Record.{Record}

-- the record with f of each of its three edges; its block stays
abbrev pub edges : (ℕ → ℕ) → Record → Record
edges f r = record_of r.kind r.block (f r.e1) (f r.e2) (f r.e3)

-- the record of node g
abbrev pub node_record : List Record → ℕ → Record
node_record rs g = record_at rs (g - 1)

-- node g is redirected to the edge e, in every gate and output. A field that is no edge is 0 and so names no gate
unfoldable pub redirect_all : ℕ → ℕ → List Record → List Record
redirect_all g e rs = map (edges (redirect g e)) rs

-- the gates `news` are put directly before node g, and node numbers from g upward rise by as many
unfoldable pub insert : ℕ → List Record → List Record → List Record
insert g news rs =
    let raised = map (edges (raise g (length news))) rs in
    take (g - 1) raised ++ (news ++ drop (g - 1) raised)

-- the record of node g becomes r
unfoldable pub become : ℕ → Record → List Record → List Record
become g r rs = set rs (g - 1) r

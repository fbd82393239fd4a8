-- Rules 1 to 7 and 10 (SPEC 5.3), each as the form that it asks for and the table that it makes. g is the node number of a gate. What it becomes and
-- what is inserted before it have its block.
use Rattle.std.specs.Prelude.{ℕ, ◌+◌, ◌*◌, Bool, not, ◌&&◌, List, [], ◌∷◌, ltb, eqb, if◌then◌else◌}
use Rattle.majority.specs.Edge.{node_of, is_inverted, flip}
use Rattle.majority.specs.Table.{gate}
use Rattle.majority.specs.Edit.{edges, node_record, redirect_all, insert, become}
use Rattle.majority.specs.declared.Record.{Record}

-- the uninverted edge to node k
abbrev pub plain : ℕ → ℕ
plain k = 2 * k

-- 1. Exchange. a = 1: g's first and second edges; a = 2: first and third
abbrev pub exchanged : ℕ → Record → Record
exchanged a r = if eqb a 1 then gate r.block r.e2 r.e1 r.e3 else gate r.block r.e3 r.e2 r.e1

unfoldable pub exchange : ℕ → ℕ → List Record → List Record
exchange a g rs = become g (exchanged a (node_record rs g)) rs

-- 2. Majority. First two edges equal: redirect g to the first
unfoldable pub majority_form : Record → Bool
majority_form r = eqb r.e2 r.e1

unfoldable pub majority_rule : ℕ → List Record → List Record
majority_rule g rs = redirect_all g (node_record rs g).e1 rs

-- among n inputs, the edge e names a gate and is not inverted
abbrev pub plain_gate : ℕ → ℕ → Bool
plain_gate n e = not (is_inverted e) && ltb n (node_of e)

-- the record of the node that the edge e names
abbrev pub named : List Record → ℕ → Record
named rs e = node_record rs (node_of e)

-- 3. Associativity. g = (x, u, h), h an uninverted gate (y, u, z): insert (y, u, x), and g becomes (z, u, new)
unfoldable pub associativity_form : ℕ → Record → Record → Bool
associativity_form n r h = plain_gate n r.e3 && eqb h.e2 r.e2

unfoldable pub associativity : ℕ → List Record → List Record
associativity g rs =
    let r = node_record rs g in
    let h = named rs r.e3 in
    become (g + 1) (gate r.block h.e3 r.e2 (plain g)) (insert g (gate r.block h.e1 r.e2 r.e1 ∷ []) rs)

-- 4. Distributivity outward. g = (x, y, h), h an uninverted gate (u, v, z): insert p = (x, y, u), then q = (x, y, v); g becomes (p, q, z)
unfoldable pub outward_form : ℕ → Record → Bool
outward_form n r = plain_gate n r.e3

unfoldable pub outward : ℕ → List Record → List Record
outward g rs =
    let r = node_record rs g in
    let h = named rs r.e3 in
    become (g + 2) (gate r.block (plain g) (plain (g + 1)) h.e3)
    (insert g (gate r.block r.e1 r.e2 h.e1 ∷ gate r.block r.e1 r.e2 h.e2 ∷ []) rs)

-- 5. Distributivity inward. g = (p, q, z), p = (x, y, u) and q = (x, y, v) uninverted gates, perhaps the same: insert (u, v, z); g becomes (x, y, new)
unfoldable pub inward_form : ℕ → Record → Record → Record → Bool
inward_form n r p q = plain_gate n r.e1 && plain_gate n r.e2 && eqb q.e1 p.e1 && eqb q.e2 p.e2

unfoldable pub inward : ℕ → List Record → List Record
inward g rs =
    let r = node_record rs g in
    let p = named rs r.e1 in
    let q = named rs r.e2 in
    become (g + 1) (gate r.block p.e1 p.e2 (plain g)) (insert g (gate r.block p.e3 q.e3 r.e3 ∷ []) rs)

-- 6. Inversion. g's three edges and every edge naming g are inverted
unfoldable pub inversion : ℕ → List Record → List Record
inversion g rs = become g (edges flip (node_record rs g)) (redirect_all g (flip (plain g)) rs)

-- 7. Share. a is a gate below g of the same block, with the same three edges in the same order: redirect g to a
unfoldable pub share_form : Record → Record → Bool
share_form r s = eqb s.block r.block && eqb s.e1 r.e1 && eqb s.e2 r.e2 && eqb s.e3 r.e3

unfoldable pub share : ℕ → ℕ → List Record → List Record
share a g rs = redirect_all g (plain a) rs

-- 10. Opposite. First two edges opposite: redirect g to the third
unfoldable pub opposite_form : Record → Bool
opposite_form r = eqb r.e2 (flip r.e1)

unfoldable pub opposite : ℕ → List Record → List Record
opposite g rs = redirect_all g (node_record rs g).e3 rs

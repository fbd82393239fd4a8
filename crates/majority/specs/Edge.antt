-- Edges (SPEC 2.2). An edge is twice a node number, plus 1 where it is inverted.
use Rattle.std.specs.Prelude.{ℕ, ◌+◌, ◌-◌, ◌*◌, ◌/◌, ◌%◌, Bool, ltb, eqb, if◌then◌else◌}

-- the node that an edge names
abbrev pub node_of : ℕ → ℕ
node_of e = e / 2

abbrev pub is_inverted : ℕ → Bool
is_inverted e = eqb (e % 2) 1

-- the edge to the same node, inverted where e is not
unfoldable pub flip : ℕ → ℕ
flip e = 2 * (e / 2) + (1 - e % 2)

-- node g is redirected to the edge e: an edge x that names g becomes e, inverted where x was inverted
unfoldable pub redirect : ℕ → ℕ → ℕ → ℕ
redirect g e x = if eqb (node_of x) g then (if is_inverted x then flip e else e) else x

-- node numbers from g upward rise by c: the number that node k gets
unfoldable pub raised : ℕ → ℕ → ℕ → ℕ
raised g c k = if ltb k g then k else k + c

-- and so the edge that an edge x becomes
unfoldable pub raise : ℕ → ℕ → ℕ → ℕ
raise g c x = if ltb (node_of x) g then x else x + 2 * c

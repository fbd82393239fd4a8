-- Rule 9, error voters (SPEC 5.3). Among n inputs, g is the node number of a gate, and a and b are nodes with 0 < a < b < g.
use Rattle.std.specs.Prelude.{ℕ, suc, ◌+◌, ◌-◌, ◌*◌, Bool, true, false, ◌&&◌, ◌||◌, List, ◌++◌, map, take, drop, leb, eqb, if◌then◌else◌}
use Rattle.majority.specs.Edge.{flip, redirect, raise}
use Rattle.majority.specs.Table.{record_of, gate}
use Rattle.majority.specs.Level.{level}
use Rattle.majority.specs.Seek.{first_from}
use Rattle.majority.specs.Edit.{edges, node_record, redirect_all, insert, become}
use Rattle.rules.specs.Rules.{plain}
use Rattle.majority.specs.declared.Record.{Record}

-- the edge to node k in the polarity p: inverted where p is true
abbrev pub edge_to : Bool → ℕ → ℕ
edge_to p k = if p then flip (plain k) else plain k

-- e is among the edges of the record
unfoldable pub among : ℕ → Record → Bool
among e r = eqb r.e1 e || eqb r.e2 e || eqb r.e3 e

-- a and b are among its edges, both in the polarity p
unfoldable pub pair_in : Bool → ℕ → ℕ → Record → Bool
pair_in p a b r = among (edge_to p a) r && among (edge_to p b) r

-- a and b are among its edges in the same polarity
unfoldable pub has_pair : ℕ → ℕ → Record → Bool
has_pair a b r = pair_in true a b r || pair_in false a b r

module _ (n g a b : ℕ) (rs : List Record) where
  -- c, the lowest gate, at most g, with a and b among its edges in the same polarity; g + 1 where there is none
  unfoldable pub pair_gate : ℕ
  pair_gate = first_from (λ c. has_pair a b (node_record rs c)) (suc n) (g - n)

  -- that polarity: three edges hold the pair in one only
  unfoldable pub pair_polarity : Bool
  pair_polarity = pair_in true a b (node_record rs pair_gate)

  -- the form: there is such a gate, and the level of a is not above that of b
  unfoldable pub voter_form : Bool
  voter_form = leb pair_gate g && leb (level rs a) (level rs b)

-- a copy of all gates from the first up to g: how many inserted gates stand before it, and the edge to which it redirects a node
pub record Copy : Type 0 where
  pub before : ℕ
  pub node : ℕ
  pub edge : ℕ

-- an edge in a copy's own numbers: where it names a gate, it names that copy's, of which the first is node g + before
abbrev pub own : ℕ → ℕ → ℕ → ℕ → ℕ
own n g before x = raise (suc n) (g + before - suc n) x

-- the record in the block b
abbrev pub in_block : ℕ → Record → Record
in_block b r = record_of r.kind b r.e1 r.e2 r.e3

-- the block of node g
abbrev pub block_of : List Record → ℕ → ℕ
block_of rs g = (node_record rs g).block

-- the gates of a copy: edges that name the node are replaced, their polarity carried on, and then read in the copy's own numbers. All have g's block
unfoldable pub copied : ℕ → ℕ → Copy → List Record → List Record
copied n g copy rs =
    map (λ r. in_block (block_of rs g) (edges (own n g copy.before) r)) (take (g - n) (drop n (redirect_all copy.node copy.edge rs)))

-- its root: what stands there for the plain edge to g
abbrev pub root : ℕ → ℕ → Copy → ℕ
root n g copy = own n g copy.before (redirect copy.node copy.edge (plain g))

module _ (n g a b : ℕ) (rs : List Record) where
  -- in the first copy, edges naming b become inverted edges to a
  abbrev pub first_copy : Copy
  first_copy = record { before = 0; node = b; edge = edge_to true a }

  -- in the second, edges naming c become c's edge to a
  abbrev pub second_copy : Copy
  second_copy = record { before = g - n; node = pair_gate n g a b rs; edge = edge_to (pair_polarity n g a b rs) a }

  -- in the third, its edge to b
  abbrev pub third_copy : Copy
  third_copy = record { before = 2 * (g - n); node = pair_gate n g a b rs; edge = edge_to (pair_polarity n g a b rs) b }

  -- all three, copy after copy
  abbrev pub copies : List Record
  copies = copied n g first_copy rs ++ (copied n g second_copy rs ++ copied n g third_copy rs)

  -- the majority of the three roots
  abbrev pub votes : Record
  votes = gate (block_of rs g) (root n g first_copy) (root n g second_copy) (root n g third_copy)

  -- the copies are inserted before g, and g becomes that majority
  unfoldable pub voter : List Record
  voter = become (g + 3 * (g - n)) votes (insert g copies rs)

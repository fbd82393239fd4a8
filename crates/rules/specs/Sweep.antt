-- Sweep (SPEC 5.3, rule 8): the gates that no output reaches are dropped, and the rest close up and are renumbered.
use Rattle.std.specs.Prelude.{ℕ, zero, suc, ◌+◌, ◌*◌, ◌%◌, Bool, true, false, ◌||◌, List, [], ◌∷◌, map, eqb, if◌then◌else◌}
use Rattle.majority.specs.Edge.{node_of}
use Rattle.majority.specs.Table.{record_at}
use Rattle.majority.specs.Node.{by_kind}
use Rattle.majority.specs.Edit.{edges}
use Rattle.majority.specs.declared.Record.{Record}

unfoldable pub member : ℕ → List ℕ → Bool
member k [] = false
member k (x ∷ xs) = eqb k x || member k xs

-- the nodes that are named by an output, or by a gate that is itself among them; the first record's node is b
abbrev pub reached_from : ℕ → List Record → List ℕ
reached_from b [] = []
reached_from b (r ∷ rs) =
    let later = reached_from (suc b) rs in
    if by_kind r.kind false (member b later) true false then node_of r.e1 ∷ node_of r.e2 ∷ node_of r.e3 ∷ later else later

-- the nodes that an output reaches
abbrev pub reached : List Record → List ℕ
reached rs = reached_from 1 rs

-- node k stays: the constant, an input, a reached gate; and so does the record of an output
unfoldable pub stays : List Record → ℕ → Bool
stays rs zero = true
stays rs (suc j) = by_kind (record_at rs j).kind true (member (suc j) (reached rs)) true true

module _ (keep : ℕ → Bool) where
  -- how many of the nodes i + 1, i + 2 and so on, k of them, are kept
  abbrev pub kept : ℕ → ℕ → ℕ
  kept i zero = 0
  kept i (suc k) = if keep (suc i) then suc (kept (suc i) k) else kept (suc i) k

  -- the edge x with its node's new number
  unfoldable pub renumber : ℕ → ℕ
  renumber x = 2 * kept 0 (node_of x) + x % 2

  -- the kept records, the first of them being that of node i + 1
  abbrev pub kept_records : ℕ → List Record → List Record
  kept_records i [] = []
  kept_records i (r ∷ rs) = if keep (suc i) then r ∷ kept_records (suc i) rs else kept_records (suc i) rs

  -- what is not kept is dropped, and the rest closes up
  unfoldable pub close_up : List Record → List Record
  close_up rs = kept_records 0 (map (edges renumber) rs)

unfoldable pub sweep : List Record → List Record
sweep rs = close_up (stays rs) rs

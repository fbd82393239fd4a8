-- Lists of what nodes are worth (SPEC 2.3 and 2.4), as a question works them out.
use Rattle.std.specs.Prelude.{◌≡◌, ℕ, suc, ◌≤◌, Bool, false, not, List, length, get_or, slice_index_or, if◌then◌else◌}
use Rattle.majority.specs.Edge.{node_of, is_inverted}
use Rattle.majority.specs.Node.{Meaning, worth}
use Rattle.majority.specs.Value.{majority_of, bit}
use Rattle.majority.specs.declared.Record.{Record}

-- the list ws holds what the nodes 0 to k of the table rs are worth, and has room for every node
pub record Holds {A : Type 0} (𝓜 : Meaning A) (rs : List Record) (k : ℕ) (ws : List A) : Type 0 where
  pub room : length ws ≡ 1057
  pub worths : (i : ℕ) → i ≤ k → slice_index_or ws i 𝓜.constant ≡ worth 𝓜 rs i

-- the value of the edge e, where those of the nodes stand in vs
abbrev pub edge_value : List Bool → ℕ → Bool
edge_value vs e = if is_inverted e then not (slice_index_or vs (node_of e) false) else slice_index_or vs (node_of e) false

-- the list vs holds the constant and the n inputs under the assignment a
pub record HoldsInputs (a n : ℕ) (vs : List Bool) : Type 0 where
  pub room : length vs ≡ 1057
  pub constant : get_or vs 0 false ≡ false
  pub inputs : (i : ℕ) → suc i ≤ n → slice_index_or vs (suc i) false ≡ bit a i

-- the value of a gate, where those of the nodes stand in a list
abbrev pub gate_value : List Bool → Record → Bool
gate_value vs r = majority_of (edge_value vs r.e1) (edge_value vs r.e2) (edge_value vs r.e3)

-- What a node is worth (SPEC 2.3 and 2.4). Values and levels are worked out alike, from node 0 up, each node from the nodes that it reads.
-- An output's record is worth what its edge is worth.
use Rattle.std.specs.Prelude.{ℕ, zero, suc, List, [], ◌∷◌, ◌++◌, get_or, if◌then◌else◌}
use Rattle.majority.specs.Edge.{node_of, is_inverted}
use Rattle.majority.specs.declared.Record.{Record}

-- what the constant false, the input that is node k, the inverse and the gate are worth
pub record Meaning (A : Type 0) : Type 0 where
  pub constant : A
  pub input : ℕ → A
  pub inverse : A → A
  pub gate : A → A → A → A

-- a choice by the kind of a record: an input, a gate, an output, or none of these
abbrev pub by_kind : {A : Type 0} → ℕ → A → A → A → A → A
by_kind zero i g o d = d
by_kind (suc zero) i g o d = i
by_kind (suc (suc zero)) i g o d = g
by_kind (suc (suc (suc k))) i g o d = o

-- a pass over a list from left to right: F makes the next worth of those before it, its number b, and the element
module _ {R A : Type 0} (F : (ℕ → A) → ℕ → R → A) (z : A) where
  abbrev pub pass : ℕ → List A → List R → List A
  pass b known [] = known
  pass b known (r ∷ rs) = pass (suc b) (known ++ F (λ k. get_or known k z) b r ∷ []) rs

module _ {A : Type 0} (𝓜 : Meaning A) where
  -- what the edge e is worth, where node k is worth v k
  unfoldable pub edge_worth : (ℕ → A) → ℕ → A
  edge_worth v e = if is_inverted e then 𝓜.inverse (v (node_of e)) else v (node_of e)

  -- what node k is worth, where r is its record
  unfoldable pub record_worth : (ℕ → A) → ℕ → Record → A
  record_worth v k r =
      by_kind r.kind
      (𝓜.input k)
      (𝓜.gate (edge_worth v r.e1) (edge_worth v r.e2) (edge_worth v r.e3))
      (edge_worth v r.e1)
      𝓜.constant

  -- what each node of a table is worth, from node 0 up
  unfoldable pub worths : List Record → List A
  worths rs = pass record_worth 𝓜.constant 1 (𝓜.constant ∷ []) rs

  -- what node k of a table is worth
  unfoldable pub worth : List Record → ℕ → A
  worth rs k = get_or (worths rs) k 𝓜.constant

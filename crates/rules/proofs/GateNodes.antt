-- A gate of a table by its node number g: what it reads and what it is worth, and so for the gates that it names.
use Prim.Native.Nat.{ℕ, suc, ◌+◌, ◌-◌, ◌≤◌, ◌<◌}
use mathlib.Core.Path.{◌≡◌, ◌∙◌, subst}
use mathlib.Core.Bool.{true, false, not}
use mathlib.Core.List.{List}
use native.Mathlib.Omega.{arith}
use borrow.Author.Tests.{ltb-true, not-true}
use lib.Dec.{ltb}
use Rattle.majority.specs.Edge.{node_of, is_inverted}
use Rattle.majority.specs.Table.{Below, WellFormed}
use Rattle.majority.specs.Node.{Meaning, edge_worth, worth}
use Rattle.majority.specs.Level.{levels, level}
use Rattle.majority.specs.Edit.{node_record}
use Rattle.rules.specs.Rules.{plain_gate, named}
use Rattle.majority.specs.declared.Record.{Record}
use Rattle.majority.proofs.Logic.{both}
use Rattle.majority.proofs.Nodes.{edge_agrees}
use Rattle.majority.proofs.Formed.{below_more, gate_eq}
use Rattle.majority.proofs.Levels.{above_each}
use Rattle.rules.proofs.KeptByNodes.{Each}
use Rattle.rules.proofs.Edges.{upright_worth}

-- what a gate with the record r is worth, where node k is worth v k
abbrev pub gate_worth : {A : Type 0} (𝓜 : Meaning A) → (ℕ → A) → Record → A
gate_worth 𝓜 v r = 𝓜.gate (edge_worth 𝓜 v r.e1) (edge_worth 𝓜 v r.e2) (edge_worth 𝓜 v r.e3)

pub gate_agrees : {A : Type 0} (𝓜 : Meaning A) (v w : ℕ → A) (b : ℕ) (r : Record) → Below b r → ((k : ℕ) → k < b → v k ≡ w k) → gate_worth 𝓜 v r ≡ gate_worth 𝓜 w r
gate_agrees 𝓜 v w b r low agree =
    cc (edge_agrees 𝓜 v w r.e1 (agree _ low.first), edge_agrees 𝓜 v w r.e2 (agree _ low.second), edge_agrees 𝓜 v w r.e3 (agree _ low.third))

-- node g of a well-formed table is a gate
pub record GateOf (n m o g : ℕ) (rs : List Record) : Type 0 where
  pub formed : WellFormed n m o rs
  pub from : n < g
  pub upto : g ≤ n + m

module _ {n m o g : ℕ} {rs : List Record} (is : GateOf n m o g rs) where
  one_more : suc (g - 1) ≡ g
  one_more = omega (arith, is.from)

  pub gate_kind : (node_record rs g).kind ≡ 2
  gate_kind = (is.formed.gates (g - 1) (omega (arith, is.from)) (omega (arith, is.from, is.upto))).0

  pub gate_reads : Below g (node_record rs g)
  gate_reads = subst (λ (b : ℕ). Below b (node_record rs g)) one_more (is.formed.gates (g - 1) (omega (arith, is.from)) (omega (arith, is.from, is.upto))).1

  pub gate_node : {A : Type 0} (𝓜 : Meaning A) → worth 𝓜 rs g ≡ gate_worth 𝓜 (worth 𝓜 rs) (node_record rs g)
  gate_node 𝓜 =
      subst (λ (k : ℕ). worth 𝓜 rs k ≡ gate_worth 𝓜 (worth 𝓜 rs) (node_record rs g)) one_more
      (gate_eq is.formed 𝓜 (g - 1) (omega (arith, is.from)) (omega (arith, is.from, is.upto)))

  -- g stands above each node that it reads
  pub gate_level_lem : Each (λ e. edge_worth levels (level rs) e < level rs g) (node_record rs g)
  gate_level_lem = rw (gate_node levels) (above_each _ _ _)

-- an edge of g that is uninverted and names a gate
module _ {n m o g : ℕ} {rs : List Record} (is : GateOf n m o g rs) (e : ℕ) (lower : node_of e < g) (plain : plain_gate n e ≡ true) where
  upright : (is_inverted e ≡ false) × (n < node_of e)
  upright = let w = both (not (is_inverted e)) (ltb n (node_of e)) plain in (not-true _ w.0, ltb-true _ _ w.1)

  named_gate : GateOf n m o (node_of e) rs
  named_gate = record { formed = is.formed; from = upright.1; upto = omega (arith, is.upto) }

  pub named_reads : Below g (named rs e)
  named_reads = below_more _ _ _ (omega arith) (gate_reads named_gate)

  pub named_worth : {A : Type 0} (𝓜 : Meaning A) → edge_worth 𝓜 (worth 𝓜 rs) e ≡ gate_worth 𝓜 (worth 𝓜 rs) (named rs e)
  named_worth 𝓜 = upright_worth 𝓜 (worth 𝓜 rs) e upright.0 ∙ gate_node named_gate 𝓜

  pub named_level : Each (λ x. edge_worth levels (level rs) x < edge_worth levels (level rs) e) (named rs e)
  named_level = rw (named_worth levels) (above_each _ _ _)

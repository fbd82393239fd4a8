-- Inserting gates that read lower nodes, each other too, keeps a table: each old node keeps its worth under its new number.
use Prim.Native.Nat.{ℕ, suc, ◌+◌, ◌-◌, ◌≤◌, ◌<◌}
use mathlib.Core.Path.{◌≡◌, refl, sym, ap, ◌∙◌}
use mathlib.Core.List.{List}
use native.Mathlib.Omega.{arith}
use lib.ListN.{length}
use Rattle.majority.specs.Edge.{node_of, raised, raise}
use Rattle.majority.specs.Table.{record_at, Below, WellFormed}
use Rattle.majority.specs.Node.{Meaning, edge_worth, worth}
use Rattle.majority.specs.Value.{values}
use Rattle.majority.specs.Level.{levels}
use Rattle.majority.specs.Edit.{insert}
use Rattle.rules.specs.Rules.{plain}
use Rattle.rules.specs.Kept.{raising, NodesKept}
use Rattle.majority.specs.declared.Record.{Record}
use Rattle.majority.proofs.Nodes.{edge_agrees}
use Rattle.majority.proofs.Formed.{below_more}
use Rattle.rules.proofs.Placed.{Placed, placed, all_placed, gate_placed, Moved, edges_placed}
use Rattle.rules.proofs.Edges.{plain_worth}
use Rattle.rules.proofs.Raise.{raised_below, raised_from, raised_cases, raise_below, raise_node}
use Rattle.rules.proofs.RaiseNodes.{raised_nodes}
use Rattle.rules.proofs.Insert.{insert_length, insert_old, insert_new, insert_cases}
use Rattle.rules.proofs.GateNodes.{gate_worth, gate_agrees, GateOf, gate_node}

-- each of the new records, which become nodes g, g + 1 and so on, is a gate that reads nodes lower than itself
abbrev pub GatesInOrder : ℕ → List Record → Type 0
GatesInOrder g news = (t : ℕ) → t < length news → ((record_at news t).kind ≡ 2) × Below (g + t) (record_at news t)

-- each of them reads nodes below g, and so none of the others
abbrev pub GatesBelow : ℕ → List Record → Type 0
GatesBelow g news = (t : ℕ) → t < length news → ((record_at news t).kind ≡ 2) × Below g (record_at news t)

pub in_order : (g : ℕ) (news : List Record) → GatesBelow g news → GatesInOrder g news
in_order g news gates t h = ((gates t h).0, below_more _ _ _ (omega arith) (gates t h).1)

module _ {n m o g : ℕ} {rs : List Record} (is : GateOf n m o g rs) (news : List Record) (gates : GatesInOrder g news) where
  abbrev c : ℕ
  c = length news

  abbrev after : List Record
  after = insert g news rs

  some : 0 < g
  some = omega (arith, is.from)

  fits : g - 1 ≤ length rs
  fits = omega (arith, is.formed.whole, is.upto)

  moved : (j : ℕ) → Moved n m (m + c) j (raised (g - 1) c j)
  moved j =
      let lo : n < g = is.from in
      let hi : g ≤ n + m = is.upto in
      raised_cases (g - 1) c (Moved n m (m + c) j) j
      (λ h. record { an_input = λ l. l; from_gates = λ l. l; upto_gates = λ l. omega arith; an_output = λ l. omega arith })
      (λ h. record { an_input = λ l. omega arith; from_gates = λ l. omega arith; upto_gates = λ l. omega arith; an_output = λ l. omega arith })

  reads : (j x : ℕ) → node_of x ≤ j → node_of (raise g c x) ≤ raised (g - 1) c j
  reads j x h =
      rw (raise_node g c x)
      (raised_cases g c (λ k. k ≤ raised (g - 1) c j) (node_of x)
      (λ l. raised_cases (g - 1) c (λ k. node_of x ≤ k) j (λ p. h) (λ p. omega arith))
      (λ l. omega (arith, raised_from (g - 1) c j (omega arith))))

  within : (k : ℕ) → k ≤ n + m → raised g c k ≤ n + (m + c)
  within k h = raised_cases g c (λ i. i ≤ n + (m + c)) k (λ l. omega arith) (λ l. omega arith)

  pub insert_formed : WellFormed n (m + c) o after
  insert_formed =
      let whole = is.formed.whole in
      all_placed (insert_length g news rs some fits ∙ omega arith)
      (λ k h. insert_cases g news rs some fits (Placed n (m + c))
      (λ j l. edges_placed (raise g c) (raise_below g c 0 (omega (arith, some))) (moved j) (reads j) (λ x h. rw (raise_node g c x) (within (node_of x) h)) (placed is.formed j (omega arith)))
      (λ t l. gate_placed n (m + c) (g - 1 + t) _ (omega (arith, is.from)) (omega (arith, is.from, is.upto)) (gates t l).0 (below_more _ _ _ (omega (arith, some)) (gates t l).1))
      k
      (omega arith))

  module _ {A : Type 0} (𝓜 : Meaning A) where
    -- an old node keeps its worth
    pub insert_nodes : (k : ℕ) → k ≤ n + m + o → worth 𝓜 rs k ≡ worth 𝓜 after (raised g c k)
    insert_nodes = raised_nodes is.formed insert_formed g c (n + m + o) is.from (omega arith) (omega arith) (λ j. (record_at rs j).block) (λ j h. insert_old g news rs some fits j) 𝓜

    pub insert_lower : (k : ℕ) → k < g → worth 𝓜 after k ≡ worth 𝓜 rs k
    insert_lower k h = ap (worth 𝓜 after) (sym (raised_below g c k h)) ∙ sym (insert_nodes k (omega (arith, is.upto)))

    -- g itself, now g + c
    pub insert_gate : worth 𝓜 after (g + c) ≡ worth 𝓜 rs g
    insert_gate = ap (worth 𝓜 after) (sym (raised_from g c g (omega arith))) ∙ sym (insert_nodes g (omega (arith, is.upto)))

    -- the new gate that is node g + t
    pub inserted_node : (t : ℕ) → t < c → worth 𝓜 after (g + t) ≡ gate_worth 𝓜 (worth 𝓜 after) (record_at news t)
    inserted_node t h =
        let e : g + t - 1 ≡ g - 1 + t = omega (arith, is.from) in
        let new : GateOf n (m + c) o (g + t) after = record { formed = insert_formed; from = omega (arith, is.from); upto = omega (arith, is.upto) } in
        gate_node new 𝓜 ∙ ap (gate_worth 𝓜 (worth 𝓜 after)) (ap (record_at after) e ∙ insert_new g news rs some fits t h)

  pub insert_kept : NodesKept 0 n m (m + c) o (raising g c) rs after
  insert_kept = record {
    formed = insert_formed;
    values = λ a k h s. sym (insert_nodes (values a) k h);
    levels = λ k h s. omega (arith, insert_nodes levels k h);
    nodes = within;
    gates = λ k h s. raised_cases g c (λ i. n < i) k (λ l. h) (λ l. omega arith);
    outputs = λ j h. (refl, raised_from g c (suc (n + m + j)) (omega (arith, is.upto)) ∙ omega arith, refl);
  }

-- new gates that read none of the others
module _ {n m o g : ℕ} {rs : List Record} (is : GateOf n m o g rs) (news : List Record) (gates : GatesBelow g news) {A : Type 0} (𝓜 : Meaning A) where
  -- an edge to a node below g
  pub insert_edge : (e : ℕ) → node_of e < g → edge_worth 𝓜 (worth 𝓜 (insert g news rs)) e ≡ edge_worth 𝓜 (worth 𝓜 rs) e
  insert_edge e h = edge_agrees 𝓜 _ _ e (insert_lower is news (in_order g news gates) 𝓜 (node_of e) h)

  -- a new gate is worth what it would be worth in the table before
  pub inserted_worth : (t : ℕ) → t < length news → worth 𝓜 (insert g news rs) (g + t) ≡ gate_worth 𝓜 (worth 𝓜 rs) (record_at news t)
  inserted_worth t h = inserted_node is news (in_order g news gates) 𝓜 t h ∙ gate_agrees 𝓜 _ _ g _ (gates t h).1 (insert_lower is news (in_order g news gates) 𝓜)

  -- and so is the edge to it
  pub inserted_edge : (t : ℕ) → t < length news → edge_worth 𝓜 (worth 𝓜 (insert g news rs)) (plain (g + t)) ≡ gate_worth 𝓜 (worth 𝓜 rs) (record_at news t)
  inserted_edge t h = plain_worth 𝓜 (worth 𝓜 (insert g news rs)) (g + t) ∙ inserted_worth t h

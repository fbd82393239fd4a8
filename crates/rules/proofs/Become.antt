-- A gate that becomes another of the same value, with a level at most δ higher, keeps the table but for that much depth.
use Prim.Native.Nat.{ℕ, suc, ◌+◌, ◌-◌, ◌≤◌, ◌<◌}
use mathlib.Core.Path.{◌≡◌, refl, sym, ap, ◌∙◌}
use mathlib.Core.List.{List}
use native.Mathlib.Omega.{arith}
use native.Mathlib.Decide.{ℕ_discrete}
use lib.ListN.{length-set}
use lib.Seq.{get_or-set_same, get_or-set_other}
use Rattle.majority.specs.Edge.{node_of}
use Rattle.majority.specs.Table.{blank, record_at, Below, WellFormed}
use Rattle.majority.specs.Node.{Meaning, worth}
use Rattle.majority.specs.Value.{values, value}
use Rattle.majority.specs.Level.{levels, level}
use Rattle.majority.specs.Edit.{node_record, become}
use Rattle.rules.specs.Kept.{in_place, NodesKept}
use Rattle.majority.specs.declared.Record.{Record}
use Rattle.majority.proofs.Nodes.{Respects, equals, edge_related, node_induction, node_zero}
use Rattle.majority.proofs.Formed.{below_more}
use Rattle.rules.proofs.Placed.{Placed, placed, all_placed, gate_placed}
use Rattle.rules.proofs.KeptByNodes.{nodes_in_place, counterpart_lower, agree_below}
use Rattle.majority.proofs.Meanings.{Rises, rises}
use Rattle.rules.proofs.GateNodes.{gate_worth, gate_agrees, GateOf, gate_node}

pub become_other : (g : ℕ) (s : Record) (rs : List Record) (j : ℕ) → (j ≡ g - 1 → ⊥) → record_at (become g s rs) j ≡ record_at rs j
unfolding become
become_other g s rs j h = get_or-set_other rs (g - 1) j s blank h

module _ {n m o g : ℕ} {rs : List Record} (is : GateOf n m o g rs) (s : Record) where
  pub become_same : node_record (become g s rs) g ≡ s
  unfolding become
  become_same = get_or-set_same rs (g - 1) s blank (omega (arith, is.formed.whole, is.from, is.upto))

  module _ (kind : s.kind ≡ 2) (reads : Below g s) where
    pub become_formed : WellFormed n m o (become g s rs)
    unfolding become
    become_formed = all_placed (length-set rs (g - 1) s ∙ is.formed.whole) (λ j h. go j h (ℕ_discrete j (g - 1)))
      where
        go : (j : ℕ) → j < n + m + o → Dec (j ≡ g - 1) → Placed n m j (record_at (become g s rs) j)
        go j h (yes e) =
            rw (e, become_same)
            (gate_placed n m (g - 1) s (omega (arith, is.from)) (omega (arith, is.from, is.upto)) kind (below_more _ _ _ (omega arith) reads))
        go j h (no e) = rw (become_other g s rs j e) (placed is.formed j h)

    becomes : GateOf n m o g (become g s rs)
    becomes = record { formed = become_formed; from = is.from; upto = is.upto }

    module _ {A : Type 0} (𝓜 : Meaning A) where
      -- nothing changes below g
      become_below : (k : ℕ) → k < g → worth 𝓜 (become g s rs) k ≡ worth 𝓜 rs k
      become_below k h =
          sym (agree_below is.formed become_formed 𝓜 (g - 1) (omega (arith, is.upto)) (omega (arith, is.upto)) (λ j l. become_other g s rs j (λ e. omega arith)) k (omega arith))

      become_node : worth 𝓜 (become g s rs) g ≡ gate_worth 𝓜 (worth 𝓜 rs) s
      become_node = gate_node becomes 𝓜 ∙ ap (gate_worth 𝓜 (worth 𝓜 (become g s rs))) become_same ∙ gate_agrees 𝓜 _ _ g s reads become_below

      -- each node stays related to itself, where g is related to what it becomes
      become_nodes : (Q : A → A → Type 0) → Respects 𝓜 Q → Q (worth 𝓜 rs g) (gate_worth 𝓜 (worth 𝓜 rs) s)
          → (k : ℕ) → k ≤ n + m + o → Q (worth 𝓜 rs k) (worth 𝓜 (become g s rs) k)
      become_nodes Q 𝓠 here =
          node_induction (λ k. Q (worth 𝓜 rs k) (worth 𝓜 (become g s rs) k)) (n + m + o)
          (rw (node_zero 𝓜 rs, node_zero 𝓜 (become g s rs)) (𝓠.same _))
          (λ j h below. go j h below (ℕ_discrete j (g - 1)))
        where
          go : (j : ℕ) → j < n + m + o → ((k : ℕ) → k ≤ j → Q (worth 𝓜 rs k) (worth 𝓜 (become g s rs) k)) → Dec (j ≡ g - 1)
              → Q (worth 𝓜 rs (suc j)) (worth 𝓜 (become g s rs) (suc j))
          go j h below (yes e) = let q : suc j ≡ g = omega (arith, is.from) in rw (q, become_node) here
          go j h below (no e) =
              counterpart_lower is.formed become_formed 𝓜 Q 𝓠 (λ x. x) j j h h (become_other g s rs j e) (λ l. refl)
              (λ x l. edge_related 𝓜 Q 𝓠 _ _ x x refl (below (node_of x) l))

    pub become_kept : (δ : ℕ) → ((a : ℕ) → value a rs g ≡ gate_worth (values a) (value a rs) s) → gate_worth levels (level rs) s ≤ level rs g + δ
        → NodesKept δ n m m o in_place rs (become g s rs)
    become_kept δ same deep =
        nodes_in_place become_formed
        (λ a. become_nodes (values a) (λ x y. x ≡ y) (equals (values a)) (same a))
        (become_nodes levels (Rises δ) (rises δ) deep)

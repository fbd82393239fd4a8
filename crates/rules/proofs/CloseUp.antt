-- Closing up keeps a table where with each record the nodes that it names are kept, and all inputs and outputs are.
use Prim.Native.Nat.{ℕ, suc, ◌+◌, ◌-◌, ◌≤◌, ◌<◌}
use mathlib.Core.Path.{◌≡◌, refl, sym, ap, ◌∙◌}
use mathlib.Core.Bool.{Bool, true}
use mathlib.Core.List.{List, map}
use native.Mathlib.Omega.{arith}
use native.Mathlib.Nat.{zero-add}
use lib.ListN.{length, length-map}
use Rattle.majority.specs.Edge.{node_of}
use Rattle.majority.specs.Table.{record_at, WellFormed}
use Rattle.majority.specs.Node.{Meaning, edge_worth, worth}
use Rattle.majority.specs.Value.{values}
use Rattle.majority.specs.Level.{levels, level, depth}
use Rattle.majority.specs.Edit.{edges}
use Rattle.rules.specs.Sweep.{kept, renumber, close_up}
use Rattle.rules.specs.Kept.{closing_up, NodesKept}
use Rattle.majority.specs.declared.Record.{Record}
use Rattle.majority.proofs.Nodes.{equals, edge_related, node_induction, node_zero}
use Rattle.majority.proofs.Formed.{reads_lower}
use Rattle.majority.proofs.Levels.{highest_same, output_level_lem}
use Rattle.rules.proofs.Placed.{Placed, placed, all_placed, Moved, edges_at, edges_placed}
use Rattle.rules.proofs.KeptByNodes.{Each, counterpart}
use Rattle.rules.proofs.KeptNodes.{kept_in, kept_lower, kept_order, kept_all, stands, kept_at, kept_length, renumber_node, renumber_parity, renumber_zero}

-- what may be kept so that the rest can go, m' gates among it
pub record Keepable (keep : ℕ → Bool) (n m m' o : ℕ) (rs : List Record) : Type 0 where
  pub formed : WellFormed n m o rs
  pub inputs : (j : ℕ) → j < n → keep (suc j) ≡ true
  pub outputs : (j : ℕ) → n + m ≤ j → j < n + m + o → keep (suc j) ≡ true
  pub named : (j : ℕ) → j < n + m + o → keep (suc j) ≡ true → Each (λ x. keep (node_of x) ≡ true) (record_at rs j)
  pub gates : kept keep 0 (n + m) ≡ n + m'

module _ {keep : ℕ → Bool} {n m m' o : ℕ} {rs : List Record} (may : Keepable keep n m m' o rs) where
  abbrev after : List Record
  after = close_up keep rs

  -- the number of a node among the inputs, and among the outputs' records
  pub inputs_stay : (k : ℕ) → k ≤ n → kept keep 0 k ≡ k
  inputs_stay k h = omega (arith, rw (zero-add k) at (kept_all keep 0 k (λ t p q. may.inputs t (omega arith))))

  pub outputs_move : (j : ℕ) → j ≤ o → kept keep 0 (n + m + j) ≡ n + m' + j
  outputs_move j h = omega (arith, kept_all keep (n + m) j (λ t p q. may.outputs t p (omega arith)), may.gates)

  pub closed_length : length after ≡ n + m' + o
  unfolding close_up
  closed_length =
      kept_length keep 0 (map (edges (renumber keep)) rs)
      ∙ ap (kept keep 0) (length-map rs (edges (renumber keep)) ∙ may.formed.whole)
      ∙ outputs_move o (omega arith)

  -- a kept record, where it stands now
  pub closed_at : (j : ℕ) → j < n + m + o → keep (suc j) ≡ true → record_at after (kept keep 0 j) ≡ edges (renumber keep) (record_at rs j)
  unfolding close_up
  closed_at j h s =
      kept_at keep 0 (map (edges (renumber keep)) rs) j (simp length-map (omega (arith, may.formed.whole))) (rw (zero-add j) s)
      ∙ edges_at (renumber keep) (renumber_zero keep) rs j

  moved : (j : ℕ) → j < n + m + o → keep (suc j) ≡ true → Moved n m m' j (kept keep 0 j)
  moved j h s =
      let gates = may.gates in
      let early : n + m ≤ j → n + m' ≤ kept keep 0 j = λ l. omega (arith, kept_order keep (n + m) j l) in
      let late : j < n + m → kept keep 0 j < n + m' = λ l. omega (arith, kept_in keep j s, kept_order keep (suc j) (n + m) l) in
      let input : n ≤ j → n ≤ kept keep 0 j = λ l. omega (arith, inputs_stay n (omega arith), kept_order keep n j l) in
      record {
        an_input = λ l. let no : n ≤ j → ⊥ = λ p. omega (arith, input p) in omega arith;
        from_gates = λ l. omega (arith, kept_lower keep j);
        upto_gates = λ l. let no : n + m ≤ j → ⊥ = λ p. omega (arith, early p) in omega arith;
        an_output = λ l. let no : j < n + m → ⊥ = λ p. omega (arith, late p) in omega arith;
      }

  closed_placed : (k : ℕ) → k < n + m' + o → Placed n m' k (record_at after k)
  closed_placed k h =
      let w = stands keep (n + m + o) k (omega (arith, outputs_move o (omega arith))) in
      rw (w.place, closed_at w.at w.early w.kept_too)
      (edges_placed (renumber keep) (renumber_zero keep) (moved w.at w.early w.kept_too)
      (λ x l. rw (renumber_node keep x) (kept_order keep (node_of x) w.at l))
      (λ x l. rw (renumber_node keep x) (omega (arith, kept_order keep (node_of x) (n + m) l, may.gates)))
      (placed may.formed w.at w.early))

  pub closed_formed : WellFormed n m' o after
  closed_formed = all_placed closed_length closed_placed

  -- a kept node keeps its worth
  module _ {A : Type 0} (𝓜 : Meaning A) where
    closed_nodes : (k : ℕ) → k ≤ n + m + o → keep k ≡ true → worth 𝓜 rs k ≡ worth 𝓜 after (kept keep 0 k)
    closed_nodes =
        node_induction (λ k. keep k ≡ true → worth 𝓜 rs k ≡ worth 𝓜 after (kept keep 0 k)) (n + m + o)
        (λ s. node_zero 𝓜 rs ∙ sym (node_zero 𝓜 after))
        (λ j h below s.
        let low = reads_lower may.formed j (omega (arith, may.formed.whole)) in
        let names = may.named j h s in
        let edge : (x : ℕ) → node_of x < suc j → keep (node_of x) ≡ true → edge_worth 𝓜 (worth 𝓜 rs) x ≡ edge_worth 𝓜 (worth 𝓜 after) (renumber keep x) =
        λ x l t. edge_related 𝓜 (λ a b. a ≡ b) (equals 𝓜) _ _ x (renumber keep x) (sym (renumber_parity keep x)) (rw (renumber_node keep x) (below (node_of x) (omega arith) t))
        in
        rw (kept_in keep j s)
        (counterpart may.formed closed_formed 𝓜 (λ a b. a ≡ b) (equals 𝓜) (renumber keep) j (kept keep 0 j) h
        (omega (arith, outputs_move o (omega arith), kept_in keep j s, kept_order keep (suc j) (n + m + o) (omega arith)))
        (closed_at j h s)
        (λ l. sym (inputs_stay j (omega arith)))
        (edge _ low.first names.0, edge _ low.second names.1, edge _ low.third names.2)))

  pub closed_kept : NodesKept 0 n m m' o (closing_up keep) rs after
  closed_kept = record {
    formed = closed_formed;
    values = λ a k h s. sym (closed_nodes (values a) k h s);
    levels = λ k h s. omega (arith, closed_nodes levels k h s);
    nodes = λ k h. omega (arith, kept_order keep k (n + m) h, may.gates);
    gates = λ k h s.
        let e : suc (k - 1) ≡ k = omega arith in
        omega (arith, kept_in keep (k - 1) (rw e s), kept_order keep (suc (k - 1)) k (omega arith), kept_order keep n (k - 1) (omega arith), inputs_stay n (omega arith));
    outputs = λ j h.
        let s : keep (suc (n + m + j)) ≡ true = may.outputs (n + m + j) (omega arith) (omega arith) in
        (s, kept_in keep (n + m + j) s ∙ ap suc (outputs_move j (omega arith)), refl);
  }

  -- the node that an output names keeps its level, and so depth is the same
  pub closed_depth : depth n m' o after ≡ depth n m o rs
  unfolding depth
  closed_depth = highest_same _ _ o (λ j h. output_level_lem closed_formed j h ∙ sym (level_of_lem j h) ∙ sym (output_level_lem may.formed j h))
    where
      level_of_lem : (j : ℕ) → j < o → level rs (suc (n + m + j)) ≡ level after (suc (n + m' + j))
      level_of_lem j h = let s = closed_kept.outputs j h in rw s.1 at (closed_nodes levels (suc (n + m + j)) (omega arith) s.0)

-- `Kept` from `NodesKept`, `NodesKept` where no node moves, and what a node is worth where a table's record is another's with other edges.
use Prim.Native.Nat.{ℕ, suc, ◌+◌, ◌≤◌, ◌<◌}
use mathlib.Core.Path.{◌≡◌, refl, sym, ap, ◌∙◌}
use mathlib.Core.List.{List}
use native.Mathlib.Omega.{arith}
use native.Mathlib.Decide.{dec_lt}
use Rattle.majority.specs.Edge.{node_of}
use Rattle.majority.specs.Table.{record_at, WellFormed}
use Rattle.majority.specs.Node.{Meaning, edge_worth, worth}
use Rattle.majority.specs.Value.{values, value, output_value}
use Rattle.majority.specs.Level.{level}
use Rattle.majority.specs.Edit.{edges}
use Rattle.rules.specs.Voter.{in_block}
use Rattle.rules.specs.Kept.{Moves, in_place, NodesKept, Kept}
use Rattle.majority.specs.declared.Record.{Record}
use Rattle.majority.proofs.Nodes.{Respects, equals, record_related, edge_agrees, node_induction, node_zero}
use Rattle.majority.proofs.Formed.{formed_eq, output_eq, not_input, reads_lower}
use Rattle.majority.proofs.Levels.{within_depth, depth_at_most, output_level_lem}

-- an output's record has the value of the output and the level of the node that it names
pub kept_by_nodes : {δ n m m' o : ℕ} {moves : Moves} {rs rs' : List Record} → WellFormed n m o rs → NodesKept δ n m m' o moves rs rs' → Kept δ n m m' o rs rs'
unfolding output_value
kept_by_nodes {δ} {n} {m} {m'} {o} {rs = rs} {rs'} old w = record {
  formed = w.formed;
  outputs = λ a j h.
      let s = w.outputs j h in
      sym (output_eq w.formed (values a) j h) ∙ (rw (s.1, s.2) at (w.values a (suc (n + m + j)) (omega arith) s.0)) ∙ output_eq old (values a) j h;
  deep = depth_at_most n m' o rs' _
      (λ j h.
      let s = w.outputs j h in
      let rise = rw s.1 at (w.levels (suc (n + m + j)) (omega arith) s.0) in
      omega (arith, rise, output_level_lem w.formed j h, output_level_lem old j h, within_depth n m o rs j h));
}

-- where no node moves
pub nodes_in_place : {δ n m o : ℕ} {rs rs' : List Record} → WellFormed n m o rs'
    → ((a k : ℕ) → k ≤ n + m + o → value a rs k ≡ value a rs' k)
    → ((k : ℕ) → k ≤ n + m + o → level rs' k ≤ level rs k + δ)
    → NodesKept δ n m m o in_place rs rs'
nodes_in_place new same rise = record {
  formed = new;
  values = λ a k h s. sym (same a k h);
  levels = λ k h s. rise k h;
  nodes = λ k h. h;
  gates = λ k h s. h;
  outputs = λ j h. (refl, refl, refl);
}

-- P of each of a record's three edges
abbrev pub Each : (ℕ → Type 0) → Record → Type 0
Each P r = P r.e1 × P r.e2 × P r.e3

module _ {n m m' o : ℕ} {rs rs' : List Record} (old : WellFormed n m o rs) (new : WellFormed n m' o rs') {A : Type 0} (𝓜 : Meaning A) where
  -- record j' of the new table is record j of the old, but that f changed its edges, and that its block b may be another: no worth hangs on it
  pub counterpart : (Q : A → A → Type 0) → Respects 𝓜 Q → (f : ℕ → ℕ) {b : ℕ} (j j' : ℕ) → j < n + m + o → j' < n + m' + o
      → record_at rs' j' ≡ in_block b (edges f (record_at rs j)) → (j < n → j ≡ j')
      → Each (λ x. Q (edge_worth 𝓜 (worth 𝓜 rs) x) (edge_worth 𝓜 (worth 𝓜 rs') (f x))) (record_at rs j)
      → Q (worth 𝓜 rs (suc j)) (worth 𝓜 rs' (suc j'))
  counterpart Q 𝓠 f {b} j j' h h' same inputs q =
      rw (formed_eq old 𝓜 j h, formed_eq new 𝓜 j' h', same)
      (record_related 𝓜 Q 𝓠 _ _ (suc j) (suc j') (record_at rs j) (in_block b (edges f (record_at rs j))) refl (λ e. ap suc (number (dec_lt j n) e)) q.0 q.1 q.2)
    where
      number : Dec (j < n) → (record_at rs j).kind ≡ 1 → j ≡ j'
      number (yes p) e = inputs p
      number (no p) e = absurd (not_input old j (omega arith) h e)

  -- where f serves every edge to a lower node
  pub counterpart_lower : (Q : A → A → Type 0) → Respects 𝓜 Q → (f : ℕ → ℕ) {b : ℕ} (j j' : ℕ) → j < n + m + o → j' < n + m' + o
      → record_at rs' j' ≡ in_block b (edges f (record_at rs j)) → (j < n → j ≡ j')
      → ((x : ℕ) → node_of x ≤ j → Q (edge_worth 𝓜 (worth 𝓜 rs) x) (edge_worth 𝓜 (worth 𝓜 rs') (f x)))
      → Q (worth 𝓜 rs (suc j)) (worth 𝓜 rs' (suc j'))
  counterpart_lower Q 𝓠 f j j' h h' same inputs q =
      let low = reads_lower old j (omega (arith, old.whole)) in
      counterpart Q 𝓠 f j j' h h' same inputs (q _ (omega (arith, low.first)), q _ (omega (arith, low.second)), q _ (omega (arith, low.third)))

  -- tables whose first records are the same have the same first nodes
  pub agree_below : (i : ℕ) → i ≤ n + m + o → i ≤ n + m' + o → ((j : ℕ) → j < i → record_at rs' j ≡ record_at rs j) → (k : ℕ) → k ≤ i → worth 𝓜 rs k ≡ worth 𝓜 rs' k
  agree_below i h h' same =
      node_induction (λ k. worth 𝓜 rs k ≡ worth 𝓜 rs' k) i (node_zero 𝓜 rs ∙ sym (node_zero 𝓜 rs'))
      (λ j l below.
      counterpart_lower (λ a b. a ≡ b) (equals 𝓜) (λ x. x) j j (omega arith) (omega arith) (same j l) (λ p. refl)
      (λ x q. edge_agrees 𝓜 _ _ x (below (node_of x) q)))

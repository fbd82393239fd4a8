-- Redirecting keeps every node's value under an assignment that gives the node and the edge that stands for it the same value; and levels, where that edge stands no higher.
-- Records below the node stay as they are.
use Prim.Native.Nat.{ℕ, ◌+◌, ◌≤◌, ◌<◌}
use mathlib.Core.Path.{◌≡◌, refl, ◌∙◌}
use mathlib.Core.List.{List}
use native.Mathlib.Omega.{arith}
use lib.ListN.{length, length-map}
use Rattle.majority.specs.Edge.{node_of, redirect}
use Rattle.majority.specs.Table.{record_at, WellFormed}
use Rattle.majority.specs.Node.{Meaning, edge_worth, worth}
use Rattle.majority.specs.Value.{values, value}
use Rattle.majority.specs.Level.{levels, level}
use Rattle.majority.specs.Edit.{edges, redirect_all}
use Rattle.rules.specs.Kept.{in_place, NodesKept}
use Rattle.majority.specs.declared.Record.{Record}
use Rattle.majority.proofs.Nodes.{Respects, equals, node_induction, node_zero}
use Rattle.majority.proofs.Formed.{reads_lower}
use Rattle.rules.proofs.Placed.{placed, all_placed, unmoved, edges_stay, edges_at, edges_placed}
use Rattle.rules.proofs.KeptByNodes.{nodes_in_place, counterpart_lower}
use Rattle.majority.proofs.Meanings.{SelfDual, dual_values, dual_levels, Rises, rises}
use Rattle.rules.proofs.Edges.{redirect_miss, redirect_zero, redirect_lowers, redirect_upto}

module _ (g e : ℕ) {n m o : ℕ} {rs : List Record} (formed : WellFormed n m o rs) (some : 0 < g) (lower : node_of e ≤ g) where
  pub redirected_at : (j : ℕ) → record_at (redirect_all g e rs) j ≡ edges (redirect g e) (record_at rs j)
  unfolding redirect_all
  redirected_at j = edges_at (redirect g e) (redirect_zero g e some) rs j

  pub redirect_formed : WellFormed n m o (redirect_all g e rs)
  unfolding redirect_all
  redirect_formed =
      let lowers = redirect_lowers g e lower in
      all_placed (length-map rs (edges (redirect g e)) ∙ formed.whole)
      (λ j h. rw (redirected_at j)
      (edges_placed (redirect g e) (redirect_zero g e some) unmoved (λ x l. omega (arith, lowers x)) (λ x l. omega (arith, lowers x)) (placed formed j h)))

  -- each node stays related to itself, where g is related to e
  module _ {A : Type 0} (𝓜 : Meaning A) (dual : SelfDual 𝓜) (Q : A → A → Type 0) (𝓠 : Respects 𝓜 Q) (then : (a b c : A) → Q a b → Q b c → Q a c)
      (here : Q (worth 𝓜 rs g) (edge_worth 𝓜 (worth 𝓜 rs) e)) where
    redirect_nodes : (k : ℕ) → k ≤ n + m + o → Q (worth 𝓜 rs k) (worth 𝓜 (redirect_all g e rs) k)
    redirect_nodes =
        node_induction (λ k. Q (worth 𝓜 rs k) (worth 𝓜 (redirect_all g e rs) k)) (n + m + o)
        (rw (node_zero 𝓜 rs, node_zero 𝓜 (redirect_all g e rs)) (𝓠.same _))
        (λ j h below.
        counterpart_lower formed redirect_formed 𝓜 Q 𝓠 (redirect g e) j j h h (redirected_at j) (λ l. refl)
        (redirect_upto g e 𝓜 dual Q 𝓠 then (worth 𝓜 rs) (worth 𝓜 (redirect_all g e rs)) lower here j below))

    -- and each edge to what it becomes
    redirect_edges : (x : ℕ) → node_of x ≤ n + m + o → Q (edge_worth 𝓜 (worth 𝓜 rs) x) (edge_worth 𝓜 (worth 𝓜 (redirect_all g e rs)) (redirect g e x))
    redirect_edges = redirect_upto g e 𝓜 dual Q 𝓠 then (worth 𝓜 rs) (worth 𝓜 (redirect_all g e rs)) lower here (n + m + o) redirect_nodes

  -- under one assignment
  pub redirect_values : (a : ℕ) → value a rs g ≡ edge_worth (values a) (value a rs) e → (k : ℕ) → k ≤ n + m + o → value a rs k ≡ value a (redirect_all g e rs) k
  redirect_values a = redirect_nodes (values a) (dual_values a) (λ x y. x ≡ y) (equals (values a)) (λ x y z p q. p ∙ q)

  pub redirect_edge_values : (a : ℕ) → value a rs g ≡ edge_worth (values a) (value a rs) e
      → (x : ℕ) → node_of x ≤ n + m + o → edge_worth (values a) (value a rs) x ≡ edge_worth (values a) (value a (redirect_all g e rs)) (redirect g e x)
  redirect_edge_values a = redirect_edges (values a) (dual_values a) (λ x y. x ≡ y) (equals (values a)) (λ x y z p q. p ∙ q)

  pub redirect_levels : edge_worth levels (level rs) e ≤ level rs g → (k : ℕ) → k ≤ n + m + o → level (redirect_all g e rs) k ≤ level rs k + 0
  redirect_levels deep = redirect_nodes levels dual_levels (Rises 0) (rises 0) (λ x y z s t. omega arith) (omega arith)

  pub redirect_edge_levels : edge_worth levels (level rs) e ≤ level rs g
      → (x : ℕ) → node_of x ≤ n + m + o → edge_worth levels (level (redirect_all g e rs)) (redirect g e x) ≤ edge_worth levels (level rs) x + 0
  redirect_edge_levels deep = redirect_edges levels dual_levels (Rises 0) (rises 0) (λ x y z s t. omega arith) (omega arith)

  pub redirect_kept : ((a : ℕ) → value a rs g ≡ edge_worth (values a) (value a rs) e) → edge_worth levels (level rs) e ≤ level rs g
      → NodesKept 0 n m m o in_place rs (redirect_all g e rs)
  redirect_kept same deep = nodes_in_place redirect_formed (λ a. redirect_values a (same a)) (redirect_levels deep)

module _ {n m o : ℕ} {rs : List Record} (formed : WellFormed n m o rs) (g e : ℕ) where
  -- below g no node is named that is redirected
  pub redirect_lower : (j : ℕ) → j < length rs → j < g → edges (redirect g e) (record_at rs j) ≡ record_at rs j
  redirect_lower j h l = edges_stay (redirect g e) (record_at rs j) (λ x p. redirect_miss g e x (λ q. omega arith)) (reads_lower formed j h)

  pub redirect_below : 0 < g → (j : ℕ) → j < length rs → j < g → record_at (redirect_all g e rs) j ≡ record_at rs j
  unfolding redirect_all
  redirect_below some j h l = edges_at (redirect g e) (redirect_zero g e some) rs j ∙ redirect_lower j h l

-- The first records of a table stand in another one too, raised: c places higher from node h on, and their edges alike, in whatever blocks. Each node is worth
-- there what it is worth.
use Prim.Native.Nat.{ℕ, ◌+◌, ◌-◌, ◌≤◌, ◌<◌}
use mathlib.Core.Path.{◌≡◌, sym, ◌∙◌}
use mathlib.Core.List.{List}
use native.Mathlib.Omega.{arith}
use Rattle.majority.specs.Edge.{node_of, raised, raise}
use Rattle.majority.specs.Table.{record_at, WellFormed}
use Rattle.majority.specs.Node.{Meaning, edge_worth, worth}
use Rattle.majority.specs.Edit.{edges}
use Rattle.rules.specs.Voter.{in_block}
use Rattle.majority.specs.declared.Record.{Record}
use Rattle.majority.proofs.Nodes.{equals, edge_related, node_induction, node_zero}
use Rattle.rules.proofs.KeptByNodes.{counterpart_lower}
use Rattle.rules.proofs.Raise.{raised_below, raised_cases, raised_next, raise_node, raise_parity}

module _ {n m m' o : ℕ} {rs rs' : List Record} (old : WellFormed n m o rs) (new : WellFormed n m' o rs') (h c last : ℕ)
    (from : n < h) (upto : last ≤ n + m + o) (room : last + c ≤ n + m' + o)
    (block : ℕ → ℕ) (stands : (j : ℕ) → j < last → record_at rs' (raised (h - 1) c j) ≡ in_block (block j) (edges (raise h c) (record_at rs j)))
    {A : Type 0} (𝓜 : Meaning A) where
  -- an edge, by the node that it names
  of_node : (x : ℕ) → worth 𝓜 rs (node_of x) ≡ worth 𝓜 rs' (raised h c (node_of x)) → edge_worth 𝓜 (worth 𝓜 rs) x ≡ edge_worth 𝓜 (worth 𝓜 rs') (raise h c x)
  of_node x same = edge_related 𝓜 (λ x y. x ≡ y) (equals 𝓜) _ _ x (raise h c x) (sym (raise_parity h c x)) (rw (raise_node h c x) same)

  pub raised_nodes : (k : ℕ) → k ≤ last → worth 𝓜 rs k ≡ worth 𝓜 rs' (raised h c k)
  raised_nodes =
      node_induction (λ k. worth 𝓜 rs k ≡ worth 𝓜 rs' (raised h c k)) last
      (rw (raised_below h c 0 (omega arith)) (node_zero 𝓜 rs ∙ sym (node_zero 𝓜 rs')))
      (λ j l below.
      rw (raised_next h c j (omega arith))
      (counterpart_lower old new 𝓜 (λ x y. x ≡ y) (equals 𝓜) (raise h c) j (raised (h - 1) c j) (omega arith) (inside j l) (stands j l)
      (λ p. sym (raised_below (h - 1) c j (omega arith)))
      (λ x p. of_node x (below (node_of x) p))))
    where
      inside : (j : ℕ) → j < last → raised (h - 1) c j < n + m' + o
      inside j l = raised_cases (h - 1) c (λ k. k < n + m' + o) j (λ p. omega arith) (λ p. omega arith)

  pub raised_edge : (x : ℕ) → node_of x ≤ last → edge_worth 𝓜 (worth 𝓜 rs) x ≡ edge_worth 𝓜 (worth 𝓜 rs') (raise h c x)
  raised_edge x l = of_node x (raised_nodes (node_of x) l)

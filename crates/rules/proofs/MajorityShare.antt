-- Rules 2, 7 and 10, majority, share and opposite: a gate is redirected to an edge of the same value that stands no higher.
use Prim.Native.Nat.{ℕ, ◌<◌}
use mathlib.Core.Path.{◌≡◌, sym, ap, ◌∙◌}
use mathlib.Core.Bool.{Bool, true, ◌&&◌}
use mathlib.Core.List.{List}
use native.Mathlib.Omega.{arith}
use borrow.Author.Tests.{eqb-true}
use lib.Dec.{eqb}
use Rattle.majority.specs.Edge.{flip}
use Rattle.majority.specs.Node.{Meaning, edge_worth, worth}
use Rattle.majority.specs.Value.{majority_of, values, value}
use Rattle.majority.specs.Level.{levels}
use Rattle.majority.specs.Edit.{node_record}
use Rattle.rules.specs.Rules.{plain, majority_form, majority_rule, share_form, share, opposite_form, opposite}
use Rattle.rules.specs.Kept.{in_place, NodesKept}
use Rattle.majority.specs.declared.Record.{Record}
use Rattle.majority.proofs.Logic.{both}
use Rattle.majority.proofs.MajorityLaws.{majority_equal, majority_opposite}
use Rattle.majority.proofs.Meanings.{dual_values}
use Rattle.rules.proofs.Edges.{flip_worth, plain_worth}
use Rattle.rules.proofs.GateNodes.{GateOf, gate_reads, gate_node, gate_level_lem}
use Rattle.rules.proofs.Redirect.{redirect_kept}

module _ {n m o g : ℕ} {rs : List Record} (is : GateOf n m o g rs) where
  abbrev r : Record
  r = node_record rs g

  -- the value of an edge
  abbrev v : ℕ → ℕ → Bool
  v a = edge_worth (values a) (value a rs)

  -- M(x, x, z) = x
  pub majority_kept : majority_form r ≡ true → NodesKept 0 n m m o in_place rs (majority_rule g rs)
  unfolding majority_form majority_rule
  majority_kept form =
      let same : r.e2 ≡ r.e1 = eqb-true _ _ form in
      redirect_kept g r.e1 is.formed (omega (arith, is.from)) (omega (arith, (gate_reads is).first))
      (λ a. gate_node is (values a) ∙ ap (λ (e : ℕ). majority_of (v a r.e1) (v a e) (v a r.e3)) same ∙ majority_equal _ _)
      (omega (arith, (gate_level_lem is).0))

  -- M(x, not x, z) = z
  pub opposite_kept : opposite_form r ≡ true → NodesKept 0 n m m o in_place rs (opposite g rs)
  unfolding opposite_form opposite
  opposite_kept form =
      let against : r.e2 ≡ flip r.e1 = eqb-true _ _ form in
      redirect_kept g r.e3 is.formed (omega (arith, is.from)) (omega (arith, (gate_reads is).third))
      (λ a.
      gate_node is (values a)
      ∙ ap (λ (b : Bool). majority_of (v a r.e1) b (v a r.e3)) (ap (v a) against ∙ flip_worth (values a) (dual_values a) (value a rs) r.e1)
      ∙ majority_opposite _ _)
      (omega (arith, (gate_level_lem is).2))

  module _ (a : ℕ) (from : n < a) (below : a < g) (form : share_form r (node_record rs a) ≡ true) where
    abbrev s : Record
    s = node_record rs a

    alike : (s.e1 ≡ r.e1) × (s.e2 ≡ r.e2) × (s.e3 ≡ r.e3)
    unfolding share_form
    alike =
        let w = both (eqb s.block r.block && eqb s.e1 r.e1 && eqb s.e2 r.e2) (eqb s.e3 r.e3) form in
        let u = both (eqb s.block r.block && eqb s.e1 r.e1) (eqb s.e2 r.e2) w.0 in
        let t = both (eqb s.block r.block) (eqb s.e1 r.e1) u.0 in
        (eqb-true _ _ t.1, eqb-true _ _ u.1, eqb-true _ _ w.1)

    too : GateOf n m o a rs
    too = record { formed = is.formed; from = from; upto = omega (arith, is.upto) }

    twin : {A : Type 0} (𝓜 : Meaning A) → worth 𝓜 rs g ≡ edge_worth 𝓜 (worth 𝓜 rs) (plain a)
    twin 𝓜 = gate_node is 𝓜 ∙ cc (alike.0, alike.1, alike.2) ∙ sym (gate_node too 𝓜) ∙ sym (plain_worth 𝓜 (worth 𝓜 rs) a)

    pub share_kept : NodesKept 0 n m m o in_place rs (share a g rs)
    unfolding share
    share_kept = redirect_kept g (plain a) is.formed (omega arith) (omega arith) (λ b. twin (values b)) (omega (arith, twin levels))

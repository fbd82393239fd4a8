-- Rule 4, distributivity outward: (x, y, (u, v, z)) becomes ((x, y, u), (x, y, v), z).
use Prim.Native.Nat.{ℕ, ◌+◌, ◌≤◌}
use mathlib.Core.Path.{◌≡◌, refl, sym, ◌∙◌}
use mathlib.Core.Bool.{true}
use mathlib.Core.List.{List, [], ◌∷◌}
use native.Mathlib.Omega.{arith}
use Rattle.majority.specs.Table.{gate, Below}
use Rattle.majority.specs.Node.{Meaning, edge_worth, worth}
use Rattle.majority.specs.Value.{values}
use Rattle.majority.specs.Level.{levels, level}
use Rattle.majority.specs.Edit.{node_record, insert}
use Rattle.rules.specs.Rules.{plain, plain_gate, named, outward_form, outward}
use Rattle.rules.specs.Kept.{raising, NodesKept}
use Rattle.majority.specs.declared.Record.{Record}
use Rattle.majority.proofs.Levels.{above_least}
use Rattle.majority.proofs.MajorityLaws.{majority_distributive}
use Rattle.rules.proofs.GateNodes.{gate_worth, GateOf, gate_reads, gate_node, gate_level_lem, named_reads, named_worth, named_level}
use Rattle.rules.proofs.InsertNodes.{GatesBelow, in_order, insert_edge, inserted_edge}
use Rattle.rules.proofs.InsertAndBecome.{two_new, growth_kept, first_inserted}

module _ {n m o g : ℕ} {rs : List Record} (is : GateOf n m o g rs) where
  abbrev r : Record
  r = node_record rs g

  abbrev h : Record
  h = named rs r.e3

  -- the inserted gates, and what g becomes
  abbrev p : Record
  p = gate r.block r.e1 r.e2 h.e1

  abbrev q : Record
  q = gate r.block r.e1 r.e2 h.e2

  abbrev last : Record
  last = gate r.block (plain g) (plain (g + 1)) h.e3

  module _ (form : outward_form n r ≡ true) where
    is_plain : plain_gate n r.e3 ≡ true
    unfolding outward_form
    is_plain = form

    r_reads : Below g r
    r_reads = gate_reads is

    h_reads : Below g h
    h_reads = named_reads is r.e3 r_reads.third is_plain

    gates : GatesBelow g (p ∷ q ∷ [])
    gates =
        two_new (λ s. (s.kind ≡ 2) × Below g s) p q
        (refl, record { first = r_reads.first; second = r_reads.second; third = h_reads.first })
        (refl, record { first = r_reads.first; second = r_reads.second; third = h_reads.second })

    module _ {A : Type 0} (𝓜 : Meaning A) where
      abbrev v : ℕ → A
      v = edge_worth 𝓜 (worth 𝓜 rs)

      before : worth 𝓜 rs g ≡ 𝓜.gate (v r.e1) (v r.e2) (𝓜.gate (v h.e1) (v h.e2) (v h.e3))
      before = gate_node is 𝓜 ∙ cc (named_worth is r.e3 r_reads.third is_plain 𝓜)

      after : gate_worth 𝓜 (worth 𝓜 (insert g (p ∷ q ∷ []) rs)) last
          ≡ 𝓜.gate (𝓜.gate (v r.e1) (v r.e2) (v h.e1)) (𝓜.gate (v r.e1) (v r.e2) (v h.e2)) (v h.e3)
      after =
          cc (
            first_inserted is (p ∷ q ∷ []) gates 𝓜 (omega arith),
            inserted_edge is (p ∷ q ∷ []) gates 𝓜 1 (omega arith),
            insert_edge is (p ∷ q ∷ []) gates 𝓜 h.e3 h_reads.third,
          )

    pub outward_kept : NodesKept 1 n m (m + 2) o (raising g 2) rs (outward g rs)
    unfolding outward
    outward_kept =
        let lv = gate_level_lem is in
        let lh = named_level is r.e3 r_reads.third is_plain in
        let low_p : gate_worth levels (level rs) p ≤ level rs g = above_least _ _ _ _ lv.0 lv.1 (omega (arith, lv.2, lh.0)) in
        let low_q : gate_worth levels (level rs) q ≤ level rs g = above_least _ _ _ _ lv.0 lv.1 (omega (arith, lv.2, lh.1)) in
        growth_kept is (p ∷ q ∷ []) (in_order g (p ∷ q ∷ []) gates) last refl
        (record { first = omega arith; second = omega arith; third = omega (arith, h_reads.third) })
        (λ a. before (values a) ∙ sym (majority_distributive _ _ _ _ _) ∙ sym (after (values a)))
        (rw (after levels) (above_least _ _ _ _ (omega arith) (omega arith) (omega (arith, lv.2, lh.2))))

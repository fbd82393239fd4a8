-- Rule 3, associativity: (x, u, (y, u, z)) becomes (z, u, (y, u, x)).
use Prim.Native.Nat.{ℕ, ◌+◌, ◌≤◌}
use mathlib.Core.Path.{◌≡◌, refl, sym, ◌∙◌}
use mathlib.Core.Bool.{true}
use mathlib.Core.List.{List, [], ◌∷◌}
use native.Mathlib.Omega.{arith}
use borrow.Author.Tests.{eqb-true}
use lib.Dec.{eqb}
use Rattle.majority.specs.Table.{gate, Below}
use Rattle.majority.specs.Node.{Meaning, edge_worth, worth}
use Rattle.majority.specs.Value.{values}
use Rattle.majority.specs.Level.{levels, level}
use Rattle.majority.specs.Edit.{node_record, insert}
use Rattle.rules.specs.Rules.{plain, plain_gate, named, associativity_form, associativity}
use Rattle.rules.specs.Kept.{raising, NodesKept}
use Rattle.majority.specs.declared.Record.{Record}
use Rattle.majority.proofs.Logic.{both}
use Rattle.majority.proofs.Levels.{above_least}
use Rattle.majority.proofs.MajorityLaws.{majority_associative}
use Rattle.rules.proofs.GateNodes.{gate_worth, GateOf, gate_reads, gate_node, gate_level_lem, named_reads, named_worth, named_level}
use Rattle.rules.proofs.InsertNodes.{GatesBelow, in_order, insert_edge}
use Rattle.rules.proofs.InsertAndBecome.{one_new, growth_kept, first_inserted}

module _ {n m o g : ℕ} {rs : List Record} (is : GateOf n m o g rs) where
  abbrev r : Record
  r = node_record rs g

  abbrev h : Record
  h = named rs r.e3

  -- the inserted gate, and what g becomes
  abbrev new : Record
  new = gate r.block h.e1 r.e2 r.e1

  abbrev last : Record
  last = gate r.block h.e3 r.e2 (plain g)

  module _ (form : associativity_form n r h ≡ true) where
    is_plain : plain_gate n r.e3 ≡ true
    unfolding associativity_form
    is_plain = (both (plain_gate n r.e3) (eqb h.e2 r.e2) form).0

    shared : h.e2 ≡ r.e2
    unfolding associativity_form
    shared = eqb-true _ _ (both (plain_gate n r.e3) (eqb h.e2 r.e2) form).1

    r_reads : Below g r
    r_reads = gate_reads is

    h_reads : Below g h
    h_reads = named_reads is r.e3 r_reads.third is_plain

    gates : GatesBelow g (new ∷ [])
    gates = one_new (λ s. (s.kind ≡ 2) × Below g s) new (refl, record { first = h_reads.first; second = r_reads.second; third = r_reads.first })

    module _ {A : Type 0} (𝓜 : Meaning A) where
      abbrev v : ℕ → A
      v = edge_worth 𝓜 (worth 𝓜 rs)

      before : worth 𝓜 rs g ≡ 𝓜.gate (v r.e1) (v r.e2) (𝓜.gate (v h.e1) (v r.e2) (v h.e3))
      before = gate_node is 𝓜 ∙ cc (named_worth is r.e3 r_reads.third is_plain 𝓜, shared)

      after : gate_worth 𝓜 (worth 𝓜 (insert g (new ∷ []) rs)) last ≡ 𝓜.gate (v h.e3) (v r.e2) (𝓜.gate (v h.e1) (v r.e2) (v r.e1))
      after =
          let stays = insert_edge is (new ∷ []) gates 𝓜 in
          cc (stays h.e3 h_reads.third, stays r.e2 r_reads.second, first_inserted is (new ∷ []) gates 𝓜 (omega arith))

    pub associativity_kept : NodesKept 1 n m (m + 1) o (raising g 1) rs (associativity g rs)
    unfolding associativity
    associativity_kept =
        let lv = gate_level_lem is in
        let lh = named_level is r.e3 r_reads.third is_plain in
        let low : gate_worth levels (level rs) new ≤ level rs g = above_least _ _ _ _ (omega (arith, lv.2, lh.0)) lv.1 lv.0 in
        growth_kept is (new ∷ []) (in_order g (new ∷ []) gates) last refl
        (record { first = omega (arith, h_reads.third); second = omega (arith, r_reads.second); third = omega arith })
        (λ a. before (values a) ∙ sym (majority_associative _ _ _ _) ∙ sym (after (values a)))
        (rw (after levels) (above_least _ _ _ _ (omega (arith, lv.2, lh.2)) (omega (arith, lv.1)) (omega arith)))

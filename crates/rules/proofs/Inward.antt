-- Rule 5, distributivity inward: ((x, y, u), (x, y, v), z) becomes (x, y, (u, v, z)).
use Prim.Native.Nat.{ℕ, ◌+◌, ◌≤◌}
use mathlib.Core.Path.{◌≡◌, refl, sym, ◌∙◌}
use mathlib.Core.Bool.{true, ◌&&◌}
use mathlib.Core.List.{List, [], ◌∷◌}
use native.Mathlib.Omega.{arith}
use borrow.Author.Tests.{eqb-true}
use lib.Dec.{eqb}
use Rattle.majority.specs.Table.{gate, Below}
use Rattle.majority.specs.Node.{Meaning, edge_worth, worth}
use Rattle.majority.specs.Value.{values}
use Rattle.majority.specs.Level.{levels, level}
use Rattle.majority.specs.Edit.{node_record, insert}
use Rattle.rules.specs.Rules.{plain, plain_gate, named, inward_form, inward}
use Rattle.rules.specs.Kept.{raising, NodesKept}
use Rattle.majority.specs.declared.Record.{Record}
use Rattle.majority.proofs.Logic.{both}
use Rattle.majority.proofs.Levels.{above_least}
use Rattle.majority.proofs.MajorityLaws.{majority_distributive}
use Rattle.rules.proofs.GateNodes.{gate_worth, GateOf, gate_reads, gate_node, gate_level_lem, named_reads, named_worth, named_level}
use Rattle.rules.proofs.InsertNodes.{GatesBelow, in_order, insert_edge}
use Rattle.rules.proofs.InsertAndBecome.{one_new, growth_kept, first_inserted}

module _ {n m o g : ℕ} {rs : List Record} (is : GateOf n m o g rs) where
  abbrev r : Record
  r = node_record rs g

  abbrev p : Record
  p = named rs r.e1

  abbrev q : Record
  q = named rs r.e2

  -- the inserted gate, and what g becomes
  abbrev new : Record
  new = gate r.block p.e3 q.e3 r.e3

  abbrev last : Record
  last = gate r.block p.e1 p.e2 (plain g)

  -- what the form says
  record Form : Type 0 where
    p_plain : plain_gate n r.e1 ≡ true
    q_plain : plain_gate n r.e2 ≡ true
    first : q.e1 ≡ p.e1
    second : q.e2 ≡ p.e2

  has_form_lem : inward_form n r p q ≡ true → Form
  unfolding inward_form
  has_form_lem form =
      let w = both (plain_gate n r.e1 && plain_gate n r.e2 && eqb q.e1 p.e1) (eqb q.e2 p.e2) form in
      let u = both (plain_gate n r.e1 && plain_gate n r.e2) (eqb q.e1 p.e1) w.0 in
      let s = both (plain_gate n r.e1) (plain_gate n r.e2) u.0 in
      record { p_plain = s.0; q_plain = s.1; first = eqb-true _ _ u.1; second = eqb-true _ _ w.1 }

  module _ (form : Form) where
    r_reads : Below g r
    r_reads = gate_reads is

    p_reads : Below g p
    p_reads = named_reads is r.e1 r_reads.first form.p_plain

    q_reads : Below g q
    q_reads = named_reads is r.e2 r_reads.second form.q_plain

    gates : GatesBelow g (new ∷ [])
    gates = one_new (λ s. (s.kind ≡ 2) × Below g s) new (refl, record { first = p_reads.third; second = q_reads.third; third = r_reads.third })

    module _ {A : Type 0} (𝓜 : Meaning A) where
      abbrev v : ℕ → A
      v = edge_worth 𝓜 (worth 𝓜 rs)

      before : worth 𝓜 rs g ≡ 𝓜.gate (𝓜.gate (v p.e1) (v p.e2) (v p.e3)) (𝓜.gate (v p.e1) (v p.e2) (v q.e3)) (v r.e3)
      before =
          gate_node is 𝓜
          ∙ cc (named_worth is r.e1 r_reads.first form.p_plain 𝓜, named_worth is r.e2 r_reads.second form.q_plain 𝓜, form.first, form.second)

      after : gate_worth 𝓜 (worth 𝓜 (insert g (new ∷ []) rs)) last ≡ 𝓜.gate (v p.e1) (v p.e2) (𝓜.gate (v p.e3) (v q.e3) (v r.e3))
      after =
          let stays = insert_edge is (new ∷ []) gates 𝓜 in
          cc (stays p.e1 p_reads.first, stays p.e2 p_reads.second, first_inserted is (new ∷ []) gates 𝓜 (omega arith))

    formed_kept : NodesKept 1 n m (m + 1) o (raising g 1) rs (inward g rs)
    unfolding inward
    formed_kept =
        let lv = gate_level_lem is in
        let lp = named_level is r.e1 r_reads.first form.p_plain in
        let lq = named_level is r.e2 r_reads.second form.q_plain in
        let low : gate_worth levels (level rs) new ≤ level rs g = above_least _ _ _ _ (omega (arith, lv.0, lp.2)) (omega (arith, lv.1, lq.2)) lv.2 in
        growth_kept is (new ∷ []) (in_order g (new ∷ []) gates) last refl
        (record { first = omega (arith, p_reads.first); second = omega (arith, p_reads.second); third = omega arith })
        (λ a. before (values a) ∙ majority_distributive _ _ _ _ _ ∙ sym (after (values a)))
        (rw (after levels) (above_least _ _ _ _ (omega (arith, lv.0, lp.0)) (omega (arith, lv.0, lp.1)) (omega arith)))

  pub inward_kept : inward_form n r p q ≡ true → NodesKept 1 n m (m + 1) o (raising g 1) rs (inward g rs)
  inward_kept form = formed_kept (has_form_lem form)

-- Rule 1, exchange: a gate's edges in another order keep the table.
use Prim.Native.Nat.{ℕ}
use mathlib.Core.Path.{refl, sym, ◌∙◌}
use mathlib.Core.Bool.{Bool, true, false}
use mathlib.Core.List.{List}
use native.Mathlib.Omega.{arith}
use lib.Dec.{eqb}
use Rattle.std.specs.Prelude.{if◌then◌else◌}
use Rattle.majority.specs.Table.{gate}
use Rattle.majority.specs.Value.{values}
use Rattle.majority.specs.Edit.{node_record, become}
use Rattle.rules.specs.Rules.{exchange}
use Rattle.rules.specs.Kept.{in_place, NodesKept}
use Rattle.majority.specs.declared.Record.{Record}
use Rattle.majority.proofs.Levels.{above_least}
use Rattle.majority.proofs.MajorityLaws.{majority_first_second, majority_first_third}
use Rattle.rules.proofs.GateNodes.{GateOf, gate_reads, gate_node, gate_level_lem}
use Rattle.rules.proofs.Become.{become_kept}

module _ {n m o g : ℕ} {rs : List Record} (is : GateOf n m o g rs) where
  abbrev r : Record
  r = node_record rs g

  either : (t : Bool) → NodesKept 0 n m m o in_place rs (become g (if t then gate r.block r.e2 r.e1 r.e3 else gate r.block r.e3 r.e2 r.e1) rs)
  either true =
      let low = gate_reads is in
      let under = gate_level_lem is in
      become_kept is (gate r.block r.e2 r.e1 r.e3) refl (record { first = low.second; second = low.first; third = low.third }) 0
      (λ a. gate_node is (values a) ∙ sym (majority_first_second _ _ _))
      (above_least _ _ _ _ (omega (arith, under.1)) (omega (arith, under.0)) (omega (arith, under.2)))
  either false =
      let low = gate_reads is in
      let under = gate_level_lem is in
      become_kept is (gate r.block r.e3 r.e2 r.e1) refl (record { first = low.third; second = low.second; third = low.first }) 0
      (λ a. gate_node is (values a) ∙ sym (majority_first_third _ _ _))
      (above_least _ _ _ _ (omega (arith, under.2)) (omega (arith, under.1)) (omega (arith, under.0)))

  pub exchange_kept : (a : ℕ) → NodesKept 0 n m m o in_place rs (exchange a g rs)
  unfolding exchange
  exchange_kept a = either (eqb a 1)

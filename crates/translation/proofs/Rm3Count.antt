-- How many records a translation has: what each edge, gate, node and output adds at most, and exactly where helpers are made anew.
use Prim.Native.Nat.{ℕ, zero, suc, ◌+◌, ◌-◌, ◌≤◌}
use mathlib.Core.Path.{◌≡◌}
use mathlib.Core.Bool.{Bool, true, false}
use mathlib.Core.List.{List, [], ◌∷◌, ◌++◌}
use native.Mathlib.Omega.{arith}
use lib.Dec.{eqb}
use lib.ListN.{length, get_or}
use Rattle.std.specs.Prelude.{if◌then◌else◌}
use Rattle.majority.specs.Edge.{node_of}
use Rattle.majority.specs.Table.{input, output}
use Rattle.majority.specs.Node.{by_kind}
use Rattle.translation.specs.Rm3.{operation}
use Rattle.translation.specs.Translate.{Draft, more, after, class_of, is_constant, needs_helper, Placed, helper, place, in_order_of, gate3, nodes3, outputs3}
use Rattle.translation.specs.Count3.{helper_count, helpers_of, gate_operations, output_operations, total}
use Rattle.majority.specs.declared.Record.{Record}
use Rattle.translation.specs.declared.Class.{Class}
use Rattle.translation.specs.declared.Class.TheVariants.{Constant, Plain, Inverted}
use Rattle.translation.specs.declared.Mode.{Mode}
use Rattle.translation.specs.declared.Mode.TheVariants.{Anew, Once}
use Rattle.translation.proofs.Begins.{length_more}
use Rattle.translation.proofs.Rm3Gate.{middle_of}
use Rattle.translation.proofs.Rm3Nodes.{named}

-- records grow from a to b: at most k more, and exactly k where helpers are made anew
pub record Adds (mode : Mode) (a b k : ℕ) : Type 0 where
  pub most : b ≤ a + k
  pub anew : mode ≡ Anew → b ≡ a + k

adds_none : (mode : Mode) (a : ℕ) → Adds mode a a 0
adds_none mode a = record { most = omega arith; anew = λ q. omega arith }

adds_one : (mode : Mode) (ts : List Record) (r : Record) → Adds mode (length ts) (length (ts ++ r ∷ [])) 1
adds_one mode ts r = record { most = omega (arith, length_more ts r); anew = λ q. omega (arith, length_more ts r) }

helper_adds : (mode : Mode) (b k node : ℕ) (d : Draft) → Adds mode (length d.table) (length (helper mode b k node d).draft.table) 1
helper_adds Anew b k node d = adds_one Anew d.table (operation b 0 node 1)
helper_adds Once b k node d =
    either (eqb (d.helpers k) 0) _ _ (adds_one Once d.table (operation b 0 node 1)) (record { most = omega arith; anew = λ q. let z : ◌≡◌ {A = ℕ} 0 1 = cc in absurd (omega arith) })
  where
    either : (t : Bool) (p q : Placed) → Adds Once (length d.table) (length p.draft.table) 1 → Adds Once (length d.table) (length q.draft.table) 1
        → Adds Once (length d.table) (length (if t then p else q).draft.table) 1
    either true p q made serves = made
    either false p q made serves = serves

module _ (mode : Mode) where
  place_adds : (b : ℕ) (isMiddle : Bool) (operands : List ℕ) (e : ℕ) (d : Draft)
      → Adds mode (length d.table) (length (place mode b isMiddle operands e d).draft.table) (helper_count isMiddle (class_of e))
  unfolding place
  place_adds b isMiddle operands e d = go (class_of e) isMiddle
    where
      node : ℕ
      node = get_or operands (node_of e) 0

      go : (k : Class) (t : Bool)
          → let p : Placed = if is_constant k then record { operand = if t then 1 - e else e; draft = d }
          else if needs_helper t k then helper mode b (node_of e) node d
          else record { operand = node; draft = d } in
          Adds mode (length d.table) (length p.draft.table) (helper_count t k)
      go Constant t = adds_none mode _
      go Plain true = helper_adds mode b (node_of e) node d
      go Plain false = adds_none mode _
      go Inverted true = adds_none mode _
      go Inverted false = helper_adds mode b (node_of e) node d

  gate_adds : (operands : List ℕ) (r : Record) (d : Draft) → Adds mode (length d.table) (length (gate3 mode operands r d).table) (gate_operations r)
  unfolding gate3 gate_operations helpers_of
  gate_adds operands r d =
      let mid = middle_of r in
      let p = place mode r.block (eqb mid 1) operands r.e1 d in
      let q = place mode r.block (eqb mid 2) operands r.e2 p.draft in
      let s = place mode r.block (eqb mid 3) operands r.e3 q.draft in
      let one = place_adds r.block (eqb mid 1) operands r.e1 d in
      let two = place_adds r.block (eqb mid 2) operands r.e2 p.draft in
      let three = place_adds r.block (eqb mid 3) operands r.e3 q.draft in
      let last = length_more s.draft.table (in_order_of r.block mid p.operand q.operand s.operand) in
      record {
        most = omega (arith, one.most, two.most, three.most, last);
        anew = λ a. omega (arith, one.anew a, two.anew a, three.anew a, last);
      }

-- how many records of the RM3 table stand for a node, at most
abbrev pub node_records : Record → ℕ
node_records r = by_kind r.kind 1 (gate_operations r) 0 0

module _ (mode : Mode) where
  after_adds : (operands : List ℕ) (d : Draft) (r : Record) → Adds mode (length d.table) (length (after mode operands d r).table) (node_records r)
  after_adds operands d r = go r.kind
    where
      go : (k : ℕ) → Adds mode (length d.table) (length (by_kind k (more d input) (gate3 mode operands r d) d d).table) (by_kind k 1 (gate_operations r) 0 0)
      go zero = adds_none mode _
      go (suc zero) = adds_one mode d.table input
      go (suc (suc zero)) = gate_adds mode operands r d
      go (suc (suc (suc k))) = adds_none mode _

  pub nodes_add : (operands : List ℕ) (d : Draft) (rs : List Record) → Adds mode (length d.table) (length (nodes3 mode operands d rs).draft.table) (total node_records rs)
  unfolding total
  nodes_add operands d [] = adds_none mode _
  nodes_add operands d (r ∷ rs) =
      let next = after mode operands d r in
      let one = after_adds operands d r in
      let rest = nodes_add (named operands next) next rs in
      record { most = omega (arith, one.most, rest.most); anew = λ a. omega (arith, one.anew a, rest.anew a) }

  pub outputs_add : (operands : List ℕ) (d : Draft) (os rs : List Record) → Adds mode (length d.table) (length (outputs3 mode operands d os rs).draft.table) (total output_operations rs)
  unfolding total output_operations
  outputs_add operands d os [] = adds_none mode _
  outputs_add operands d os (r ∷ rs) =
      let p = place mode 0 false operands r.e1 d in
      let one = place_adds mode 0 false operands r.e1 d in
      let rest = outputs_add operands p.draft (os ++ output p.operand ∷ []) rs in
      record { most = omega (arith, one.most, rest.most); anew = λ a. omega (arith, one.anew a, rest.anew a) }

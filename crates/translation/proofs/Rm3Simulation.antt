-- The simulation: what an operand is worth is related to what its node is worth, for values and for levels alike.
use Prim.Native.Nat.{ℕ, zero, suc, ◌+◌, ◌-◌, ◌≤◌, ◌<◌}
use mathlib.Core.Path.{◌≡◌}
use mathlib.Core.Bool.{Bool, true, false, not}
use mathlib.Core.List.{List}
use native.Mathlib.Omega.{arith}
use native.Mathlib.Decide.{dec_lt}
use lib.Dec.{eqb}
use lib.ListN.{length, get_or}
use Rattle.std.specs.Prelude.{if◌then◌else◌}
use Rattle.majority.specs.Edge.{node_of, is_inverted}
use Rattle.majority.specs.Table.{record_at, WellFormed}
use Rattle.majority.specs.Node.{Meaning, edge_worth, worth}
use Rattle.translation.specs.Rm3.{operation, worth3, WellFormed3}
use Rattle.translation.specs.Translate.{is_constant, is_inverted_class, middle, in_order_of, operands_of, translation, operations}
use Rattle.majority.specs.declared.Record.{Record}
use Rattle.translation.specs.declared.Class.{Class}
use Rattle.translation.specs.declared.Mode.{Mode}
use Rattle.majority.proofs.Nodes.{node_induction, node_zero}
use Rattle.majority.proofs.Formed.{input_eq, gate_eq}
use Rattle.translation.proofs.Rm3Worth.{false_worth, true_worth, input3_eq, operation_worth}
use Rattle.translation.proofs.Rm3Place.{Serves, itself, direct, helped}
use Rattle.translation.proofs.Rm3Gate.{Made, middle_of}
use Rattle.translation.proofs.Rm3Formed.{Translation, translated, translated_formed}

-- N relates what a node and its operand are worth, E what an edge and an operation's place for it are worth; the operation inverts its middle place
pub record Simulates {A : Type 0} (𝓜 : Meaning A) (N E : A → A → Type 0) : Type 0 where
  pub twice : (a : A) → 𝓜.inverse (𝓜.inverse a) ≡ a
  pub first_second : (a b c : A) → 𝓜.gate b a c ≡ 𝓜.gate a b c
  pub second_third : (a b c : A) → 𝓜.gate a c b ≡ 𝓜.gate a b c
  pub same : (a : A) → N a a
  pub edges : (a b : A) → N a b → E a b
  pub inverses : (a b : A) → E a b → E (𝓜.inverse a) (𝓜.inverse b)
  pub helpers : (a b : A) → N a b → E (𝓜.inverse a) (𝓜.gate 𝓜.constant (𝓜.inverse b) (𝓜.inverse 𝓜.constant))
  pub gates : (a b c a' b' c' : A) → E a a' → E b b' → E c c' → N (𝓜.gate a b c) (𝓜.gate a' b' c')

-- the middle place is one of three
at_middle : (P : ℕ → Type 0) → P 1 → P 2 → P 3 → (a b c : Class) → P (middle a b c)
unfolding middle
at_middle P p q s a b c =
    either (is_inverted_class a) p (either (is_inverted_class b) q (either (is_inverted_class c) s (either (is_constant a) p (either (is_constant b) q (either (is_constant c) s q)))))
  where
    either : (t : Bool) {x y : ℕ} → P x → P y → P (if t then x else y)
    either true p q = p
    either false p q = q

module _ {A : Type 0} (𝓜 : Meaning A) (N E : A → A → Type 0) (𝓢 : Simulates 𝓜 N E) {n p o : ℕ} {ts : List Record} (formed : WellFormed3 n p o ts)
    (v : ℕ → A) (false-node : v 0 ≡ 𝓜.constant) (operands : List ℕ) where
  -- what an operation makes of operand x
  abbrev in_place : Bool → ℕ → A
  in_place isMiddle x = if isMiddle then 𝓜.inverse (worth3 𝓜 ts x) else worth3 𝓜 ts x

  -- the edge's node is related to its operand
  abbrev Simulated : ℕ → Type 0
  Simulated e = N (v (node_of e)) (worth3 𝓜 ts (get_or operands (node_of e) 0))

  constant_served : (e : ℕ) (isMiddle : Bool) → node_of e ≡ 0 → edge_worth 𝓜 v e ≡ in_place isMiddle (if isMiddle then 1 - e else e)
  unfolding edge_worth
  constant_served zero true h = rw (false-node, true_worth 𝓜 ts, 𝓢.twice)
  constant_served zero false h = rw (false-node, false_worth 𝓜 ts)
  constant_served (suc zero) true h = rw (false-node, false_worth 𝓜 ts)
  constant_served (suc zero) false h = rw (false-node, true_worth 𝓜 ts)
  constant_served (suc (suc e)) isMiddle h = absurd (omega arith)

  direct_served : (e : ℕ) (isMiddle : Bool) → is_inverted e ≡ isMiddle → Simulated e → E (edge_worth 𝓜 v e) (in_place isMiddle (get_or operands (node_of e) 0))
  unfolding edge_worth
  direct_served e true h q = rw h (𝓢.inverses _ _ (𝓢.edges _ _ q))
  direct_served e false h q = rw h (𝓢.edges _ _ q)

  helper_served : (e i b : ℕ) (isMiddle : Bool) → is_inverted e ≡ not isMiddle → i < length ts → record_at ts i ≡ operation b 0 (get_or operands (node_of e) 0) 1 → Simulated e
      → E (edge_worth 𝓜 v e) (in_place isMiddle (i + 2))
  unfolding edge_worth
  helper_served e i b true h l is q =
      rw (h, operation_worth formed 𝓜 i _ _ _ l is, false_worth 𝓜 ts, true_worth 𝓜 ts)
      (rw 𝓢.twice at (𝓢.inverses _ _ (𝓢.helpers _ _ q)))
  helper_served e i b false h l is q = rw (h, operation_worth formed 𝓜 i _ _ _ l is, false_worth 𝓜 ts, true_worth 𝓜 ts) (𝓢.helpers _ _ q)

  -- an operand that serves an edge
  pub served : (isMiddle : Bool) (e x : ℕ) → Serves operands ts isMiddle e x → Simulated e → E (edge_worth 𝓜 v e) (in_place isMiddle x)
  served isMiddle e x (itself h) q = rw (constant_served e isMiddle h) (𝓢.edges _ _ (𝓢.same _))
  served isMiddle e x (direct h) q = direct_served e isMiddle h q
  served isMiddle e x (helped some h _ one) q = rw one.numbered (helper_served e one.at one.block isMiddle h one.inside one.is q)

  -- the operation, whichever of its places is the middle
  in_order : (r : Record) (i x y z : ℕ) (a b c : A) → i < length ts → record_at ts i ≡ in_order_of r.block (middle_of r) x y z
      → E a (in_place (eqb (middle_of r) 1) x) → E b (in_place (eqb (middle_of r) 2) y) → E c (in_place (eqb (middle_of r) 3) z)
      → N (𝓜.gate a b c) (worth3 𝓜 ts (i + 2))
  in_order r i x y z a b c l =
      at_middle
      (λ mid. record_at ts i ≡ in_order_of r.block mid x y z → E a (in_place (eqb mid 1) x) → E b (in_place (eqb mid 2) y) → E c (in_place (eqb mid 3) z) → N (𝓜.gate a b c) (worth3 𝓜 ts (i + 2)))
      (λ is p q s. rw (operation_worth formed 𝓜 i _ _ _ l is, 𝓢.first_second (𝓜.inverse (worth3 𝓜 ts x)) (worth3 𝓜 ts y)) (𝓢.gates _ _ _ _ _ _ p q s))
      (λ is p q s. rw (operation_worth formed 𝓜 i _ _ _ l is) (𝓢.gates _ _ _ _ _ _ p q s))
      (λ is p q s. rw (operation_worth formed 𝓜 i _ _ _ l is, 𝓢.second_third (worth3 𝓜 ts x) (worth3 𝓜 ts y)) (𝓢.gates _ _ _ _ _ _ p q s))
      _ _ _

  pub gate_simulated : (r : Record) (k : ℕ) → Made operands ts r k → Simulated r.e1 → Simulated r.e2 → Simulated r.e3
      → N (𝓜.gate (edge_worth 𝓜 v r.e1) (edge_worth 𝓜 v r.e2) (edge_worth 𝓜 v r.e3)) (worth3 𝓜 ts k)
  gate_simulated r k made q1 q2 q3 =
      rw made.numbered
      (in_order r made.at _ _ _ _ _ _ made.inside made.is (served _ _ _ made.first q1) (served _ _ _ made.second q2) (served _ _ _ made.third q3))

module _ {A : Type 0} (𝓜 : Meaning A) (N E : A → A → Type 0) (𝓢 : Simulates 𝓜 N E) {n m o : ℕ} {rs : List Record} (formed : WellFormed n m o rs) (mode : Mode) where
  -- each node and its operand
  pub nodes_simulated : (k : ℕ) → k ≤ n + m → N (worth 𝓜 rs k) (worth3 𝓜 (translation mode n m rs) (get_or (operands_of mode n m rs) k 0))
  nodes_simulated =
      node_induction _ (n + m)
      (rw (node_zero 𝓜 rs, is.constant, false_worth 𝓜 (translation mode n m rs)) (𝓢.same _))
      (λ j h below. step j h below (dec_lt j n))
    where
      is : Translation mode n m o rs
      is = translated formed mode

      step : (j : ℕ) → j < n + m → ((k : ℕ) → k ≤ j → N (worth 𝓜 rs k) (worth3 𝓜 (translation mode n m rs) (get_or (operands_of mode n m rs) k 0)))
          → Dec (j < n) → N (worth 𝓜 rs (suc j)) (worth3 𝓜 (translation mode n m rs) (get_or (operands_of mode n m rs) (suc j) 0))
      step j h below (yes l) =
          let e : j + 1 ≡ suc j = omega arith in
          rw (input_eq formed 𝓜 j l, (is.stands j h).an_input l, input3_eq (translated_formed formed mode) 𝓜 j l, e) (𝓢.same _)
      step j h below (no l) =
          let low = (formed.gates j (omega arith) h).1 in
          rw (gate_eq formed 𝓜 j (omega arith) h)
          (gate_simulated 𝓜 N E 𝓢 (translated_formed formed mode) (worth 𝓜 rs) (node_zero 𝓜 rs) (operands_of mode n m rs) (record_at rs j) _ ((is.stands j h).a_gate (omega arith))
          (below _ (omega (arith, low.first))) (below _ (omega (arith, low.second))) (below _ (omega (arith, low.third))))

  -- each output's edge and the operand that it names
  pub outputs_simulated : (j : ℕ) → j < o
      → E (edge_worth 𝓜 (worth 𝓜 rs) (record_at rs (n + m + j)).e1) (worth3 𝓜 (translation mode n m rs) (record_at (translation mode n m rs) (n + operations mode n m rs + j)).e1)
  outputs_simulated j h =
      served 𝓜 N E 𝓢 (translated_formed formed mode) (worth 𝓜 rs) (node_zero 𝓜 rs) (operands_of mode n m rs) false _ _ ((translated formed mode).outputs j h).serves
      (nodes_simulated _ (formed.outputs (n + m + j) (omega arith) (omega arith)).1)

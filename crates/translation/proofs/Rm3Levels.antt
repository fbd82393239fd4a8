-- Levels of a translation, told from the majority table: of the operand that serves an edge, and so of each node's operand and of each output's.
use Prim.Native.Nat.{ℕ, zero, suc, ◌+◌, ◌-◌, ◌≤◌, ◌<◌}
use mathlib.Core.Path.{◌≡◌, refl, sym, ap, ◌∙◌}
use mathlib.Core.Bool.{Bool, true, false, not}
use mathlib.Core.List.{List}
use native.Mathlib.Omega.{arith}
use borrow.Author.Tests.{eq-eqb, ne_eqb}
use lib.Dec.{eqb}
use lib.ListN.{length, get_or}
use Rattle.std.specs.Prelude.{if◌then◌else◌}
use Rattle.majority.specs.Edge.{node_of, is_inverted}
use Rattle.majority.specs.Table.{record_at, WellFormed}
use Rattle.majority.specs.Level.{above, levels}
use Rattle.translation.specs.Rm3.{operation, level3, output_level3, WellFormed3}
use Rattle.translation.specs.Translate.{class_of, in_order_of, operands_of, translation, operations}
use Rattle.translation.specs.Count3.{helper_count}
use Rattle.translation.specs.Level3.{operand_level, edge_level, gate_level}
use Rattle.majority.specs.declared.Record.{Record}
use Rattle.translation.specs.declared.Class.TheVariants.{Constant, Plain, Inverted}
use Rattle.translation.specs.declared.Mode.{Mode}
use Rattle.majority.proofs.Levels.{above_first_second, above_second_third}
use Rattle.translation.proofs.Rm3Worth.{false_worth, true_worth, input3_eq, operation_worth}
use Rattle.translation.proofs.Rm3Place.{Serves, itself, direct, helped}
use Rattle.translation.proofs.Rm3Gate.{Made, middle_of}
use Rattle.translation.proofs.Rm3Formed.{translated, translated_formed}

-- an edge whose inversion its place makes, and one that gets a helper
no_helper : (t : Bool) (e : ℕ) → is_inverted e ≡ t → helper_count t (class_of e) ≡ 0
unfolding class_of
no_helper t e h = go (eqb (node_of e) 0) t h
  where
    go : (c t : Bool) → is_inverted e ≡ t → helper_count t (if c then Constant else if is_inverted e then Inverted else Plain) ≡ 0
    go true t h = refl
    go false true h = rw h
    go false false h = rw h

one_helper : (t : Bool) (e : ℕ) → (node_of e ≡ 0 → ⊥) → is_inverted e ≡ not t → helper_count t (class_of e) ≡ 1
unfolding class_of
one_helper true e some h = rw (ne_eqb (node_of e) 0 some, h)
one_helper false e some h = rw (ne_eqb (node_of e) 0 some, h)

module _ {n p o : ℕ} {ts : List Record} (formed : WellFormed3 n p o ts) (operands : List ℕ) (first : get_or operands 0 0 ≡ 0) where
  abbrev f : ℕ → ℕ
  f = level3 ts

  -- the level of the operand of node k
  abbrev v : ℕ → ℕ
  v k = f (get_or operands k 0)

  constant_level : (x : ℕ) → x ≤ 1 → f x ≡ 0
  constant_level zero h = false_worth levels ts
  constant_level (suc zero) h = true_worth levels ts
  constant_level (suc (suc x)) h = absurd (omega arith)

  helper_level : (x : ℕ) → above (f 0) x (f 1) ≡ x + 1
  unfolding above
  helper_level x = rw (constant_level 0 (omega arith), constant_level 1 (omega arith)) (omega arith)

  serves_level : (t : Bool) (e x : ℕ) → Serves operands ts t e x → f x ≡ edge_level v t e
  unfolding class_of
  serves_level t e x (itself h) = constant_level _ (opposite t) ∙ sym (rw (eq-eqb (node_of e) 0 h, h, first) (omega (arith, constant_level 0 (omega arith))))
    where
      opposite : (u : Bool) → (if u then 1 - e else e) ≤ 1
      opposite true = omega arith
      opposite false = omega arith
  serves_level t e x (direct h) = omega (arith, no_helper t e h)
  serves_level t e x (helped some h _ one) =
      ap f one.numbered ∙ operation_worth formed levels one.at 0 (get_or operands (node_of e) 0) 1 one.inside one.is ∙ helper_level (v (node_of e)) ∙ omega (arith, one_helper t e some h)

  -- whichever place is the middle
  in_order_level : (b mid j x y z : ℕ) → j < length ts → record_at ts j ≡ in_order_of b mid x y z → f (j + 2) ≡ above (f x) (f y) (f z)
  in_order_level b mid j x y z h = go (eqb mid 1) (eqb mid 2)
    where
      go : (t u : Bool) → record_at ts j ≡ (if t then operation b y x z else if u then operation b x y z else operation b x z y) → f (j + 2) ≡ above (f x) (f y) (f z)
      go true u is = operation_worth formed levels j y x z h is ∙ above_first_second (f x) (f y) (f z)
      go false true is = operation_worth formed levels j x y z h is
      go false false is = operation_worth formed levels j x z y h is ∙ above_second_third (f x) (f y) (f z)

  made_level : (r : Record) (x : ℕ) → Made operands ts r x → f x ≡ gate_level v r
  unfolding gate_level
  made_level r x made =
      rw (made.numbered, ← serves_level _ _ _ made.first, ← serves_level _ _ _ made.second, ← serves_level _ _ _ made.third)
      (in_order_level r.block (middle_of r) made.at _ _ _ made.inside made.is)

module _ {n m o : ℕ} {rs : List Record} (formed : WellFormed n m o rs) (mode : Mode) where
  -- the operand of the constant and of an input stands at 0, that of a gate is its operation
  pub early_level : (k : ℕ) → k ≤ n → operand_level mode n m rs k ≡ 0
  unfolding operand_level
  early_level zero h = rw (translated formed mode).constant (false_worth levels (translation mode n m rs))
  early_level (suc j) h = rw (((translated formed mode).stands j (omega arith)).an_input h) (input3_eq (translated_formed formed mode) levels j h)

  pub gate_level_lem : (j : ℕ) → n ≤ j → j < n + m → operand_level mode n m rs (suc j) ≡ gate_level (operand_level mode n m rs) (record_at rs j)
  unfolding operand_level
  gate_level_lem j p q = made_level (translated_formed formed mode) (operands_of mode n m rs) (translated formed mode).constant (record_at rs j) _ (((translated formed mode).stands j q).a_gate p)

  pub output_level_lem : (j : ℕ) → j < o → output_level3 n (operations mode n m rs) (translation mode n m rs) j ≡ edge_level (operand_level mode n m rs) false (record_at rs (n + m + j)).e1
  unfolding operand_level output_level3
  output_level_lem j h = serves_level (translated_formed formed mode) (operands_of mode n m rs) (translated formed mode).constant false _ _ ((translated formed mode).outputs j h).serves

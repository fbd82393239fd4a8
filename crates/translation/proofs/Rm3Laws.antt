-- What the translation keeps: each output's value, and depth but for a factor of two and one.
use Prim.Native.Nat.{ℕ, ◌+◌, ◌*◌, ◌≤◌, ◌<◌}
use mathlib.Core.Path.{◌≡◌, refl, sym, ap, ◌∙◌}
use mathlib.Core.Bool.{Bool, true, false, not}
use mathlib.Core.List.{List}
use native.Mathlib.Omega.{arith}
use Rattle.majority.specs.Table.{WellFormed}
use Rattle.majority.specs.Value.{majority_of, values, output_value}
use Rattle.majority.specs.Level.{levels, level, output_level, depth}
use Rattle.translation.specs.Rm3.{output_value3, output_level3, depth3}
use Rattle.translation.specs.Translate.{translation, operations}
use Rattle.translation.specs.Level3.{operand_level}
use Rattle.majority.specs.declared.Record.{Record}
use Rattle.translation.specs.declared.Mode.{Mode}
use Rattle.majority.proofs.Nodes.{equals}
use Rattle.majority.proofs.Levels.{above_each, above_least, above_first_second, above_second_third, edge_level_lem, highest_at_most, within_depth}
use Rattle.majority.proofs.MajorityLaws.{majority_opposite, majority_first_second, majority_first_third}
use Rattle.majority.proofs.Meanings.{dual_values, dual_levels}
use Rattle.translation.proofs.Rm3Simulation.{Simulates, nodes_simulated, outputs_simulated}

majority_second_third : (a b c : Bool) → majority_of a c b ≡ majority_of a b c
majority_second_third a b c = majority_first_second c a b ∙ majority_first_third b a c ∙ majority_first_second a b c

-- values are the same; of a helper's operands the outer two are opposite
simulates_values : (a : ℕ) → Simulates (values a) (λ x y. x ≡ y) (λ x y. x ≡ y)
simulates_values a = record {
  twice = (dual_values a).twice;
  first_second = majority_first_second;
  second_third = majority_second_third;
  same = λ x. refl;
  edges = λ x y q. q;
  inverses = λ x y q. ap not q;
  helpers = λ x y q. ap not q ∙ sym (majority_opposite false (not y)) ∙ majority_second_third false (not y) true;
  gates = (equals (values a)).gates;
}

-- a node's operand stands at most twice as high, and an edge's helper one higher still
simulates_levels : Simulates levels (λ x y. y ≤ 2 * x) (λ x y. y ≤ 2 * x + 1)
simulates_levels = record {
  twice = dual_levels.twice;
  first_second = above_first_second;
  second_third = above_second_third;
  same = λ x. omega arith;
  edges = λ x y q. omega arith;
  inverses = λ x y q. q;
  helpers = λ x y q. above_least 0 y 0 _ (omega arith) (omega arith) (omega arith);
  gates = λ x y z x' y' z' p q s. let w = above_each x y z in above_least x' y' z' _ (omega (arith, w.0)) (omega (arith, w.1)) (omega (arith, w.2));
}

module _ {n m o : ℕ} {rs : List Record} (formed : WellFormed n m o rs) (mode : Mode) where
  -- each output keeps its value under each assignment
  pub translated_outputs : (a j : ℕ) → j < o → output_value3 a n (operations mode n m rs) (translation mode n m rs) j ≡ output_value a n m rs j
  unfolding output_value output_value3
  translated_outputs a j h = sym (outputs_simulated (values a) _ _ (simulates_values a) formed mode j h)

  -- a node's operand stands at most twice as high as the node
  pub operand_level_lem : (k : ℕ) → k ≤ n + m → operand_level mode n m rs k ≤ 2 * level rs k
  unfolding operand_level
  operand_level_lem k h = nodes_simulated levels _ _ simulates_levels formed mode k h

  -- and an output's, with its helper, one higher still
  translated_level : (j : ℕ) → j < o → output_level3 n (operations mode n m rs) (translation mode n m rs) j ≤ 2 * output_level n m rs j + 1
  unfolding output_level output_level3
  translated_level j h = rw (edge_level_lem (level rs) _) at (outputs_simulated levels _ _ simulates_levels formed mode j h)

  -- depth at most doubles, and one helper may stand above
  pub translated_depth : depth3 n (operations mode n m rs) o (translation mode n m rs) ≤ 2 * depth n m o rs + 1
  unfolding depth3
  translated_depth = highest_at_most _ o _ (λ j h. omega (arith, translated_level j h, within_depth n m o rs j h))

-- Depth is the same in both modes: the operands of nodes, and those that outputs name, stand at the same levels.
use Prim.Native.Nat.{ℕ, suc, ◌+◌, ◌≤◌, ◌<◌}
use mathlib.Core.Path.{◌≡◌, sym, ◌∙◌}
use mathlib.Core.List.{List}
use native.Mathlib.Omega.{arith}
use native.Mathlib.Decide.{dec_lt}
use Rattle.majority.specs.Edge.{node_of}
use Rattle.majority.specs.Table.{record_at, WellFormed}
use Rattle.translation.specs.Rm3.{output_level3, depth3}
use Rattle.translation.specs.Translate.{translation, operations}
use Rattle.translation.specs.Level3.{operand_level, gate_level}
use Rattle.majority.specs.declared.Record.{Record}
use Rattle.translation.specs.declared.Mode.{Mode}
use Rattle.majority.proofs.Levels.{highest_same}
use Rattle.majority.proofs.Nodes.{node_induction}
use Rattle.translation.proofs.Rm3Levels.{early_level, gate_level_lem, output_level_lem}

module _ {n m o : ℕ} {rs : List Record} (formed : WellFormed n m o rs) (mode mode' : Mode) where
  abbrev Same : ℕ → Type 0
  Same k = operand_level mode n m rs k ≡ operand_level mode' n m rs k

  same_gate : (r : Record) → Same (node_of r.e1) → Same (node_of r.e2) → Same (node_of r.e3) → gate_level (operand_level mode n m rs) r ≡ gate_level (operand_level mode' n m rs) r
  unfolding gate_level
  same_gate r p q s = rw (p, q, s)

  same_level : (k : ℕ) → k ≤ n + m → Same k
  same_level = node_induction Same (n + m) (early_level formed mode 0 (omega arith) ∙ sym (early_level formed mode' 0 (omega arith))) (λ j h below. step j h below (dec_lt j n))
    where
      step : (j : ℕ) → j < n + m → ((k : ℕ) → k ≤ j → Same k) → Dec (j < n) → Same (suc j)
      step j h below (yes l) = early_level formed mode (suc j) l ∙ sym (early_level formed mode' (suc j) l)
      step j h below (no l) =
          let low = (formed.gates j (omega arith) h).1 in
          gate_level_lem formed mode j (omega arith) h
          ∙ same_gate (record_at rs j) (below _ (omega (arith, low.first))) (below _ (omega (arith, low.second))) (below _ (omega (arith, low.third)))
          ∙ sym (gate_level_lem formed mode' j (omega arith) h)

  same_output : (j : ℕ) → j < o → output_level3 n (operations mode n m rs) (translation mode n m rs) j ≡ output_level3 n (operations mode' n m rs) (translation mode' n m rs) j
  same_output j h =
      output_level_lem formed mode j h
      ∙ rw (same_level (node_of (record_at rs (n + m + j)).e1) (formed.outputs (n + m + j) (omega arith) (omega arith)).1) (sym (output_level_lem formed mode' j h))

  pub same_depth : depth3 n (operations mode n m rs) o (translation mode n m rs) ≡ depth3 n (operations mode' n m rs) o (translation mode' n m rs)
  unfolding depth3
  same_depth = highest_same _ _ o same_output

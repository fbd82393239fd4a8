-- A pass over a table from record to record: what is left decides, and the table so far begins the whole.
use Prim.Native.Nat.{ℕ, suc, ◌+◌, ◌≤◌, ◌<◌}
use mathlib.Core.Path.{◌≡◌, refl, ap, ◌∙◌}
use mathlib.Core.Bool.{false}
use mathlib.Core.List.{List, [], ◌∷◌, ◌++◌}
use native.Mathlib.Omega.{arith}
use lib.ListN.{length, take, drop}
use Rattle.majority.specs.Table.{blank, output, record_at, WellFormed}
use Rattle.translation.specs.Translate.{Draft, start, after, Nodes3, place, outputs3, parts3, operations}
use Rattle.majority.specs.declared.Record.{Record}
use Rattle.translation.specs.declared.Mode.{Mode}
use Rattle.translation.proofs.Begins.{Begins, begins_then, length_more}
use Rattle.translation.proofs.Rm3Nodes.{named, nodes_begin}
use Rattle.translation.proofs.Rm3Outputs.{outputs_begin}
use Rattle.translation.proofs.Rm3Formed.{translated}
use Rattle.translation.proofs.Rm3ByRecord.{turn, nodes_end, output_turn, outputs_end}
use Rattle.rm3.specs.inner.Turned.{Turned, Named}

pub turned_start : (mode : Mode) (n m : ℕ) (rs : List Record) → Turned mode n m rs 0 (0 ∷ []) start
turned_start mode n m rs = record { count = refl; left = refl }

module _ (mode : Mode) {n m o : ℕ} {rs : List Record} (formed : WellFormed n m o rs) where
  pub turned_more : {i : ℕ} {operands : List ℕ} {d : Draft} (next : Draft) → i < n + m → after mode operands d (record_at rs i) ≡ next
      → Turned mode n m rs i operands d → Turned mode n m rs (suc i) (named operands next) next
  turned_more {i} {operands} {d} next h is so = record {
    count = omega (arith, so.count, length_more operands (length next.table + 1));
    left = so.left ∙ turn formed mode operands d i h next is;
  }

  pub turned_end : {operands : List ℕ} {d : Draft} → Turned mode n m rs (n + m) operands d → Named mode n m rs operands 0 d []
  unfolding parts3
  turned_end {operands} {d} so =
      let none : n + m + 0 ≡ n + m = omega arith in
      record {
        count = refl;
        left = rw none (ap (λ (e : Nodes3). outputs3 mode e.operands e.draft [] (drop (n + m) rs)) (so.left ∙ nodes_end formed mode operands d (n + m) refl));
      }

  -- the table so far begins the final one
  pub turned_table : {i : ℕ} {operands : List ℕ} {d : Draft} → Turned mode n m rs i operands d → Begins blank d.table (parts3 mode n m rs).draft.table
  unfolding parts3
  turned_table {i} {operands} {d} so =
      rw so.left
      (begins_then (nodes_begin mode operands d (drop i (take (n + m) rs))).1 (outputs_begin mode _ _ [] (drop (n + m) rs)))

  pub named_more : {operands : List ℕ} {j : ℕ} {d : Draft} {os : List Record} → j < o → Named mode n m rs operands j d os
      → let p = place mode 0 false operands (record_at rs (n + m + j)).e1 d in Named mode n m rs operands (suc j) p.draft (os ++ output p.operand ∷ [])
  named_more {operands} {j} {d} {os} h so =
      let p = place mode 0 false operands (record_at rs (n + m + j)).e1 d in
      let next : n + m + suc j ≡ suc (n + m + j) = omega arith in
      record {
        count = omega (arith, so.count, length_more os (output p.operand));
        left = rw next (so.left ∙ output_turn formed mode operands d os (n + m + j) (omega arith));
      }

  pub named_table : {operands : List ℕ} {j : ℕ} {d : Draft} {os : List Record} → Named mode n m rs operands j d os → Begins blank d.table (parts3 mode n m rs).draft.table
  named_table {operands} {j} {d} {os} so = rw so.left (outputs_begin mode operands d os (drop (n + m + j) rs))

  pub named_end : {operands : List ℕ} {d : Draft} {os : List Record} → Named mode n m rs operands o d os → parts3 mode n m rs ≡ record { draft = d; outputs = os }
  named_end {operands} {d} {os} so = so.left ∙ outputs_end formed mode operands d os (n + m + o) refl

  -- a table that begins the inputs and operations is no longer than they are
  pub begins_size : {ts : List Record} → Begins blank ts (parts3 mode n m rs).draft.table → length ts ≤ n + operations mode n m rs
  begins_size b = omega (arith, b.longer, (translated formed mode).size)

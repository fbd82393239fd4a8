-- How many operations a translation has: at most as many as its records add, which is three a gate and one an output at most; made anew they are as many, and made once no more.
use Prim.Native.Nat.{ℕ, zero, suc, ◌+◌, ◌-◌, ◌*◌, ◌≤◌, ◌<◌}
use mathlib.Core.Path.{◌≡◌, refl, sym}
use mathlib.Core.Bool.{Bool, true, false}
use mathlib.Core.List.{List, [], ◌∷◌}
use native.Mathlib.Omega.{arith}
use native.Mathlib.Decide.{dec_lt}
use lib.ListN.{length, take, drop, length-drop}
use lib.Seq.{get_or-drop}
use Rattle.std.specs.Prelude.{if◌then◌else◌}
use Rattle.majority.specs.Table.{blank, record_at, WellFormed}
use Rattle.translation.specs.Translate.{class_of, needs_helper, middle, start, all_nodes3, parts3, operations}
use Rattle.translation.specs.Count3.{helper_count, helpers_of, gate_operations, output_operations, record_operations, total}
use Rattle.majority.specs.declared.Record.{Record}
use Rattle.translation.specs.declared.Class.{Class}
use Rattle.translation.specs.declared.Class.TheVariants.{Constant, Plain, Inverted}
use Rattle.translation.specs.declared.Mode.{Mode}
use Rattle.translation.specs.declared.Mode.TheVariants.{Anew}
use Rattle.majority.proofs.Formed.{kind_two}
use Rattle.translation.proofs.Totals.{total_parts, total_next, total_agrees, total_at_most}
use Rattle.translation.proofs.Rm3Count.{Adds, node_records, nodes_add, outputs_add}

helper_most : (isMiddle : Bool) (k : Class) → helper_count isMiddle k ≤ 1
helper_most isMiddle k = go (needs_helper isMiddle k)
  where
    go : (t : Bool) → (if t then 1 else 0) ≤ 1
    go true = omega arith
    go false = omega arith

-- a gate needs two helpers at most
helpers_most : (a b c : Class) → helpers_of a b c ≤ 2
unfolding helpers_of middle
helpers_most Inverted b c = omega (arith, helper_most false b, helper_most false c)
helpers_most Constant Inverted c = omega (arith, helper_most false c)
helpers_most Plain Inverted c = omega (arith, helper_most false c)
helpers_most Constant Constant Constant = omega arith
helpers_most Constant Constant Plain = omega arith
helpers_most Constant Constant Inverted = omega arith
helpers_most Constant Plain Constant = omega arith
helpers_most Constant Plain Plain = omega arith
helpers_most Constant Plain Inverted = omega arith
helpers_most Plain Constant Constant = omega arith
helpers_most Plain Constant Plain = omega arith
helpers_most Plain Constant Inverted = omega arith
helpers_most Plain Plain Constant = omega arith
helpers_most Plain Plain Plain = omega arith
helpers_most Plain Plain Inverted = omega arith

pub gate_most : (r : Record) → gate_operations r ≤ 3
unfolding gate_operations
gate_most r = omega (arith, helpers_most (class_of r.e1) (class_of r.e2) (class_of r.e3))

pub output_most : (r : Record) → output_operations r ≤ 1
unfolding output_operations
output_most r = helper_most false (class_of r.e1)

module _ {n m o : ℕ} {rs : List Record} (formed : WellFormed n m o rs) where
  -- what records of each kind add
  input_adds : (j : ℕ) → j < n → (node_records (record_at rs j) ≡ 1) × (record_operations (record_at rs j) ≡ 0)
  unfolding record_operations
  input_adds j h = rw (formed.inputs j h) (refl, refl)

  gate_adds : (j : ℕ) → n ≤ j → j < n + m → (node_records (record_at rs j) ≡ gate_operations (record_at rs j)) × (record_operations (record_at rs j) ≡ gate_operations (record_at rs j))
  unfolding record_operations
  gate_adds j l h = let kind = (formed.gates j l h).0 in (kind_two (record_at rs j).kind _ _ _ _ kind, kind_two (record_at rs j).kind _ _ _ _ kind)

  output_adds : (j : ℕ) → n + m ≤ j → j < n + m + o → record_operations (record_at rs j) ≡ output_operations (record_at rs j)
  unfolding record_operations output_operations
  output_adds j l h = rw (formed.outputs j l h).0

  -- of the first j records, the inputs are records of the RM3 table but no operations
  pub inputs_apart : (j : ℕ) → j ≤ n + m → total node_records (take j rs) ≡ j - (j - n) + total record_operations (take j rs)
  unfolding total
  inputs_apart zero h = omega arith
  inputs_apart (suc j) h =
      let inside : j < length rs = omega (arith, formed.whole) in
      let so = inputs_apart j (omega arith) in
      go (dec_lt j n) so (total_next node_records rs j inside) (total_next record_operations rs j inside)
    where
      go : Dec (j < n) → total node_records (take j rs) ≡ j - (j - n) + total record_operations (take j rs)
          → total node_records (take (suc j) rs) ≡ total node_records (take j rs) + node_records (record_at rs j)
          → total record_operations (take (suc j) rs) ≡ total record_operations (take j rs) + record_operations (record_at rs j)
          → total node_records (take (suc j) rs) ≡ suc j - (suc j - n) + total record_operations (take (suc j) rs)
      go (yes l) so p q = let w = input_adds j l in omega (arith, w.0, w.1)
      go (no l) so p q = let w = gate_adds j (omega arith) (omega arith) in omega (arith, w.0, w.1)

  outputs_added : total output_operations (drop (n + m) rs) ≡ total record_operations (drop (n + m) rs)
  outputs_added =
      total_agrees output_operations record_operations (drop (n + m) rs)
      (λ j h. rw (get_or-drop (n + m) rs j blank) (sym (output_adds (n + m + j) (omega arith) (omega (arith, length-drop (n + m) rs, formed.whole)))))

  -- the operations are those that the records add
  operations_add : (mode : Mode) → Adds mode 0 (operations mode n m rs) (total record_operations rs)
  unfolding operations parts3
  operations_add mode =
      let done = all_nodes3 mode n m rs in
      let nodes = nodes_add mode (0 ∷ []) start (take (n + m) rs) in
      let outputs = outputs_add mode done.operands done.draft [] (drop (n + m) rs) in
      let apart = inputs_apart (n + m) (omega arith) in
      let parts = total_parts record_operations (n + m) rs in
      record {
        most = omega (arith, nodes.most, outputs.most, apart, outputs_added, parts);
        anew = λ a. omega (arith, nodes.anew a, outputs.anew a, apart, outputs_added, parts);
      }

  -- all of them where helpers are made anew
  pub anew_counted : operations Anew n m rs ≡ total record_operations rs
  anew_counted = omega (arith, (operations_add Anew).anew refl)

  -- in no mode are there more
  pub never_more : (mode : Mode) → operations mode n m rs ≤ operations Anew n m rs
  never_more mode = omega (arith, (operations_add mode).most, anew_counted)

  pub translated_size : (mode : Mode) → operations mode n m rs ≤ 3 * m + o
  translated_size mode =
      let most = total_at_most record_operations rs bound (λ j h. keeps j (omega (arith, formed.whole)) (dec_lt j n) (dec_lt j (n + m))) in
      omega (arith, (operations_add mode).most, most, formed.whole)
    where
      bound : ℕ → ℕ
      bound j = 3 * (j - n - (j - (n + m))) + (j - (n + m))

      keeps : (j : ℕ) → j < n + m + o → Dec (j < n) → Dec (j < n + m) → bound j + record_operations (record_at rs j) ≤ bound (suc j)
      keeps j h (yes p) _ = omega (arith, (input_adds j p).1)
      keeps j h (no p) (yes q) = omega (arith, (gate_adds j (omega arith) q).1, gate_most (record_at rs j))
      keeps j h (no p) (no q) = omega (arith, output_adds j (omega arith) h, output_most (record_at rs j))

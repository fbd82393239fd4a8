-- The translation of outputs: helpers at the end of the operations, and a record that names an operand for each output.
use Prim.Native.Nat.{ℕ, suc, ◌+◌, ◌≤◌, ◌<◌}
use mathlib.Core.Path.{◌≡◌, refl}
use mathlib.Core.Bool.{false}
use mathlib.Core.List.{List, [], ◌∷◌, ◌++◌}
use native.Mathlib.Omega.{arith}
use lib.ListN.{length}
use Rattle.majority.specs.Edge.{node_of}
use Rattle.majority.specs.Table.{blank, output, record_at}
use Rattle.translation.specs.Translate.{Draft, place, outputs3}
use Rattle.majority.specs.declared.Record.{Record}
use Rattle.translation.specs.declared.Mode.{Mode}
use Rattle.translation.proofs.Begins.{Begins, All, begins_same, begins_then, all_more, length_more}
use Rattle.translation.proofs.Rm3Place.{Serves, Fits, Blocked, Known, Placement, place_begins, place_blocks, placement}

-- an output's record names an operand below b that serves the edge e
pub record Names (operands : List ℕ) (ts : List Record) (b e : ℕ) (r : Record) : Type 0 where
  pub is : r ≡ output r.e1
  pub low : r.e1 < b
  pub serves : Serves operands ts false e r.e1

-- the first j of the outputs rs are translated, where the operations become `table`, the first part of `whole`
pub record Written (n : ℕ) (operands : List ℕ) (table whole rs : List Record) (j : ℕ) (d : Draft) (os : List Record) : Type 0 where
  pub count : length os ≡ j
  pub known : Known operands operands d
  pub late : n ≤ length d.table
  pub fits : All blank (Fits n) d.table
  pub outputs : All blank (λ i r. Names operands whole (length table + 2) (record_at rs i).e1 r) os

module _ (mode : Mode) where
  -- operations are only put at the end
  pub outputs_begin : (operands : List ℕ) (d : Draft) (os rs : List Record) → Begins blank d.table (outputs3 mode operands d os rs).draft.table
  outputs_begin operands d os [] = begins_same d.table
  outputs_begin operands d os (r ∷ rs) = begins_then (place_begins mode _ operands r.e1 d false) (outputs_begin operands (place mode 0 false operands r.e1 d).draft _ rs)

  -- and have block 0
  pub outputs_blocks : (k : ℕ) (operands : List ℕ) (d : Draft) (os rs : List Record) → All blank (Blocked k 0) d.table → All blank (Blocked k 0) (outputs3 mode operands d os rs).draft.table
  outputs_blocks k operands d os [] all = all
  outputs_blocks k operands d os (r ∷ rs) all = outputs_blocks k operands (place mode 0 false operands r.e1 d).draft _ rs (place_blocks mode _ operands r.e1 d k false all)

  -- induction over the outputs translated so far; `table` is what the operations become
  outputs_induction : (I : ℕ → Draft → List Record → Type 0) (operands : List ℕ) (table rs : List Record)
      → ((j : ℕ) (d : Draft) (os : List Record) → j < length rs
      → let p = place mode 0 false operands (record_at rs j).e1 d in Begins blank p.draft.table table → I j d os → I (suc j) p.draft (os ++ output p.operand ∷ []))
      → (d : Draft) (os : List Record) → let done = outputs3 mode operands d os rs in Begins blank done.draft.table table
      → I 0 d os → I (length rs) done.draft done.outputs
  outputs_induction I operands table [] step d os b so = so
  outputs_induction I operands table (r ∷ rs) step d os b so =
      outputs_induction (λ j. I (suc j)) operands table rs (λ j us qs h. step (suc j) us qs (omega arith)) _ _ b
      (step 0 d os (omega arith) (begins_then (outputs_begin operands _ _ rs) b) so)

  pub outputs_written : {n : ℕ} {operands : List ℕ} {d : Draft} (whole rs : List Record)
      → Known operands operands d → n ≤ length d.table → All blank (Fits n) d.table → ((j : ℕ) → j < length rs → node_of (record_at rs j).e1 < length operands)
      → let done = outputs3 mode operands d [] rs in Begins blank done.draft.table whole → Written n operands done.draft.table whole rs (length rs) done.draft done.outputs
  outputs_written {n} {operands} {d} whole rs known late fits named b =
      outputs_induction (Written n operands table whole rs) operands table rs step d [] (begins_same table)
      (record { count = refl; known = known; late = late; fits = fits; outputs = record { each = λ i h. absurd (omega arith) } })
    where
      table : List Record
      table = (outputs3 mode operands d [] rs).draft.table

      step : (j : ℕ) (d : Draft) (os : List Record) → j < length rs
          → let p = place mode 0 false operands (record_at rs j).e1 d in
          Begins blank p.draft.table table → Written n operands table whole rs j d os → Written n operands table whole rs (suc j) p.draft (os ++ output p.operand ∷ [])
      step j d os h c so =
          let e = (record_at rs j).e1 in
          let p = place mode 0 false operands e d in
          let placed : Placement n operands operands false e d p = placement mode _ false e so.known so.late (named j h) in
          let this : Names operands whole (length table + 2) e (output p.operand) =
          record { is = refl; low = omega (arith, placed.low, c.longer); serves = placed.serves whole (begins_then c b) }
          in
          record {
            count = omega (arith, length_more os (output p.operand), so.count);
            known = placed.known;
            late = omega (arith, so.late, placed.begins.longer);
            fits = placed.fits so.fits;
            outputs = all_more (output p.operand) so.outputs (rw so.count this);
          }

-- A gate's translation: helpers for its edges, in order, then its operation, whose operands serve the edges.
use Prim.Native.Nat.{ℕ, suc, ◌+◌, ◌≤◌, ◌<◌}
use mathlib.Core.Path.{◌≡◌, refl}
use mathlib.Core.Bool.{Bool, true, false}
use mathlib.Core.List.{List, [], ◌∷◌}
use native.Mathlib.Omega.{arith}
use lib.Dec.{eqb}
use lib.ListN.{length}
use Rattle.std.specs.Prelude.{if◌then◌else◌}
use Rattle.majority.specs.Table.{blank, record_at, Below}
use Rattle.translation.specs.Rm3.{operation}
use Rattle.translation.specs.Translate.{Draft, Placed, class_of, middle, place, in_order_of, gate3}
use Rattle.majority.specs.declared.Record.{Record}
use Rattle.translation.specs.declared.Mode.{Mode}
use Rattle.translation.proofs.Begins.{Begins, All, begins_then, begins_append, begins_last, all_more, length_more}
use Rattle.translation.proofs.Rm3Worth.{Lower}
use Rattle.translation.proofs.Rm3Place.{Helper, helper_more, Serves, Fits, operation_fits, Blocked, blocked_none, Known, Placement, place_begins, place_blocks, placement}

-- the middle place of a gate
abbrev pub middle_of : Record → ℕ
middle_of r = middle (class_of r.e1) (class_of r.e2) (class_of r.e3)

-- in the table ts, operand x is the operation of the gate r
pub record Made (operands : List ℕ) (ts : List Record) (r : Record) (x : ℕ) : Type 0 where
  pub at : ℕ
  pub numbered : x ≡ at + 2
  pub inside : at < length ts
  pub operand1 : ℕ
  pub operand2 : ℕ
  pub operand3 : ℕ
  pub first : Serves operands ts (eqb (middle_of r) 1) r.e1 operand1
  pub second : Serves operands ts (eqb (middle_of r) 2) r.e2 operand2
  pub third : Serves operands ts (eqb (middle_of r) 3) r.e3 operand3
  pub is : record_at ts at ≡ in_order_of r.block (middle_of r) operand1 operand2 operand3

-- whichever place is the middle, an operation reads the three operands
in_order_lower : (block mid b x y z : ℕ) → x < b → y < b → z < b → ((in_order_of block mid x y z).kind ≡ 4) × Lower b (in_order_of block mid x y z)
in_order_lower block mid b x y z p q s = go (eqb mid 1) (eqb mid 2)
  where
    go : (t u : Bool) → ((if t then operation block y x z else if u then operation block x y z else operation block x z y).kind ≡ 4)
        × Lower b (if t then operation block y x z else if u then operation block x y z else operation block x z y)
    go true u = (refl, record { first = q; second = p; third = s })
    go false true = (refl, record { first = p; second = q; third = s })
    go false false = (refl, record { first = p; second = s; third = q })

-- and has its block
in_order_block : (block mid x y z : ℕ) → (in_order_of block mid x y z).block ≡ block
in_order_block block mid x y z = go (eqb mid 1) (eqb mid 2)
  where
    go : (t u : Bool) → (if t then operation block y x z else if u then operation block x y z else operation block x z y).block ≡ block
    go true u = refl
    go false true = refl
    go false false = refl

module _ (mode : Mode) (operands : List ℕ) (r : Record) (d : Draft) where
  abbrev p : Placed
  p = place mode r.block (eqb (middle_of r) 1) operands r.e1 d

  abbrev q : Placed
  q = place mode r.block (eqb (middle_of r) 2) operands r.e2 p.draft

  abbrev s : Placed
  s = place mode r.block (eqb (middle_of r) 3) operands r.e3 q.draft

  abbrev made : Record
  made = in_order_of r.block (middle_of r) p.operand q.operand s.operand

  helpers_begin : Begins blank d.table s.draft.table
  helpers_begin =
      begins_then (begins_then (place_begins mode _ operands r.e1 d _) (place_begins mode _ operands r.e2 p.draft _))
      (place_begins mode _ operands r.e3 q.draft _)

  pub gate_begins : Begins blank d.table (gate3 mode operands r d).table
  unfolding gate3
  gate_begins = begins_then helpers_begin (begins_append s.draft.table (made ∷ []))

  pub gate_longer : length d.table < length (gate3 mode operands r d).table
  unfolding gate3
  gate_longer = omega (arith, helpers_begin.longer, length_more s.draft.table made)

  -- what is put there has the gate's block
  pub gate_blocks : All blank (Blocked (length d.table) r.block) (gate3 mode operands r d).table
  unfolding gate3
  gate_blocks =
      all_more made
      (place_blocks mode _ operands r.e3 q.draft (length d.table) _
      (place_blocks mode _ operands r.e2 p.draft (length d.table) _
      (place_blocks mode _ operands r.e1 d (length d.table) _ (blocked_none d.table r.block))))
      (λ l. in_order_block r.block (middle_of r) _ _ _)

module _ {n : ℕ} {final operands : List ℕ} {d : Draft} (mode : Mode) (r : Record) (known : Known final operands d) (late : n ≤ length d.table) (reads : Below (length operands) r) where
  abbrev p1 : Placed
  p1 = p mode operands r d

  abbrev p2 : Placed
  p2 = q mode operands r d

  abbrev p3 : Placed
  p3 = s mode operands r d

  abbrev last : Record
  last = made mode operands r d

  placed1 : Placement n final operands (eqb (middle_of r) 1) r.e1 d p1
  placed1 = placement mode _ _ r.e1 known late reads.first

  placed2 : Placement n final operands (eqb (middle_of r) 2) r.e2 p1.draft p2
  placed2 = placement mode _ _ r.e2 placed1.known (omega (arith, placed1.begins.longer)) reads.second

  both : Begins blank d.table p2.draft.table
  both = begins_then placed1.begins placed2.begins

  placed3 : Placement n final operands (eqb (middle_of r) 3) r.e3 p2.draft p3
  placed3 = placement mode _ _ r.e3 placed2.known (omega (arith, both.longer)) reads.third

  whole_length : length (gate3 mode operands r d).table ≡ suc (length p3.draft.table)
  unfolding gate3
  whole_length = length_more p3.draft.table last

  reads_lower : (last.kind ≡ 4) × Lower (length p3.draft.table + 2) last
  reads_lower =
      in_order_lower r.block (middle_of r) _ _ _ _ (omega (arith, placed1.low, placed2.begins.longer, placed3.begins.longer)) (omega (arith, placed2.low, placed3.begins.longer)) placed3.low

  pub gate_fits_lem : All blank (Fits n) d.table → All blank (Fits n) (gate3 mode operands r d).table
  unfolding gate3
  gate_fits_lem all =
      all_more last (placed3.fits (placed2.fits (placed1.fits all)))
      (operation_fits (omega (arith, both.longer, placed3.begins.longer)) reads_lower.0 reads_lower.1)

  -- each helper so far still stands in the table
  pub gate_helpers : let next = gate3 mode operands r d in (k : ℕ) → (next.helpers k ≡ 0 → ⊥) → Helper final next.table k (next.helpers k)
  unfolding gate3
  gate_helpers k h = helper_more (begins_append p3.draft.table (last ∷ [])) (placed3.known.helpers k h)

  pub gate_made : (whole : List Record) → Begins blank (gate3 mode operands r d).table whole → Made final whole r (length (gate3 mode operands r d).table + 1)
  unfolding gate3
  gate_made whole b =
      let done = begins_then (begins_append p3.draft.table (last ∷ [])) b in
      record {
        at = length p3.draft.table;
        numbered = omega (arith, whole_length);
        inside = omega (arith, whole_length, b.longer);
        operand1 = p1.operand;
        operand2 = p2.operand;
        operand3 = p3.operand;
        first = placed1.serves whole (begins_then (begins_then placed2.begins placed3.begins) done);
        second = placed2.serves whole (begins_then placed3.begins done);
        third = placed3.serves whole done;
        is = begins_last p3.draft.table last b;
      }

-- The pass that sets levels: what it has done so far, from gate to gate, and what the outputs then find there.
use Prim.Native.Nat.{ℕ, suc, ◌+◌, ◌≤◌, ◌<◌}
use mathlib.Core.Path.{◌≡◌, sym, ◌∙◌}
use mathlib.Core.Bool.{Bool, true, false}
use mathlib.Core.Logic.{⊎_elim}
use mathlib.Core.List.{List}
use native.Mathlib.Nat.{eq-or-lt_of_le}
use native.Mathlib.Omega.{arith}
use lib.Dec.{eqb}
use lib.ListN.{set, length-set}
use lib.Seq.{get_or-set_same, get_or-set_other}
use Rattle.std.specs.Prelude.{if◌then◌else◌}
use Rattle.majority.specs.Edge.{node_of}
use Rattle.majority.specs.Table.{record_at, WellFormed, WithinLimits}
use Rattle.majority.specs.declared.Record.{Record}
use Rattle.majority.specs.declared.Counts.{Counts}
use Rattle.majority.specs.Check.{check_records}
use Rattle.majority.proofs.Accepted.{acceptance}
use Rattle.std.specs.Prelude.{Ok}
use Rattle.translation.specs.declared.Mode.TheVariants.{Once}
use Rattle.majority.proofs.Levels.{above_each, level_at_most}
use Rattle.translation.specs.Rm3.{output_level3}
use Rattle.translation.specs.Translate.{translation, operations}
use Rattle.translation.specs.Level3.{operand_level, edge_level, gate_level}
use Rattle.translation.proofs.Rm3Gate.{middle_of}
use Rattle.translation.proofs.Rm3Laws.{operand_level_lem}
use Rattle.translation.proofs.Rm3Levels.{early_level, gate_level_lem, output_level_lem}
use Rattle.tables.specs.Sound.{Fresh}
use Rattle.rm3.specs.inner.Levelled.{level_in, Levelled}

-- no edge stands higher than its gate
pub edges_below : (v : ℕ → ℕ) (r : Record) (b : ℕ) → gate_level v r ≤ b
    → (edge_level v (eqb (middle_of r) 1) r.e1 ≤ b) × (edge_level v (eqb (middle_of r) 2) r.e2 ≤ b) × (edge_level v (eqb (middle_of r) 3) r.e3 ≤ b)
unfolding gate_level
edges_below v r b h =
    let e = above_each (edge_level v (eqb (middle_of r) 1) r.e1) (edge_level v (eqb (middle_of r) 2) r.e2) (edge_level v (eqb (middle_of r) 3) r.e3) in
    (omega (arith, e.0), omega (arith, e.1), omega (arith, e.2))

module _ (rs : List Record) (c : Counts) (sound : check_records rs ≡ Ok c) where
  abbrev formed : WellFormed c.inputs c.gates c.outputs rs
  formed = (acceptance _ _ _ rs sound).formed

  abbrev within : WithinLimits c.inputs c.gates c.outputs
  within = (acceptance _ _ _ rs sound).limits

  abbrev nodes : ℕ
  nodes = c.inputs + c.gates

  -- no operand stands high
  small : (k : ℕ) → k ≤ nodes → operand_level Once c.inputs c.gates rs k ≤ 2112
  small k h =
      let limits = within in
      omega (arith, operand_level_lem formed Once k h, level_at_most formed k (omega arith))

  pub levelled_start : {ls : List ℕ} → Fresh 0 ls → Levelled c rs c.inputs ls
  levelled_start fresh = record { room = fresh.room; each = λ k h. fresh.all k ∙ sym (early_level formed Once k h) }

  -- a gate more
  module _ {ls : List ℕ} {i : ℕ} (late : c.inputs ≤ i) (early : i < nodes) (so : Levelled c rs i ls) where
    abbrev r : Record
    r = record_at rs i

    -- the level as the code finds it
    is : gate_level (level_in ls) r ≡ operand_level Once c.inputs c.gates rs (suc i)
    unfolding gate_level
    is =
        let low = (formed.gates i late early).1 in
        rw (so.each (node_of r.e1) (omega (arith, low.first)), so.each (node_of r.e2) (omega (arith, low.second)), so.each (node_of r.e3) (omega (arith, low.third)))
        (sym (gate_level_lem formed Once i late early))

    pub level_small : gate_level (level_in ls) r ≤ 4000
    level_small = rw is (omega (arith, small (suc i) early))

    pub levelled_more : (l : ℕ) → l ≡ gate_level (level_in ls) r → Levelled c rs (i + 1) (set ls (i + 1) l)
    levelled_more l el =
        let limits = within in
        let one : i + 1 ≡ suc i = omega arith in
        record {
          room = length-set ls (i + 1) l ∙ so.room;
          each = λ k h. ⊎_elim
              (λ q. rw q (get_or-set_same ls (i + 1) l 0 (omega (arith, so.room)) ∙ el ∙ is ∙ rw one))
              (λ q. get_or-set_other ls (i + 1) k l 0 (omega arith) ∙ so.each k (omega arith))
              (eq-or-lt_of_le h);
        }

  -- an output's operand, where the levels of all nodes' are set
  module _ {ls : List ℕ} (so : Levelled c rs nodes ls) (j : ℕ) (h : j < c.outputs) where
    abbrev e : ℕ
    e = (record_at rs (nodes + j)).e1

    pub names : node_of e ≤ nodes
    names = (formed.outputs (nodes + j) (omega arith) (omega arith)).1

    pub output_small : (t : Bool) → level_in ls (node_of e) + (if t then 1 else 0) ≤ 4000
    output_small t = rw (so.each (node_of e) names) (go t)
      where
        go : (t : Bool) → operand_level Once c.inputs c.gates rs (node_of e) + (if t then 1 else 0) ≤ 4000
        go true = omega (arith, small (node_of e) names)
        go false = omega (arith, small (node_of e) names)

    pub output_found : edge_level (level_in ls) false e ≡ output_level3 c.inputs (operations Once c.inputs c.gates rs) (translation Once c.inputs c.gates rs) j
    output_found = rw (so.each (node_of e) names) (sym (output_level_lem formed Once j h))

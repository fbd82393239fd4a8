-- A table is accepted where it is well formed and within its limits, and only there.
use Prim.Native.Nat.{ℕ, suc, ◌+◌, ◌≤◌, ◌<◌}
use mathlib.Core.Path.{◌≡◌, refl, sym, ◌∙◌, ap}
use mathlib.Core.Bool.{Bool, true, false, not, ◌||◌}
use mathlib.Core.List.{List}
use native.Mathlib.Omega.{arith}
use native.Mathlib.Nat.{le_refl}
use native.Mathlib.Decide.{dec_lt}
use borrow.Author.Tests.{ltb-false, le-ltb, eq-eqb, ne_eqb, eqb-true, not-false}
use lib.Dec.{ltb, eqb}
use lib.ListN.{length}
use Rattle.majority.specs.Edge.{node_of}
use Rattle.majority.specs.Seek.{first}
use Rattle.majority.specs.Table.{input, output, record_at, Below, WellFormed, WithinLimits}
use Rattle.majority.specs.Check.{counts, bad_kind_at, count, counts_of, bad_counts, not_zero, past, first_of, bad_edge, faulty, fault_of, faulty_at, check_fields, check_kinds, check_records}
use Rattle.majority.specs.declared.Record.{Record}
use Rattle.majority.specs.declared.Counts.{Counts}
use Rattle.majority.proofs.Logic.{neither, passed, passed_on}
use Rattle.majority.proofs.Seek.{all_fail, nothing_there}
use Rattle.majority.proofs.Order.{InOrder, in_order, all_counted, order_good, order_counts}
use Rattle.std.specs.Prelude.{Result, Ok}
use Rattle.refusals.specs.declared.Refusal.{Refusal}
use Rattle.refusals.specs.declared.Refusal.TheVariants as refusal

accepted_once : (c d : Counts) → ◌≡◌ {A = Result Counts Refusal} (Ok c) (Ok d) → c ≡ d
accepted_once c d e = cc

-- the tests of a record of each kind
module _ (last i : ℕ) (r : Record) where
  zero : (x : ℕ) → not (eqb x 0) ≡ false → x ≡ 0
  zero x e = eqb-true _ _ (not-false _ e)

  no_fault : faulty last i r ≡ false → (not_zero r ≡ false) × (bad_edge last i r ≡ 0)
  unfolding faulty
  no_fault e =
      let w = neither (not_zero r) (ltb 0 (bad_edge last i r)) e in
      let none : bad_edge last i r ≤ 0 = ltb-false _ _ w.1 in
      (w.0, omega arith)

  none_of : (a b c : Bool) → first_of a b c ≡ 0 → (a ≡ false) × (b ≡ false) × (c ≡ false)
  none_of true b c e = absurd (omega arith)
  none_of false true c e = absurd (omega arith)
  none_of false false true e = absurd (omega arith)
  none_of false false false e = (refl, refl, refl)

  input_of : r.kind ≡ 1 → faulty last i r ≡ false → r ≡ input
  input_of k e =
      let fields : not_zero r ≡ (not (eqb r.block 0) || not (eqb r.e1 0) || not (eqb r.e2 0) || not (eqb r.e3 0)) = rw (eq-eqb _ _ k) in
      let w = neither (not (eqb r.block 0) || not (eqb r.e1 0) || not (eqb r.e2 0)) (not (eqb r.e3 0)) (sym fields ∙ (no_fault e).0) in
      let y = neither (not (eqb r.block 0) || not (eqb r.e1 0)) (not (eqb r.e2 0)) w.0 in
      let z = neither (not (eqb r.block 0)) (not (eqb r.e1 0)) y.0 in
      let b = zero r.block z.0 in
      let p1 = zero r.e1 z.1 in
      let p2 = zero r.e2 y.1 in
      let p3 = zero r.e3 w.1 in
      λ d. record { kind = k d; block = b d; e1 = p1 d; e2 = p2 d; e3 = p3 d }

  gate_of_lem : r.kind ≡ 2 → faulty last i r ≡ false → Below (suc i) r
  gate_of_lem k e =
      let other : r.kind ≡ 1 → ⊥ = λ h. omega arith in
      let edges : bad_edge last i r ≡ first_of (past i r.e1) (past i r.e2) (past i r.e3) =
      rw (ne_eqb r.kind 1 other, eq-eqb r.kind 2 k)
      in
      let u = none_of (past i r.e1) (past i r.e2) (past i r.e3) (sym edges ∙ (no_fault e).1) in
      let l1 : node_of r.e1 ≤ i = ltb-false _ _ u.0 in
      let l2 : node_of r.e2 ≤ i = ltb-false _ _ u.1 in
      let l3 : node_of r.e3 ≤ i = ltb-false _ _ u.2 in
      record { first = omega arith; second = omega arith; third = omega arith }

  output_of : r.kind ≡ 3 → faulty last i r ≡ false → (r ≡ output r.e1) × (node_of r.e1 ≤ last)
  output_of k e =
      let n1 : r.kind ≡ 1 → ⊥ = λ h. omega arith in
      let n2 : r.kind ≡ 2 → ⊥ = λ h. omega arith in
      let fields : not_zero r ≡ (not (eqb r.block 0) || not (eqb r.e2 0) || not (eqb r.e3 0)) = rw (ne_eqb r.kind 1 n1, ne_eqb r.kind 2 n2) in
      let edge : bad_edge last i r ≡ first_of (past last r.e1) false false = rw (ne_eqb r.kind 1 n1, ne_eqb r.kind 2 n2) in
      let w = neither (not (eqb r.block 0) || not (eqb r.e2 0)) (not (eqb r.e3 0)) (sym fields ∙ (no_fault e).0) in
      let z = neither (not (eqb r.block 0)) (not (eqb r.e2 0)) w.0 in
      let b = zero r.block z.0 in
      let p2 = zero r.e2 z.1 in
      let p3 = zero r.e3 w.1 in
      (λ d. record { kind = k d; block = b d; e1 = r.e1; e2 = p2 d; e3 = p3 d }, ltb-false _ _ (none_of (past last r.e1) false false (sym edge ∙ (no_fault e).1)).0)

  of_gate : r.kind ≡ 2 → Below (suc i) r → faulty last i r ≡ false
  unfolding faulty
  of_gate k low =
      let other : r.kind ≡ 1 → ⊥ = λ h. omega arith in
      let l1 : node_of r.e1 ≤ i = omega (arith, low.first) in
      let l2 : node_of r.e2 ≤ i = omega (arith, low.second) in
      let l3 : node_of r.e3 ≤ i = omega (arith, low.third) in
      rw (ne_eqb r.kind 1 other, eq-eqb r.kind 2 k, le-ltb i (node_of r.e1) l1, le-ltb i (node_of r.e2) l2, le-ltb i (node_of r.e3) l3)

of_input : (last i : ℕ) (r : Record) → r ≡ input → faulty last i r ≡ false
unfolding faulty
of_input last i r e = rw e

of_output : (last i : ℕ) (r : Record) → r ≡ output r.e1 → node_of r.e1 ≤ last → faulty last i r ≡ false
unfolding faulty
of_output last i r e h = ap (faulty last i) e ∙ rw (le-ltb last (node_of r.e1) h)

-- the limits that the test of the counts asks
limits_of : (c : Counts) → bad_counts c ≡ false → WithinLimits c.inputs c.gates c.outputs
limits_of c e =
    let q = neither (ltb 32 c.inputs || ltb 1024 c.gates || ltb 32 c.outputs) (ltb c.outputs 1) e in
    let q1 = neither (ltb 32 c.inputs || ltb 1024 c.gates) (ltb 32 c.outputs) q.0 in
    let q2 = neither (ltb 32 c.inputs) (ltb 1024 c.gates) q1.0 in
    record { inputs = ltb-false _ _ q2.0; gates = ltb-false _ _ q2.1; some = ltb-false _ _ q.1; outputs = ltb-false _ _ q1.1 }

of_limits : (n m o : ℕ) → WithinLimits n m o → bad_counts (counts n m o) ≡ false
of_limits n m o w = rw (le-ltb 32 n w.inputs, le-ltb 1024 m w.gates, le-ltb 32 o w.outputs, le-ltb o 1 w.some)

-- what acceptance gives
pub record Accepted (n m o : ℕ) (rs : List Record) : Type 0 where
  pub formed : WellFormed n m o rs
  pub limits : WithinLimits n m o

formed_of : (n m o : ℕ) (rs : List Record) → length rs ≡ n + m + o → InOrder n m o rs → ((j : ℕ) → j < length rs → faulty (n + m) j (record_at rs j) ≡ false) → WellFormed n m o rs
formed_of n m o rs all s fine = record {
  whole = all;
  inputs = λ j h. input_of _ j _ (s.inputs j h) (fine j (omega arith));
  gates = λ j p q. (s.gates j p q, gate_of_lem _ j _ (s.gates j p q) (fine j (omega arith)));
  outputs = λ j p q. output_of _ j _ (s.outputs j p q) (fine j (omega arith));
}

pub acceptance : (n m o : ℕ) (rs : List Record) → check_records rs ≡ Ok (counts n m o) → Accepted n m o rs
unfolding check_records check_kinds check_fields faulty_at
acceptance n m o rs e =
    let s1 = passed_on _ (refusal.Kind _) (counts_of rs) _ _ e in
    let s2 = passed (bad_counts (counts_of rs)) refusal.Count (check_fields (counts_of rs) rs) _ s1.1 in
    let last = count 1 rs + count 2 rs in
    let bad = first (faulty_at last rs) (length rs) in
    let s3 = passed (ltb bad (length rs)) (fault_of last bad (record_at rs bad)) (Ok (counts_of rs)) _ s2.1 in
    let same : counts_of rs ≡ counts n m o = accepted_once _ _ s3.1 in
    let en : count 1 rs ≡ n = ap (λ (c : Counts). c.inputs) same in
    let em : count 2 rs ≡ m = ap (λ (c : Counts). c.gates) same in
    let eo : count 3 rs ≡ o = ap (λ (c : Counts). c.outputs) same in
    let good = all_fail (bad_kind_at rs) (length rs) s1.0 in
    let fine : (j : ℕ) → j < length rs → faulty last j (record_at rs j) ≡ false = all_fail (faulty_at last rs) (length rs) s3.0 in
    rw (← en, ← em, ← eo) (record { formed = formed_of _ _ _ rs (all_counted rs good) (in_order rs good) fine; limits = limits_of (counts_of rs) s2.0 })

pub order_of : (n m o : ℕ) (rs : List Record) → WellFormed n m o rs → InOrder n m o rs
order_of n m o rs f = record {
  inputs = λ j h. ap (λ (r : Record). r.kind) (f.inputs j h);
  gates = λ j p q. (f.gates j p q).0;
  outputs = λ j p q. ap (λ (r : Record). r.kind) (f.outputs j p q).0;
}

fine_of : (n m o : ℕ) (rs : List Record) → WellFormed n m o rs → (j : ℕ) → j < n + m + o → faulty (n + m) j (record_at rs j) ≡ false
fine_of n m o rs f j h = go (dec_lt j n) (dec_lt j (n + m))
  where
    go : Dec (j < n) → Dec (j < n + m) → faulty (n + m) j (record_at rs j) ≡ false
    go (yes p) _ = of_input _ j _ (f.inputs j p)
    go (no p) (yes q) = let w = f.gates j (omega arith) q in of_gate _ j _ w.0 w.1
    go (no p) (no q) = let w = f.outputs j (omega arith) h in of_output _ j _ w.0 w.1

pub accepts : (n m o : ℕ) (rs : List Record) → Accepted n m o rs → check_records rs ≡ Ok (counts n m o)
unfolding check_records check_kinds check_fields faulty_at
accepts n m o rs a =
    let order = order_of n m o rs a.formed in
    let w = order_counts rs n m o a.formed.whole order in
    let len : length rs ≡ n + m + o = a.formed.whole in
    let kinds : first (bad_kind_at rs) (length rs) ≡ length rs = nothing_there _ (length rs) 0 (λ j p q. order_good order j (omega arith)) ∙ omega arith in
    let faults : first (faulty_at (n + m) rs) (length rs) ≡ length rs =
    nothing_there _ (length rs) 0 (λ j p q. fine_of n m o rs a.formed j (omega arith)) ∙ omega arith
    in
    rw (kinds, le-ltb (length rs) (length rs) (le_refl (length rs)), w.0, w.1, w.2, of_limits n m o a.limits, faults, le-ltb (length rs) (length rs) (le_refl (length rs)))

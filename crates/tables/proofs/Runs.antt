-- Three runs of records, of the kinds 1, 2 and 3, end at the first record whose kind is bad, and are as long as the counts.
use Prim.Native.Nat.{ℕ, zero, suc, ◌-◌, ◌≤◌, ◌<◌}
use mathlib.Core.Path.{◌≡◌, refl, ◌∙◌}
use mathlib.Core.Bool.{Bool, true, false, ◌||◌}
use mathlib.Core.List.{List}
use native.Mathlib.Nat.{le_refl}
use native.Mathlib.Omega.{arith}
use native.Mathlib.Decide.{dec_lt}
use borrow.Author.Tests.{lt-ltb, le-ltb, eqb-true, eqb-false, not-false, not-true}
use lib.Dec.{ltb}
use lib.ListN.{length}
use Rattle.majority.specs.Seek.{first}
use Rattle.majority.specs.Table.{record_at}
use Rattle.majority.specs.Check.{counts, bad_kind, kind_before, bad_kind_at, check_kinds}
use Rattle.majority.specs.declared.Record.{Record}
use Rattle.majority.proofs.Seek.{found_at, found_in_lem, fails_before, holds_there, nothing_there}
use Rattle.majority.proofs.Order.{InOrder, order_good, order_counts}
use Rattle.tables.specs.inner.Runs.{other_kind, run_end}
use Rattle.std.specs.Prelude.{Ok, Err}
use Rattle.refusals.specs.declared.Refusal.TheVariants as refusal

-- one run
module _ (rs : List Record) (n k from : ℕ) (inside : from ≤ n) where
  run_in : (from ≤ run_end rs n k from) × (run_end rs n k from ≤ n)
  unfolding run_end
  run_in = let w = found_in_lem (other_kind rs k) (n - from) from in (w.0, omega (arith, w.1))

  run_kinds : (j : ℕ) → from ≤ j → j < run_end rs n k from → (record_at rs j).kind ≡ k
  unfolding run_end other_kind
  run_kinds j a b = eqb-true _ _ (not-false _ (fails_before (other_kind rs k) (n - from) from j a b))

  run_other : run_end rs n k from < n → (record_at rs (run_end rs n k from)).kind ≡ k → ⊥
  unfolding run_end other_kind
  run_other h = eqb-false _ _ (not-true _ (holds_there (other_kind rs k) (n - from) from (omega arith)))

pub run_at_most : (rs : List Record) (n k from i : ℕ) → i ≡ run_end rs n k from → from ≤ n → i ≤ n
run_at_most rs n k from i e h = rw e (run_in rs n k from h).1

pub or_true : (t : Bool) → (t || true) ≡ true
or_true true = refl
or_true false = refl

-- a kind that is none of 1 to 3 from that before it on is bad
bad_kind_lem : (before kind : ℕ) → (1 ≤ kind → kind ≤ 3 → before ≤ kind → ⊥) → bad_kind before kind ≡ true
bad_kind_lem before kind not-Good = go (dec_lt kind 1) (dec_lt 3 kind) (dec_lt kind before)
  where
    go : Dec (kind < 1) → Dec (3 < kind) → Dec (kind < before) → bad_kind before kind ≡ true
    go (yes p) _ _ = rw (lt-ltb kind 1 p)
    go (no p) (yes q) _ = rw (lt-ltb 3 kind q, or_true (ltb kind 1))
    go (no p) (no q) (yes r) = rw (lt-ltb kind before r, or_true (ltb kind 1 || ltb 3 kind))
    go (no p) (no q) (no r) = absurd (not-Good (omega arith) (omega arith) (omega arith))

kind_before_lem : (rs : List Record) (k : ℕ) → 0 < k → kind_before rs k ≡ (record_at rs (k - 1)).kind
unfolding kind_before
kind_before_lem rs zero h = absurd (omega arith)
kind_before_lem rs (suc k) h = let e : suc k - 1 ≡ k = omega arith in rw e

module _ (rs : List Record) (n : ℕ) (all : length rs ≡ n) where
  -- where the three runs end
  abbrev inputs : ℕ
  inputs = run_end rs n 1 0

  abbrev nodes : ℕ
  nodes = run_end rs n 2 inputs

  abbrev end : ℕ
  end = run_end rs n 3 nodes

  inputs_in : (0 ≤ inputs) × (inputs ≤ n)
  inputs_in = run_in rs n 1 0 (omega arith)

  nodes_in : (inputs ≤ nodes) × (nodes ≤ n)
  nodes_in = run_in rs n 2 inputs inputs_in.1

  end_in : (nodes ≤ end) × (end ≤ n)
  end_in = run_in rs n 3 nodes nodes_in.1

  runs_order : InOrder inputs (nodes - inputs) (end - nodes) rs
  runs_order = record {
    inputs = λ j h. run_kinds rs n 1 0 (omega arith) j (omega arith) h;
    gates = λ j p q. run_kinds rs n 2 inputs inputs_in.1 j p (omega (arith, nodes_in.0));
    outputs = λ j p q. run_kinds rs n 3 nodes nodes_in.1 j (omega (arith, nodes_in.0)) (omega (arith, nodes_in.0, end_in.0));
  }

  runs_good : (j : ℕ) → j < end → bad_kind_at rs j ≡ false
  runs_good j h = order_good runs_order j (omega (arith, nodes_in.0, end_in.0))

  -- at the end of the runs stands a kind that is none of those that could follow
  end_bad : end < n → bad_kind_at rs end ≡ true
  unfolding bad_kind_at
  end_bad h = bad_kind_lem _ _ (λ a b c. go a b c (dec_lt nodes end) (dec_lt inputs nodes))
    where
      go : 1 ≤ (record_at rs end).kind → (record_at rs end).kind ≤ 3 → kind_before rs end ≤ (record_at rs end).kind → Dec (nodes < end) → Dec (inputs < nodes) → ⊥
      go a b c (yes p) _ =
          let k = kind_before_lem rs end (omega arith) in
          let three = run_kinds rs n 3 nodes nodes_in.1 (end - 1) (omega arith) (omega arith) in
          run_other rs n 3 nodes nodes_in.1 h (omega arith)
      go a b c (no p) (yes q) =
          let same : end ≡ nodes = omega (arith, end_in.0) in
          let k = kind_before_lem rs end (omega arith) in
          let two : (record_at rs (end - 1)).kind ≡ 2 = run_kinds rs n 2 inputs inputs_in.1 (end - 1) (omega arith) (omega arith) in
          let other : (record_at rs end).kind ≡ 2 → ⊥ = rw same (run_other rs n 2 inputs inputs_in.1 (omega arith)) in
          let three : (record_at rs end).kind ≡ 3 → ⊥ = run_other rs n 3 nodes nodes_in.1 h in
          omega arith
      go a b c (no p) (no q) =
          let same : end ≡ nodes = omega (arith, end_in.0) in
          let first_same : end ≡ inputs = omega (arith, nodes_in.0) in
          let one : (record_at rs end).kind ≡ 1 → ⊥ = rw first_same (run_other rs n 1 0 (omega arith) (omega arith)) in
          let two : (record_at rs end).kind ≡ 2 → ⊥ = rw same (run_other rs n 2 inputs inputs_in.1 (omega arith)) in
          let three : (record_at rs end).kind ≡ 3 → ⊥ = run_other rs n 3 nodes nodes_in.1 h in
          omega arith

  -- the kinds decide: the first bad one, or the counts
  kinds_stop : end < n → check_kinds rs ≡ Err (refusal.Kind end)
  unfolding check_kinds
  kinds_stop h =
      let bad : first (bad_kind_at rs) n ≡ end = found_at (bad_kind_at rs) n 0 end (omega arith) (omega arith) (λ l a b. runs_good l b) (end_bad h) in
      rw (all, bad, lt-ltb end n h)

  kinds_pass : n ≤ end → check_kinds rs ≡ Ok (counts inputs (nodes - inputs) (n - nodes))
  unfolding check_kinds
  kinds_pass h =
      let e : end ≡ n = omega (arith, end_in.1) in
      let none : first (bad_kind_at rs) n ≡ n = nothing_there (bad_kind_at rs) n 0 (λ j a b. runs_good j (omega arith)) ∙ omega arith in
      let w = order_counts rs inputs (nodes - inputs) (n - nodes) (omega (arith, nodes_in)) (rw e at runs_order) in
      rw (all, none, le-ltb n n (le_refl n), w.0, w.1, w.2)

  -- the same of the numbers that the code found
  module _ (i j k : ℕ) (ei : i ≡ inputs) (ej : j ≡ run_end rs n 2 i) (ek : k ≡ run_end rs n 3 j) where
    nodes_found : j ≡ nodes
    nodes_found = rw ei at ej

    end_found : k ≡ end
    end_found = rw nodes_found at ek

    pub runs_inside : (i ≤ j) × (j ≤ k) × (k ≤ n)
    runs_inside = rw (ei, nodes_found, end_found) (nodes_in.0, end_in.0, end_in.1)

    pub runs_stop : k < n → check_kinds rs ≡ Err (refusal.Kind k)
    runs_stop = rw end_found kinds_stop

    pub runs_pass : n ≤ k → check_kinds rs ≡ Ok (counts i (j - i) (n - j))
    runs_pass = rw (end_found, nodes_found, ei) kinds_pass

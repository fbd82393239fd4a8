-- The first fault, sought in each run of records by its kind, is the first of the table; and what it makes of `check_fields`.
use Prim.Native.Nat.{ℕ, ◌+◌, ◌-◌, ◌*◌, ◌/◌, ◌≤◌, ◌<◌}
use mathlib.Core.Path.{◌≡◌, refl, sym, ap, subst, ◌∙◌}
use mathlib.Core.Bool.{Bool, true, false}
use mathlib.Core.List.{List}
use native.Mathlib.Nat.{le_refl}
use native.Mathlib.Omega.{arith}
use native.Mathlib.Decide.{dec_lt}
use borrow.Author.Tests.{lt-ltb, le-ltb}
use lib.Dec.{ltb}
use lib.ListN.{length}
use Rattle.majority.specs.Seek.{first_from, first}
use Rattle.majority.specs.Table.{record_at}
use Rattle.majority.specs.Check.{bad_kind_at, counts_of, faulty, fault_of, faulty_at, check_fields, check_kinds}
use Rattle.majority.specs.declared.Record.{Record}
use Rattle.majority.specs.declared.Counts.{Counts}
use Rattle.majority.proofs.Logic.{passed}
use Rattle.majority.proofs.Seek.{seek_start, all_fail, seek_found, seek_past, same_found, found_in_lem}
use Rattle.majority.proofs.Order.{InOrder, all_counted, in_order}
use Rattle.tables.specs.Bytes.{record_in, record_as, records_of, table_of}
use Rattle.tables.specs.inner.Runs.{faulty_as, record_checked, run_checked}
use Rattle.tables.proofs.Decoded.{length_table, table_at}
use Rattle.std.specs.Prelude.{Ok, Err, if◌then◌else◌}
use Rattle.refusals.specs.declared.Refusal.{Refusal}
use Rattle.refusals.specs.Reply.{◌>>=◌}
use Rattle.refusals.specs.declared.Refusal.TheVariants as refusal

module _ (xs : List ℕ) (n : ℕ) (c : Counts) where
  abbrev rs : List Record
  rs = table_of xs n

  abbrev last : ℕ
  last = c.inputs + c.gates

  abbrev fault : ℕ → Bool
  fault = faulty_at last rs

  module _ (kinds : check_kinds rs ≡ Ok c) where
    ordered : InOrder c.inputs c.gates c.outputs rs × (length rs ≡ c.inputs + c.gates + c.outputs)
    unfolding check_kinds
    ordered =
        let w = passed (ltb (first (bad_kind_at rs) (length rs)) (length rs)) (refusal.Kind (first (bad_kind_at rs) (length rs))) (Ok (counts_of rs)) c kinds in
        let same : counts_of rs ≡ c = let e = w.1 in cc in
        let good = all_fail (bad_kind_at rs) (length rs) w.0 in
        subst (λ (k : Counts). InOrder k.inputs k.gates k.outputs rs × (length rs ≡ k.inputs + k.gates + k.outputs)) same (in_order rs good, all_counted rs good)

    -- the records are as many as the counts say
    pub all_records : n ≡ c.inputs + c.gates + c.outputs
    all_records = sym (length_table xs n) ∙ ordered.1

    -- the records of a run, read as those of its kind, have the faults that they have
    run_faults : (k from to : ℕ) → to ≤ n → ((j : ℕ) → from ≤ j → j < to → (record_at rs j).kind ≡ k) → first_from (faulty_as xs k last) from (to - from) ≡ first_from fault from (to - from)
    unfolding faulty_as faulty_at
    run_faults k from to inside kind =
        same_found (faulty_as xs k last) fault (to - from) from
        (λ j a b.
        let here = table_at xs n j (omega arith) in
        let is : (record_in xs j).kind ≡ k = ap (λ (r : Record). r.kind) (sym here) ∙ kind j a (omega arith) in
        ap (faulty last j) (ap (record_as xs j) (sym is) ∙ sym here))

    -- the faults that the code found in the three runs
    module _ (i g : ℕ) (ei : i ≡ first_from (faulty_as xs 1 last) 0 (c.inputs - 0)) where
      input_found : i ≡ first_from fault 0 (c.inputs - 0)
      input_found = ei ∙ run_faults 1 0 c.inputs (omega (arith, all_records)) (λ j a. ordered.0.inputs j)

      pub first_input : i < c.inputs → i ≡ first fault n
      first_input h =
          input_found ∙ sym (seek_start fault n ∙ seek_found fault 0 c.inputs n (omega arith) (omega (arith, all_records)) (rw input_found at h))

      past_inputs : c.inputs ≤ i → first fault n ≡ first_from fault c.inputs (n - c.inputs)
      past_inputs h = seek_start fault n ∙ seek_past fault 0 c.inputs n (omega arith) (omega (arith, all_records)) (rw input_found at h)

      module _ (eg : g ≡ first_from (faulty_as xs 2 last) c.inputs (last - c.inputs)) (none : c.inputs ≤ i) where
        gate_found : g ≡ first_from fault c.inputs (last - c.inputs)
        gate_found = eg ∙ run_faults 2 c.inputs last (omega (arith, all_records)) ordered.0.gates

        pub first_gate : g < last → g ≡ first fault n
        first_gate h = gate_found ∙ sym (past_inputs none ∙ seek_found fault c.inputs last n (omega arith) (omega (arith, all_records)) (rw gate_found at h))

        pub first_output : (o : ℕ) → o ≡ first_from (faulty_as xs 3 last) last (n - last) → last ≤ g → o ≡ first fault n
        first_output o eo h =
            eo
            ∙ run_faults 3 last n (le_refl n) (λ j a b. ordered.0.outputs j a (omega (arith, all_records)))
            ∙ sym (past_inputs none ∙ seek_past fault c.inputs last n (omega arith) (omega (arith, all_records)) (rw gate_found at h))

    -- the fault of a run is that of the table, once none was found before
    stop : (k from to bad : ℕ) → from ≤ to → to ≤ n → ((j : ℕ) → from ≤ j → j < to → (record_at rs j).kind ≡ k) → bad ≡ first_from (faulty_as xs k last) from (to - from) → bad ≡ first fault n → bad < to
        → check_fields c rs ≡ Err (fault_of last bad (record_as xs bad k))
    unfolding check_fields
    stop k from to bad start inside kind found is h =
        let low : from ≤ bad = rw found (found_in_lem (faulty_as xs k last) (to - from) from).0 in
        let here = table_at xs n bad (omega arith) in
        let own : (record_in xs bad).kind ≡ k = ap (λ (r : Record). r.kind) (sym here) ∙ kind bad low h in
        let same : record_at rs bad ≡ record_as xs bad k = here ∙ ap (record_as xs bad) own in
        rw (length_table xs n, ← is, lt-ltb bad n (omega arith), same)

    -- the three runs, one after another
    pub runs_checked : check_fields c rs ≡ ◌>>=◌ (run_checked xs 1 last 0 c.inputs) (λ u. ◌>>=◌ (run_checked xs 2 last c.inputs last) (λ v. ◌>>=◌ (run_checked xs 3 last last n) (λ w. Ok c)))
    unfolding run_checked check_fields
    runs_checked = go (dec_lt i c.inputs) (dec_lt g last) (dec_lt o n)
      where
        i : ℕ
        i = first_from (faulty_as xs 1 last) 0 (c.inputs - 0)

        g : ℕ
        g = first_from (faulty_as xs 2 last) c.inputs (last - c.inputs)

        o : ℕ
        o = first_from (faulty_as xs 3 last) last (n - last)

        go : Dec (i < c.inputs) → Dec (g < last) → Dec (o < n)
            → check_fields c rs ≡ ◌>>=◌ (run_checked xs 1 last 0 c.inputs) (λ u. ◌>>=◌ (run_checked xs 2 last c.inputs last) (λ v. ◌>>=◌ (run_checked xs 3 last last n) (λ w. Ok c)))
        go (yes p) q r = rw (lt-ltb i c.inputs p) (stop 1 0 c.inputs i (omega arith) (omega (arith, all_records)) (λ j a. ordered.0.inputs j) refl (first_input i g refl p) p)
        go (no p) (yes q) r =
            rw (le-ltb i c.inputs (omega arith), lt-ltb g last q)
            (stop 2 c.inputs last g (omega arith) (omega (arith, all_records)) ordered.0.gates refl (first_gate i g refl refl (omega arith) q) q)
        go (no p) (no q) (yes r) =
            rw (le-ltb i c.inputs (omega arith), le-ltb g last (omega arith), lt-ltb o n r)
            (stop 3 last n o (omega (arith, all_records)) (le_refl n) (λ j a b. ordered.0.outputs j a (omega (arith, all_records))) refl (first_output i g refl refl (omega arith) o refl (omega arith)) r)
        go (no p) (no q) (no r) =
            rw (le-ltb i c.inputs (omega arith), le-ltb g last (omega arith), le-ltb o n (omega arith), length_table xs n, ← first_output i g refl refl (omega arith) o refl (omega arith), le-ltb o n (omega arith))

  -- the first fault decides
  module _ (bad : ℕ) (is : bad ≡ first fault n) where
    pub fault_end : n ≤ bad → check_fields c rs ≡ Ok c
    unfolding check_fields
    fault_end h = rw (length_table xs n, ← is, le-ltb bad n h)

    pub fault_stop : 8 * n ≤ length xs → bad < n → (r : Record) → r ≡ record_at (records_of xs) bad → check_fields c rs ≡ Err (fault_of last bad r)
    unfolding check_fields
    fault_stop fits h r er =
        let same : record_at rs bad ≡ r = table_at xs n bad h ∙ sym (er ∙ table_at xs (length xs / 8) bad (omega arith)) in
        rw (length_table xs n, ← is, lt-ltb bad n h, same)

-- what a turn of a run tells
module _ (xs : List ℕ) (k last from to : ℕ) where
  abbrev found : ℕ
  found = first_from (faulty_as xs k last) from (to - from)

  pub run_stop : (i : ℕ) (e : Refusal) → i < to → found ≡ i → record_checked last i (record_as xs i k) ≡ Err e → run_checked xs k last from to ≡ Err e
  unfolding run_checked record_checked
  run_stop i e h is stops = go (faulty last i (record_as xs i k)) refl stops
    where
      go : (t : Bool) → faulty last i (record_as xs i k) ≡ t → (if t then Err (fault_of last i (record_as xs i k)) else Ok (tt {0})) ≡ Err e → run_checked xs k last from to ≡ Err e
      go true q s = rw (is, lt-ltb i to h) s
      go false q s = let z : ◌≡◌ {A = ℕ} 0 1 = cc in absurd (omega arith)

  pub run_pass : to ≤ found → run_checked xs k last from to ≡ Ok (tt {0})
  unfolding run_checked
  run_pass h = rw (le-ltb found to h)

-- what its record's check tells
module _ (xs : List ℕ) (k last i : ℕ) where
  pub record_fails : (e : Refusal) → record_checked last i (record_as xs i k) ≡ Err e → faulty_as xs k last i ≡ true
  unfolding record_checked faulty_as
  record_fails e = go (faulty last i (record_as xs i k))
    where
      go : (t : Bool) → (if t then Err (fault_of last i (record_as xs i k)) else Ok (tt {0})) ≡ Err e → t ≡ true
      go true s = refl
      go false s = let z : ◌≡◌ {A = ℕ} 0 1 = cc in absurd (omega arith)

  pub record_passes : (u : Unit {0}) → record_checked last i (record_as xs i k) ≡ Ok u → faulty_as xs k last i ≡ false
  unfolding record_checked faulty_as
  record_passes u = go (faulty last i (record_as xs i k))
    where
      go : (t : Bool) → (if t then Err (fault_of last i (record_as xs i k)) else Ok (tt {0})) ≡ Ok u → t ≡ false
      go true s = let z : ◌≡◌ {A = ℕ} 0 1 = cc in absurd (omega arith)
      go false s = refl

-- where two searches up to the same end find the same record, the runs have the same fault
pub same_run : (xs : List ℕ) (k last from i to : ℕ) → first_from (faulty_as xs k last) from (to - from) ≡ first_from (faulty_as xs k last) i (to - i)
    → run_checked xs k last from to ≡ run_checked xs k last i to
unfolding run_checked
same_run xs k last from i to e = rw e

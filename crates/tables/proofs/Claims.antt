-- Claimed counts: where they are those found, the reply is the plain check's; where they are others it is 3, but for 1 and 2.
use Prim.Native.Nat.{ℕ, ◌+◌, ◌/◌, ◌%◌}
use mathlib.Core.Path.{◌≡◌, refl, sym, ap, ◌∙◌}
use mathlib.Core.Bool.{Bool, true, false, not, ◌||◌}
use mathlib.Core.List.{List}
use native.Mathlib.Nat.{le_refl}
use native.Mathlib.Omega.{arith}
use borrow.Author.Tests.{le-ltb, eq-eqb, eqb-true, not-false}
use lib.Dec.{ltb, eqb}
use lib.ListN.{length}
use Rattle.std.specs.Prelude.{if◌then◌else◌, Some, None, Result, Ok, Err}
use Rattle.majority.specs.Seek.{first}
use Rattle.majority.specs.Table.{record_at}
use Rattle.majority.specs.Check.{bad_kind_at, counts_of, bad_counts, fault_of, faulty_at, check_fields, check_kinds, check_records}
use Rattle.majority.specs.declared.Record.{Record}
use Rattle.majority.specs.declared.Counts.{Counts}
use Rattle.majority.proofs.Logic.{neither, passed}
use Rattle.tables.specs.Bytes.{table_of}
use Rattle.tables.specs.Sound.{Sound, table_in}
use Rattle.tables.specs.Calls.{bad_length, check_of}
use Rattle.tables.specs.Claimed.{other_counts, check_counted, check_claimed, claimed_check}
use Rattle.tables.specs.inner.Under.{check_under, check_used}
use Rattle.tables.proofs.Runs.{or_true}
use Rattle.tables.proofs.AfterCheck.{checked_table, checked_sound}
use Rattle.refusals.specs.declared.Refusal.{Refusal}
use Rattle.refusals.specs.declared.Refusal.TheVariants as refusal
use Rattle.refusals.specs.Reply.{◌>>=◌}

-- counts are none other than themselves
own_counts : (c : Counts) → other_counts c c ≡ false
own_counts c = rw (eq-eqb c.inputs c.inputs refl, eq-eqb c.gates c.gates refl, eq-eqb c.outputs c.outputs refl)

same_counts : (claim found : Counts) → other_counts claim found ≡ false → claim ≡ found
same_counts claim found e =
    let w = neither (not (eqb claim.inputs found.inputs) || not (eqb claim.gates found.gates)) _ e in
    let v = neither (not (eqb claim.inputs found.inputs)) _ w.0 in
    let p = eqb-true _ _ (not-false _ v.0) in
    let q = eqb-true _ _ (not-false _ v.1) in
    let r = eqb-true _ _ (not-false _ w.1) in
    λ d. record { inputs = p d; gates = q d; outputs = r d }

or_false : (t : Bool) → (t || false) ≡ t
or_false true = refl
or_false false = refl

counted_own : (c : Counts) (rs : List Record) → check_counted c rs c ≡ (if bad_counts c then Err refusal.Count else check_fields c rs)
unfolding check_counted
counted_own c rs = rw (own_counts c, or_false (bad_counts c))

counted_other : (claim : Counts) (rs : List Record) (found : Counts) → other_counts claim found ≡ true → check_counted claim rs found ≡ Err refusal.Count
unfolding check_counted
counted_other claim rs found e = rw (e, or_true (bad_counts found))

fields_counts : (found : Counts) (rs : List Record) (c : Counts) → check_fields found rs ≡ Ok c → found ≡ c
unfolding check_fields
fields_counts found rs c e =
    let last = found.inputs + found.gates in
    let bad = first (faulty_at last rs) (length rs) in
    let h = (passed (ltb bad (length rs)) (fault_of last bad (record_at rs bad)) (Ok found) c e).1 in
    cc

counted_accepted : (claim : Counts) (rs : List Record) (found c : Counts) → check_counted claim rs found ≡ Ok c → (claim ≡ found) × (found ≡ c)
unfolding check_counted
counted_accepted claim rs found c e =
    let w = passed (bad_counts found || other_counts claim found) refusal.Count _ c e in
    (same_counts claim found (neither (bad_counts found) _ w.0).1, fields_counts found rs c w.1)

module _ (rs : List Record) where
  -- what follows the kinds is asked of the counts alone
  kinds_then : (f g : Counts → Result Counts Refusal) → f (counts_of rs) ≡ g (counts_of rs) → ◌>>=◌ (check_kinds rs) f ≡ ◌>>=◌ (check_kinds rs) g
  unfolding check_kinds
  kinds_then f g e = go (ltb (first (bad_kind_at rs) (length rs)) (length rs))
    where
      go : (t : Bool) → ◌>>=◌ (if t then Err (refusal.Kind (first (bad_kind_at rs) (length rs))) else Ok (counts_of rs)) f
          ≡ ◌>>=◌ (if t then Err (refusal.Kind (first (bad_kind_at rs) (length rs))) else Ok (counts_of rs)) g
      go true = refl
      go false = e

  -- the plain check is that of the counts found
  pub records_counted : check_records rs ≡ ◌>>=◌ (check_kinds rs) (λ c. check_counted c rs c)
  unfolding check_records
  records_counted = kinds_then _ (λ c. check_counted c rs c) (sym (counted_own (counts_of rs) rs))

  accepted_then : (claim c : Counts) (kinds : Result Counts Refusal) → ◌>>=◌ kinds (check_counted claim rs) ≡ Ok c → (◌>>=◌ kinds (λ d. check_counted d rs d) ≡ Ok c) × (claim ≡ c)
  accepted_then claim c (Err w) e = let z : ◌≡◌ {A = ℕ} 0 1 = cc in absurd (omega arith)
  accepted_then claim c (Ok found) e =
      let w = counted_accepted claim rs found c e in
      (rw w.0 at e, w.0 ∙ w.1)

  then_claimed : (c : Counts) (kinds : Result Counts Refusal) → ◌>>=◌ kinds (λ d. check_counted d rs d) ≡ Ok c → ◌>>=◌ kinds (check_counted c rs) ≡ Ok c
  then_claimed c (Err w) e = e
  then_claimed c (Ok found) e = ap (λ (d : Counts). check_counted d rs found) (sym (counted_accepted found rs found c e).1) ∙ e

module _ (xs : List ℕ) where
  abbrev held : List Record
  held = table_of xs (length xs / 8)

  own_length : bad_length xs (length xs) ≡ not (eqb (length xs % 8) 0)
  own_length = rw (le-ltb (length xs) (length xs) (le_refl (length xs)), or_false (not (eqb (length xs % 8) 0)))

  -- the plain check of all bytes
  check_counted_lem : check_of xs (length xs) ≡ (if not (eqb (length xs % 8) 0) then Err refusal.Length else ◌>>=◌ (check_kinds held) (λ c. check_counted c held c))
  unfolding check_of
  check_counted_lem = rw (own_length, records_counted held)

  -- the code's one check, with no claim and with one
  pub used_any : (used : ℕ) → check_used xs used None ≡ check_of xs used
  unfolding check_used check_under check_of
  used_any used = rw (records_counted (table_of xs (used / 8)))

  pub used_only : (claim : Counts) → check_used xs (length xs) (Some claim) ≡ claimed_check xs claim
  unfolding check_used check_under check_claimed claimed_check
  used_only claim = rw own_length

  module _ (claim : Counts) where
    -- the counts found are claimed: the plain check's reply
    pub claimed_check_lem : claim ≡ counts_of held → claimed_check xs claim ≡ check_of xs (length xs)
    unfolding claimed_check check_claimed
    claimed_check_lem own = rw (kinds_then held (check_counted claim held) (λ c. check_counted c held c) (ap (λ (c : Counts). check_counted c held (counts_of held)) own)) (sym check_counted_lem)

    -- others are claimed: 1, 2 and then 3
    pub claimed_other : other_counts claim (counts_of held) ≡ true
        → claimed_check xs claim ≡ (if not (eqb (length xs % 8) 0) then Err refusal.Length else ◌>>=◌ (check_kinds held) (λ c. Err refusal.Count))
    unfolding claimed_check check_claimed
    claimed_other e = rw (kinds_then held (check_counted claim held) (λ c. Err refusal.Count) (counted_other claim held (counts_of held) e))

    -- what is accepted is what the plain check accepts, with the counts claimed
    pub claimed_accepted : (c : Counts) → claimed_check xs claim ≡ Ok c → (check_of xs (length xs) ≡ Ok c) × (claim ≡ c)
    unfolding claimed_check check_claimed
    claimed_accepted c e =
        let w = passed (not (eqb (length xs % 8) 0)) refusal.Length _ c e in
        let v = accepted_then held claim c (check_kinds held) w.1 in
        (check_counted_lem ∙ rw w.0 v.0, v.1)

    -- and what that accepts is accepted where its counts are claimed
    pub accepted_claimed : check_of xs (length xs) ≡ Ok claim → claimed_check xs claim ≡ Ok claim
    unfolding claimed_check check_claimed
    accepted_claimed e =
        let w = passed (not (eqb (length xs % 8) 0)) refusal.Length _ claim (sym check_counted_lem ∙ e) in
        rw w.0 (then_claimed held claim (check_kinds held) w.1)

    -- what a call that checks the claim first knows of an accepted table, and what it replies
    pub claimed_sound : (c : Counts) → claimed_check xs claim ≡ Ok c → Sound xs c
    claimed_sound c e = checked_sound xs (length xs) c (claimed_accepted c e).0

    pub claimed_table : (c : Counts) → claimed_check xs claim ≡ Ok c → held ≡ table_in xs c
    claimed_table c e = checked_table xs (length xs) c (claimed_accepted c e).0

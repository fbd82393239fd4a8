-- A reading that is had from an accepted table answers as the plain calls do on that table; of a refused one it is refused with 3.
use Prim.Native.Nat.{ℕ, ◌/◌}
use mathlib.Core.Path.{◌≡◌, refl, ap, ◌∙◌}
use mathlib.Core.List.{List, []}
use native.Mathlib.Omega.{arith}
use lib.ListN.{length, take}
use lib.Seq.{length-take-le}
use Rattle.majority.specs.Seek.{first_from}
use Rattle.majority.specs.Check.{count, check_kinds}
use Rattle.majority.specs.declared.Counts.{Counts}
use Rattle.translation.specs.declared.Mode.{Mode}
use Rattle.tables.specs.Bytes.{decode, table_of, records_of}
use Rattle.tables.specs.Calls.{check_of, checked_of}
use Rattle.tables.specs.Claimed.{check_counted, check_claimed, claimed_check, claimed_of}
use Rattle.tables.proofs.Decoded.{table_take}
use Rattle.tables.proofs.Encoded.{accepted_records, records_checked}
use Rattle.tables.proofs.Claims.{accepted_claimed}
use Rattle.questions.specs.Calls.{evaluate_of, report_of}
use Rattle.questions.specs.Claimed.{claimed_evaluate, claimed_report}
use Rattle.rm3.specs.Calls.{rm3_of}
use Rattle.rm3.specs.Claimed.{claimed_rm3}
use Rattle.reading.specs.Held.{claim, found, found_in, part_in, counts_in}
use Rattle.std.specs.Prelude.{Ok, Err}
use Rattle.refusals.specs.declared.Refusal.{Refusal}
use Rattle.refusals.specs.declared.Refusal.TheVariants as refusal

module _ (xs : List ℕ) (used : ℕ) where
  module _ (c : Counts) (is : check_of xs used ≡ Ok c) where
    part_length : length (take used xs) ≡ used
    part_length = length-take-le used xs (accepted_records xs used c is).1

    part_table : records_of (take used xs) ≡ table_of xs (used / 8)
    part_table = rw part_length (table_take xs used (used / 8) (omega arith))

    part_check : check_of (take used xs) (length (take used xs)) ≡ Ok c
    part_check =
        let w = accepted_records xs used c is in
        rw part_length (records_checked (take used xs) used w.0 (omega (arith, part_length)) ∙ rw (table_take xs used (used / 8) (omega arith)) w.2)

    found_accepted : found_in xs used ≡ record { used = used; counts = c }
    unfolding found_in
    found_accepted = ap (found used) is

    pub read_check : claimed_check (part_in xs used) (counts_in xs used) ≡ check_of xs used
    read_check = rw (found_accepted, counts_in, is) (accepted_claimed (take used xs) c part_check)

    -- the table that the reading checks is the plain check's
    read_table : claimed_of (part_in xs used) (counts_in xs used) ≡ checked_of xs used
    unfolding claimed_of checked_of
    read_table = rw (found_accepted, counts_in, is, accepted_claimed (take used xs) c part_check, part_table)

    pub read_evaluate : (a : ℕ) → claimed_evaluate (part_in xs used) (counts_in xs used) a ≡ evaluate_of xs used a
    unfolding claimed_evaluate evaluate_of
    read_evaluate a = rw read_table

    pub read_report : claimed_report (part_in xs used) (counts_in xs used) ≡ report_of xs used
    unfolding claimed_report report_of
    read_report = rw read_table

    -- the RM3 table, of which both the reply and the bytes are told
    pub read_rm3 : (mode : Mode) (room : ℕ) → claimed_rm3 mode (part_in xs used) (counts_in xs used) room ≡ rm3_of mode xs used room
    unfolding claimed_rm3 rm3_of
    read_rm3 mode room = rw read_table

  -- no records and no counts: 3
  none_claimed : claimed_check [] (claim 0 0 0) ≡ Err refusal.Count
  unfolding claimed_check check_claimed check_kinds check_counted decode count first_from
  none_claimed = refl

  -- every question of a reading begins with this check
  pub read_refused : (w : Refusal) → check_of xs used ≡ Err w → claimed_check (part_in xs used) (counts_in xs used) ≡ Err refusal.Count
  unfolding found_in
  read_refused w is = rw (is, counts_in) none_claimed

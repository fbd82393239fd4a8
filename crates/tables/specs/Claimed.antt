-- What the check replies on records whose counts are claimed (SPEC 7): the used length is that of the bytes, and other counts are refused with 3.
use Rattle.std.specs.Prelude.{ℕ, ◌%◌, Bool, not, ◌||◌, List, length, eqb, if◌then◌else◌, Result, Ok, Err}
use Rattle.majority.specs.Check.{bad_counts, check_fields, check_kinds}
use Rattle.majority.specs.declared.Record.{Record}
use Rattle.majority.specs.declared.Counts.{Counts}
use Rattle.tables.specs.Bytes.{records_of}
use Rattle.tables.specs.Sound.{Table}
use Rattle.refusals.specs.declared.Refusal.{Refusal}
use Rattle.refusals.specs.declared.Refusal.TheVariants as refusal
use Rattle.refusals.specs.Reply.{◌>>=◌}

-- the counts claimed are not those found
abbrev pub other_counts : Counts → Counts → Bool
other_counts claim found =
    not (eqb claim.inputs found.inputs) || not (eqb claim.gates found.gates) || not (eqb claim.outputs found.outputs)

-- 3, for the counts found or for others claimed, then 4 and 5
unfoldable pub check_counted : Counts → List Record → Counts → Result Counts Refusal
check_counted claim rs found = if bad_counts found || other_counts claim found then Err refusal.Count else check_fields found rs

-- 2 to 5 of records whose counts are claimed
unfoldable pub check_claimed : Counts → List Record → Result Counts Refusal
check_claimed claim rs = do
  found ← check_kinds rs
  check_counted claim rs found

-- the check of all bytes of xs
unfoldable pub claimed_check : List ℕ → Counts → Result Counts Refusal
claimed_check xs claim = if not (eqb (length xs % 8) 0) then Err refusal.Length else check_claimed claim (records_of xs)

-- the table that it accepts
unfoldable pub claimed_of : List ℕ → Counts → Result Table Refusal
claimed_of xs claim = do
  c ← claimed_check xs claim
  Ok (record { records = records_of xs; counts = c })

-- What the check replies (SPEC 3): refusal 1 is about bytes, the others about the records that the bytes hold.
use Rattle.std.specs.Prelude.{ℕ, ◌/◌, ◌%◌, Bool, not, ◌||◌, List, length, ltb, eqb, if◌then◌else◌, Result, Ok, Err}
use Rattle.majority.specs.Check.{check_records}
use Rattle.majority.specs.declared.Counts.{Counts}
use Rattle.tables.specs.Bytes.{table_of}
use Rattle.tables.specs.Sound.{Table}
use Rattle.refusals.specs.Reply.{◌>>=◌}
use Rattle.refusals.specs.declared.Refusal.{Refusal}
use Rattle.refusals.specs.declared.Refusal.TheVariants as refusal

-- 1: the used length is no multiple of 8, or exceeds the buffer
abbrev pub bad_length : List ℕ → ℕ → Bool
bad_length xs used = not (eqb (used % 8) 0) || ltb (length xs) used

-- the check of the first used bytes of xs
unfoldable pub check_of : List ℕ → ℕ → Result Counts Refusal
check_of xs used = if bad_length xs used then Err refusal.Length else check_records (table_of xs (used / 8))

-- the table that the check accepts
unfoldable pub checked_of : List ℕ → ℕ → Result Table Refusal
checked_of xs used = do
  c ← check_of xs used
  Ok (record { records = table_of xs (used / 8); counts = c })

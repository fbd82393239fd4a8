-- The check with counts that are claimed or with none (SPEC 3 and 7), as one function makes it for both.
use Rattle.std.specs.Prelude.{ℕ, ◌/◌, List, if◌then◌else◌, Option, unwrap_or, Result, Err}
use Rattle.majority.specs.Check.{check_kinds}
use Rattle.majority.specs.declared.Record.{Record}
use Rattle.majority.specs.declared.Counts.{Counts}
use Rattle.tables.specs.Bytes.{table_of}
use Rattle.tables.specs.Calls.{bad_length}
use Rattle.tables.specs.Claimed.{check_counted}
use Rattle.refusals.specs.declared.Refusal.{Refusal}
use Rattle.refusals.specs.declared.Refusal.TheVariants as refusal
use Rattle.refusals.specs.Reply.{◌>>=◌}

-- 2 to 5 of records with such a claim
unfoldable pub check_under : Option Counts → List Record → Result Counts Refusal
check_under claim rs = do
  found ← check_kinds rs
  check_counted (unwrap_or claim found) rs found

-- the check of the first used bytes of xs with such a claim
unfoldable pub check_used : List ℕ → ℕ → Option Counts → Result Counts Refusal
check_used xs used claim = if bad_length xs used then Err refusal.Length else check_under claim (table_of xs (used / 8))

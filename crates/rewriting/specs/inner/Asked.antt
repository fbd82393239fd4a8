-- What a script is refused for before its first step (SPEC 5.5 and 5.7), or the counts of its table.
use Rattle.std.specs.Prelude.{ℕ, not, List, nat_lt, if◌then◌else◌, Result, Ok, Err}
use Rattle.majority.specs.declared.Counts.{Counts}
use Rattle.tables.specs.Calls.{check_of}
use Rattle.rewriting.specs.Script.{whole}
use Rattle.refusals.specs.declared.Refusal.{Refusal}
use Rattle.refusals.specs.declared.Refusal.TheVariants as refusal
use Rattle.refusals.specs.Reply.{◌>>=◌}

-- 1 to 5 of the table, then 12
unfoldable pub asked_script : List ℕ → ℕ → List ℕ → Result Counts Refusal
asked_script xs used steps = do
  c ← check_of xs used
  if not (whole steps) then Err refusal.Script else Ok c

-- and then 11, where there are fewer places than gates
unfoldable pub asked_follow : List ℕ → ℕ → List ℕ → ℕ → Result Counts Refusal
asked_follow xs used steps room = do
  c ← asked_script xs used steps
  if nat_lt room c.gates then Err refusal.Room else Ok c

-- What the questions reply on records whose counts are claimed (SPEC 7).
use Rattle.std.specs.Prelude.{ℕ, List, Result, Ok}
use Rattle.majority.specs.declared.Counts.{Counts}
use Rattle.tables.specs.Claimed.{claimed_of}
use Rattle.questions.specs.declared.Size.{Size}
use Rattle.questions.specs.Calls.{value_of, size_of}
use Rattle.refusals.specs.declared.Refusal.{Refusal}
use Rattle.refusals.specs.Reply.{◌>>=◌}

unfoldable pub claimed_evaluate : List ℕ → Counts → ℕ → Result ℕ Refusal
claimed_evaluate xs claim a = do
  t ← claimed_of xs claim
  value_of a t.records t.counts

unfoldable pub claimed_report : List ℕ → Counts → Result Size Refusal
claimed_report xs claim = do
  t ← claimed_of xs claim
  Ok (size_of t.records t.counts)

-- What `translate_as` replies on records whose counts are claimed, and the bytes that it leaves (SPEC 7).
use Rattle.std.specs.Prelude.{ℕ, List, length, Result}
use Rattle.majority.specs.declared.Record.{Record}
use Rattle.majority.specs.declared.Counts.{Counts}
use Rattle.translation.specs.declared.Mode.{Mode}
use Rattle.tables.specs.Claimed.{claimed_of}
use Rattle.tables.specs.Written.{in_bytes, after_reply}
use Rattle.rm3.specs.Calls.{rm3_in}
use Rattle.refusals.specs.declared.Refusal.{Refusal}
use Rattle.refusals.specs.Reply.{◌>>=◌}

-- the RM3 table of all bytes of xs, or the refusal
unfoldable pub claimed_rm3 : Mode → List ℕ → Counts → ℕ → Result (List Record) Refusal
claimed_rm3 mode xs claim room = do
  t ← claimed_of xs claim
  rm3_in mode room t.records t.counts

unfoldable pub claimed_translate : Mode → List ℕ → Counts → ℕ → Result ℕ Refusal
claimed_translate mode xs claim room = do
  ts ← claimed_rm3 mode xs claim room
  in_bytes ts

unfoldable pub claimed_bytes : Mode → List ℕ → Counts → List ℕ → List ℕ
claimed_bytes mode xs claim ys = after_reply (claimed_rm3 mode xs claim (length ys)) ys

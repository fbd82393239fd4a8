-- What each call replies, and the bytes that it leaves (SPEC 6).
use Rattle.std.specs.Prelude.{ℕ, List, length, Result, Ok}
use Rattle.translation.specs.Rm3.{depth3}
use Rattle.translation.specs.Translate.{translation, operations}
use Rattle.majority.specs.declared.Record.{Record}
use Rattle.majority.specs.declared.Counts.{Counts}
use Rattle.translation.specs.declared.Mode.{Mode}
use Rattle.translation.specs.declared.Mode.TheVariants.{Once}
use Rattle.tables.specs.Calls.{checked_of}
use Rattle.tables.specs.Written.{in_room, in_bytes, after_reply}
use Rattle.refusals.specs.declared.Refusal.{Refusal}
use Rattle.refusals.specs.Reply.{◌>>=◌}

-- the RM3 table of a table with these counts, for a buffer of so many bytes; 11 where it does not fit
abbrev pub rm3_in : Mode → ℕ → List Record → Counts → Result (List Record) Refusal
rm3_in mode room rs c = in_room room (translation mode c.inputs c.gates rs)

-- its length in bytes
abbrev pub length_in : Mode → ℕ → List Record → Counts → Result ℕ Refusal
length_in mode room rs c = do
  ts ← rm3_in mode room rs c
  in_bytes ts

-- the RM3 table of the first used bytes of xs, or the refusal
unfoldable pub rm3_of : Mode → List ℕ → ℕ → ℕ → Result (List Record) Refusal
rm3_of mode xs used room = do
  t ← checked_of xs used
  rm3_in mode room t.records t.counts

-- the reply is its length in bytes
unfoldable pub translate_of : Mode → List ℕ → ℕ → ℕ → Result ℕ Refusal
translate_of mode xs used room = do
  ts ← rm3_of mode xs used room
  in_bytes ts

unfoldable pub translate_bytes : Mode → List ℕ → ℕ → List ℕ → List ℕ
translate_bytes mode xs used ys = after_reply (rm3_of mode xs used (length ys)) ys

-- the depth of the RM3 table of a table with these counts, which both modes give
abbrev pub depth_in : List Record → Counts → ℕ
depth_in rs c = depth3 c.inputs (operations Once c.inputs c.gates rs) c.outputs (translation Once c.inputs c.gates rs)

unfoldable pub depth_of : List ℕ → ℕ → Result ℕ Refusal
depth_of xs used = do
  t ← checked_of xs used
  Ok (depth_in t.records t.counts)

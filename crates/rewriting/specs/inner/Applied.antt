-- What a step makes of a buffer whose table was checked (SPEC 5.4).
use Rattle.std.specs.Prelude.{◌≡◌, ℕ, ◌+◌, ◌*◌, List, length, Result, Ok}
use Rattle.rules.specs.Step.{rule_of, rewritten, step_by, step}
use Rattle.rules.specs.declared.Step.{Step}
use Rattle.majority.specs.declared.Record.{Record}
use Rattle.majority.specs.declared.Counts.{Counts}
use Rattle.tables.specs.Sound.{table_in}
use Rattle.rewriting.specs.Calls.{after_reply}
use Rattle.rewriting.specs.declared.applying.Change.{Change}
use Rattle.refusals.specs.declared.Refusal.{Refusal}
use Rattle.refusals.specs.Reply.{◌>>=◌}

-- the used length of a table with these counts
abbrev pub used_by : Counts → ℕ
used_by c = 8 * (c.inputs + c.gates + c.outputs)

-- the step by the rule that has its number
unfoldable pub change_of : Step → Result Change Refusal
change_of s = do
  rule ← rule_of s.rule
  Ok (record { rule = rule; gate = s.gate; a = s.a; b = s.b })

-- the table that a change that fits makes
abbrev pub changed : List ℕ → Counts → Change → List Record
changed xs c h = rewritten c.inputs (table_in xs c) h.rule h.gate h.a h.b

-- the table that a change makes of the one with these counts, or the refusal
abbrev pub change_in : List ℕ → Counts → Change → Result (List Record) Refusal
change_in xs c h = step_by (length xs) c.inputs c.gates (table_in xs c) h.rule h.gate h.a h.b

-- the same of a step
abbrev pub step_in : List ℕ → Counts → Step → Result (List Record) Refusal
step_in xs c s = step (length xs) c.inputs c.gates (table_in xs c) s

-- the used length of the table that is made, or the refusal
abbrev pub length_of : Result (List Record) Refusal → Result ℕ Refusal
length_of made = do
  t ← made
  Ok (8 * length t)

-- the change is made: ys are the bytes left, and `used` is the used length of the new table
pub record Rewritten (xs : List ℕ) (c : Counts) (h : Change) (used : ℕ) (ys : List ℕ) : Type 0 where
  pub reply : Ok used ≡ length_of (change_in xs c h)
  pub bytes : ys ≡ after_reply (change_in xs c h) (used_by c) xs

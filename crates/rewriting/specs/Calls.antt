-- What a step replies and which bytes it leaves (SPEC 5.4).
use Rattle.std.specs.Prelude.{ℕ, ◌*◌, ◌/◌, List, ◌++◌, length, drop, replicate, Result, Ok, Err}
use Rattle.rules.specs.Step.{step}
use Rattle.rules.specs.declared.Step.{Step}
use Rattle.majority.specs.declared.Record.{Record}
use Rattle.tables.specs.Bytes.{table_of, holding}
use Rattle.tables.specs.Calls.{check_of}
use Rattle.refusals.specs.declared.Refusal.{Refusal}
use Rattle.refusals.specs.Reply.{◌>>=◌}

-- the buffer xs with the table t at its front in place of the first `used` bytes: zeros where the table is shorter
unfoldable pub holding_instead : List Record → ℕ → List ℕ → List ℕ
holding_instead t used xs = holding t (replicate used 0 ++ drop used xs)

-- the bytes that a reply leaves: those of the new table, or all as they were
abbrev pub after_reply : Result (List Record) Refusal → ℕ → List ℕ → List ℕ
after_reply (Ok t) used xs = holding_instead t used xs
after_reply (Err w) used xs = xs

-- the table that a step makes of the one in the first `used` bytes of xs, or the refusal
unfoldable pub step_table : List ℕ → ℕ → Step → Result (List Record) Refusal
step_table xs used s = do
  c ← check_of xs used
  step (length xs) c.inputs c.gates (table_of xs (used / 8)) s

-- the reply: the new used length
unfoldable pub step_of : List ℕ → ℕ → Step → Result ℕ Refusal
step_of xs used s = do
  t ← step_table xs used s
  Ok (8 * length t)

unfoldable pub step_bytes : List ℕ → ℕ → Step → List ℕ
step_bytes xs used s = after_reply (step_table xs used s) used xs

-- What the questions reply (SPEC 3 and 4): the check's refusal, or the answer of the records that the bytes hold.
use Rattle.std.specs.Prelude.{ℕ, List, if◌then◌else◌, Result, Ok, Err}
use Rattle.majority.specs.Value.{bit_past, output_number}
use Rattle.majority.specs.Level.{depth}
use Rattle.majority.specs.declared.Record.{Record}
use Rattle.majority.specs.declared.Counts.{Counts}
use Rattle.tables.specs.Calls.{checked_of}
use Rattle.questions.specs.declared.Size.{Size}
use Rattle.refusals.specs.declared.Refusal.{Refusal}
use Rattle.refusals.specs.declared.Refusal.TheVariants as refusal
use Rattle.refusals.specs.Reply.{◌>>=◌}

-- the outputs' number under the assignment a, of a table with these counts
abbrev pub value_of : ℕ → List Record → Counts → Result ℕ Refusal
value_of a rs c = if bit_past a c.inputs then Err refusal.Assignment else Ok (output_number a c.inputs c.gates c.outputs rs)

unfoldable pub evaluate_of : List ℕ → ℕ → ℕ → Result ℕ Refusal
evaluate_of xs used a = do
  t ← checked_of xs used
  value_of a t.records t.counts

-- size and depth of a table with these counts
abbrev pub size_of : List Record → Counts → Size
size_of rs c = record { gates = c.gates; depth = depth c.inputs c.gates c.outputs rs }

unfoldable pub report_of : List ℕ → ℕ → Result Size Refusal
report_of xs used = do
  t ← checked_of xs used
  Ok (size_of t.records t.counts)

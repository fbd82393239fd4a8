-- The sheet of small tables (SPEC 8): a list of examples, each a question and the answer to it.
use Rattle.std.specs.Prelude.{ℕ, ◌*◌, ◌/◌, List, [], ◌∷◌, ◌++◌, map, length, replicate, Option, None, Result, Ok, Err}
use Rattle.majority.specs.Table.{record_of, input, gate as gate_in, output}
use Rattle.translation.specs.Rm3.{operation as operation_in}
use Rattle.majority.specs.declared.Record.{Record}
use Rattle.majority.specs.declared.Counts.{Counts}
use Rattle.tables.specs.Bytes.{encode, table_of}
use Rattle.tables.specs.Calls.{check_of}
use Rattle.questions.specs.Calls.{evaluate_of, report_of}
use Rattle.questions.specs.declared.Size.{Size}
use Rattle.translation.specs.declared.Mode.{Mode}
use Rattle.translation.specs.declared.Mode.TheVariants.{Anew, Once}
use Rattle.rm3.specs.Calls.{rm3_of}
use Rattle.rewriting.specs.Script.{Run, script_run}
use Rattle.refusals.specs.declared.Refusal.{Refusal}
use Rattle.refusals.specs.declared.Refusal.TheVariants as why

-- what can be asked of a table
pub data Question : Type 0 where
  -- is it accepted, as bytes of this used length?
  check : List ℕ → ℕ → Question
  -- what are its outputs, under each of these assignments?
  evaluate : List Record → List ℕ → Question
  -- what are its size and depth?
  report : List Record → Question
  -- what do these steps make of it, in a buffer that has room for fifteen gates more?
  run : List Record → List Record → Question
  -- what is its RM3 table, in a buffer with room for the longest?
  translate : Mode → List Record → Question

pub data Answer : Type 0 where
  -- accepted, with so many inputs, gates and outputs
  counts : ℕ → ℕ → ℕ → Answer
  -- refused, and why
  refusal : Refusal → Answer
  -- these replies, one after another
  replies : List (Result ℕ Refusal) → Answer
  -- so many gates, and this depth
  size : ℕ → ℕ → Answer
  -- so many steps are taken and this is the end, and this table is left
  leaves : ℕ → Option Refusal → List Record → Answer
  -- this RM3 table
  makes : List Record → Answer

abbrev pub check_answer : Result Counts Refusal → Answer
check_answer (Ok c) = counts c.inputs c.gates c.outputs
check_answer (Err w) = refusal w

abbrev pub size_answer : Result Size Refusal → Answer
size_answer (Ok w) = size w.gates w.depth
size_answer (Err w) = refusal w

abbrev pub run_answer : Run → Answer
run_answer r = leaves r.taken r.end (table_of r.bytes (r.used / 8))

abbrev pub rm3_answer : Result (List Record) Refusal → Answer
rm3_answer (Ok ts) = makes ts
rm3_answer (Err w) = refusal w

-- the answer, by the definitions
abbrev pub answer_to : Question → Answer
answer_to (check xs used) = check_answer (check_of xs used)
answer_to (evaluate rs assignments) = replies (map (evaluate_of (encode rs) (8 * length rs)) assignments)
answer_to (report rs) = size_answer (report_of (encode rs) (8 * length rs))
answer_to (run rs steps) = run_answer (script_run (encode rs ++ replicate 120 0) (8 * length rs) (encode steps))
answer_to (translate mode rs) = rm3_answer (rm3_of mode (encode rs) (8 * length rs) 25344)

pub record Example : Type 0 where
  pub question : Question
  pub answer : Answer

infix 80 ◌⟶◌
abbrev pub ◌⟶◌ : Question → Answer → Example
q ⟶ a = record { question = q; answer = a }

-- a whole table, as bytes
abbrev pub whole : List Record → Question
whole rs = check (encode rs) (8 * length rs)

-- the outputs' numbers, none refused
abbrev pub outputs : List ℕ → Answer
outputs vs = replies (map Ok vs)

abbrev pub up_to3 : List ℕ
up_to3 = 0 ∷ 1 ∷ 2 ∷ 3 ∷ []

abbrev pub up_to7 : List ℕ
up_to7 = 0 ∷ 1 ∷ 2 ∷ 3 ∷ 4 ∷ 5 ∷ 6 ∷ 7 ∷ []

-- the tables of the sheet are of block 0, and so are their operations
abbrev pub gate : ℕ → ℕ → ℕ → Record
gate x y z = gate_in 0 x y z

abbrev pub operation : ℕ → ℕ → ℕ → Record
operation x y z = operation_in 0 x y z

abbrev pub P1 : List Record
P1 = input ∷ input ∷ gate 0 2 4 ∷ output 6 ∷ []

abbrev pub P2 : List Record
P2 = input ∷ input ∷ input ∷ gate 2 4 6 ∷ output 8 ∷ []

abbrev pub P3 : List Record
P3 = input ∷ input ∷ input ∷ gate 3 5 7 ∷ output 8 ∷ []

abbrev pub P4 : List Record
P4 = input ∷ gate 2 2 0 ∷ output 5 ∷ []

abbrev pub P5 : List Record
P5 = input ∷ gate 2 3 0 ∷ output 5 ∷ []

abbrev pub P6 : List Record
P6 = input ∷ input ∷ input ∷ input ∷ gate 6 4 8 ∷ gate 2 4 10 ∷ output 12 ∷ []

abbrev pub P7 : List Record
P7 = input ∷ input ∷ input ∷ input ∷ input ∷ gate 6 8 10 ∷ gate 2 4 12 ∷ output 14 ∷ []

-- a step of a rule, whose number is a byte here, on a gate; rule 8 is sweep
abbrev pub on : ℕ → ℕ → Record
on rule g = record_of rule 0 g 0 0

abbrev pub swept : Record
swept = on 8 0

-- the adder
abbrev pub P8 : List Record
P8 = input ∷ input ∷ input ∷ gate 2 4 6 ∷ gate 2 4 7 ∷ gate 9 10 6 ∷ output 12 ∷ output 8 ∷ []

-- a voter step on gate g, with the nodes a and b
abbrev pub voting : ℕ → ℕ → ℕ → Record
voting g a b = record_of 9 0 g a b

-- two gates, a gate that reads both inverted, and one above it
abbrev pub P12 : List Record
P12 = input ∷ input ∷ gate 0 2 4 ∷ gate 1 2 4 ∷ gate 7 9 2 ∷ gate 11 8 4 ∷ output 12 ∷ output 9 ∷ []

abbrev pub P12voted : List Record
P12voted =
    input ∷ input ∷ gate 0 2 4 ∷ gate 1 2 4 ∷ gate 7 9 2
    ∷ gate 0 2 4 ∷ gate 1 2 4 ∷ gate 13 12 2 ∷ gate 17 13 4
    ∷ gate 0 2 4 ∷ gate 1 2 4 ∷ gate 21 23 2 ∷ gate 20 22 4
    ∷ gate 0 2 4 ∷ gate 1 2 4 ∷ gate 29 31 2 ∷ gate 30 30 4
    ∷ gate 18 26 34 ∷ output 36 ∷ output 9 ∷ []

-- the exclusive or of two gates that have both inputs 1 and 2: what holds of one of them at a time
abbrev pub P13 : List Record
P13 = input ∷ input ∷ input ∷ input ∷ gate 2 4 6 ∷ gate 2 4 8 ∷ gate 0 10 12 ∷ gate 1 10 12 ∷ gate 0 15 16 ∷ output 18 ∷ []

abbrev pub P13voted : List Record
P13voted =
    input ∷ input ∷ input ∷ input ∷ gate 2 4 6 ∷ gate 2 4 8 ∷ gate 0 10 12 ∷ gate 1 10 12
    ∷ gate 2 3 6 ∷ gate 2 3 8 ∷ gate 0 18 20 ∷ gate 1 18 20 ∷ gate 0 23 24
    ∷ gate 2 4 6 ∷ gate 2 4 8 ∷ gate 0 2 30 ∷ gate 1 2 30 ∷ gate 0 33 34
    ∷ gate 2 4 6 ∷ gate 2 4 8 ∷ gate 0 4 40 ∷ gate 1 4 40 ∷ gate 0 43 44
    ∷ gate 26 36 46 ∷ output 48 ∷ []

abbrev pub sheet : List Example
sheet =
    whole P1 ⟶ counts 2 1 1
    ∷ evaluate P1 up_to3 ⟶ outputs (0 ∷ 0 ∷ 0 ∷ 1 ∷ [])
    ∷ translate Anew P1 ⟶ makes (input ∷ input ∷ operation 2 1 3 ∷ output 4 ∷ [])
    ∷ evaluate P2 up_to7 ⟶ outputs (0 ∷ 0 ∷ 0 ∷ 1 ∷ 0 ∷ 1 ∷ 1 ∷ 1 ∷ [])
    ∷ translate Anew P2 ⟶ makes (input ∷ input ∷ input ∷ operation 0 3 1 ∷ operation 2 5 4 ∷ output 6 ∷ [])
    ∷ evaluate P3 up_to7 ⟶ outputs (1 ∷ 1 ∷ 1 ∷ 0 ∷ 1 ∷ 0 ∷ 0 ∷ 0 ∷ [])
    ∷ translate Anew P3 ⟶ makes (input ∷ input ∷ input ∷ operation 0 3 1 ∷ operation 0 4 1 ∷ operation 5 2 6 ∷ output 7 ∷ [])
    ∷ report P4 ⟶ size 1 1
    ∷ run P4 (on 2 2 ∷ []) ⟶ leaves 1 None (input ∷ gate 2 2 0 ∷ output 3 ∷ [])
    -- the gate is still there, and no output names it
    ∷ report (input ∷ gate 2 2 0 ∷ output 3 ∷ []) ⟶ size 1 0
    ∷ run P4 (on 2 2 ∷ swept ∷ []) ⟶ leaves 2 None (input ∷ output 3 ∷ [])
    ∷ translate Anew (input ∷ output 3 ∷ []) ⟶ makes (input ∷ operation 0 2 1 ∷ output 3 ∷ [])
    ∷ run P5 (on 10 2 ∷ []) ⟶ leaves 1 None (input ∷ gate 2 3 0 ∷ output 1 ∷ [])
    ∷ run P6 (on 3 6 ∷ []) ⟶ leaves 1 None (input ∷ input ∷ input ∷ input ∷ gate 6 4 8 ∷ gate 6 4 2 ∷ gate 8 4 12 ∷ output 14 ∷ [])
    ∷ run P6 (on 3 6 ∷ swept ∷ []) ⟶ leaves 2 None (input ∷ input ∷ input ∷ input ∷ gate 6 4 2 ∷ gate 8 4 10 ∷ output 12 ∷ [])
    ∷ run P7 (on 4 7 ∷ []) ⟶ leaves 1 None (input ∷ input ∷ input ∷ input ∷ input ∷ gate 6 8 10 ∷ gate 2 4 6 ∷ gate 2 4 8 ∷ gate 14 16 10 ∷ output 18 ∷ [])
    ∷ whole P8 ⟶ counts 3 3 2
    ∷ evaluate P8 up_to7 ⟶ outputs (0 ∷ 1 ∷ 1 ∷ 2 ∷ 1 ∷ 2 ∷ 2 ∷ 3 ∷ [])
    ∷ report P8 ⟶ size 3 2
    ∷ translate Anew P8 ⟶ makes (input ∷ input ∷ input ∷ operation 0 3 1 ∷ operation 2 5 4 ∷ operation 2 4 3 ∷ operation 7 6 4 ∷ output 8 ∷ output 6 ∷ [])
    ∷ translate Once P8 ⟶ makes (input ∷ input ∷ input ∷ operation 0 3 1 ∷ operation 2 5 4 ∷ operation 2 4 3 ∷ operation 7 6 4 ∷ output 8 ∷ output 6 ∷ [])
    -- P9: an empty table. P10: 12 bytes
    ∷ whole [] ⟶ refusal why.Count
    ∷ check (replicate 12 0) 12 ⟶ refusal why.Length
    -- P11: a voter on the gate of P1 itself
    ∷ run P1 (voting 3 1 2 ∷ []) ⟶ leaves 1 None (input ∷ input ∷ gate 0 2 3 ∷ gate 0 2 4 ∷ gate 0 2 4 ∷ gate 6 2 4 ∷ output 12 ∷ [])
    ∷ evaluate P12 up_to3 ⟶ outputs (2 ∷ 0 ∷ 1 ∷ 1 ∷ [])
    ∷ run P12 (voting 6 3 4 ∷ []) ⟶ leaves 1 None P12voted
    ∷ evaluate P12voted up_to3 ⟶ outputs (2 ∷ 0 ∷ 1 ∷ 1 ∷ [])
    -- under the assignment 6 inputs 1 to 4 are 0, 1, 1, 0
    ∷ evaluate P13 (6 ∷ []) ⟶ outputs (1 ∷ [])
    ∷ run P13 (voting 9 1 2 ∷ []) ⟶ leaves 1 None P13voted
    ∷ evaluate P13voted (6 ∷ []) ⟶ outputs (1 ∷ [])
    ∷ report P13voted ⟶ size 20 4
    ∷ []

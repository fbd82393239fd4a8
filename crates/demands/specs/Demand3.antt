-- What rewriting keeps (SPEC 5.6): take an accepted table, and run any scripts on it one after another. Then what its RM3 table keeps (SPEC 6.3).
use Rattle.std.specs.Prelude.{ℕ, ◌+◌, ◌*◌, ◌/◌, ◌≤◌, ◌<◌, ◌≡◌, List, [], ◌∷◌, length, take, Result, Ok}
use Rattle.majority.specs.Table.{Below, WellFormed}
use Rattle.majority.specs.Value.{output_value}
use Rattle.majority.specs.Level.{depth}
use Rattle.majority.specs.Check.{counts}
use Rattle.majority.specs.Edit.{node_record}
use Rattle.rules.specs.Step.{deepens_by, voters_by}
use Rattle.rules.specs.declared.Step.{Step}
use Rattle.translation.specs.declared.Mode.{Mode}
use Rattle.translation.specs.Rm3.{WellFormed3, output_value3, depth3}
use Rattle.majority.specs.declared.Record.{Record}
use Rattle.tables.specs.Bytes.{table_of}
use Rattle.tables.specs.Calls.{check_of}
use Rattle.rewriting.specs.Calls.{step_of, step_bytes}
use Rattle.rewriting.specs.Script.{Run, steps_of, script_run}
use Rattle.rm3.specs.Calls.{translate_of, translate_bytes}
use Rattle.refusals.specs.declared.Refusal.{Refusal}

-- how many of these steps are of a kind: f of one is 1 where it is, else 0
unfoldable pub counted : (Step → ℕ) → List Step → ℕ
counted f [] = 0
counted f (s ∷ steps) = f s + counted f steps

-- how many of them a script took: it took the first `taken` of its steps
abbrev pub counted_taken : (Step → ℕ) → List ℕ → Run → ℕ
counted_taken f script run = counted f (take run.taken (steps_of script))

-- what scripts leave: the bytes, the used length, how many steps of associativity and distributivity, rules 3, 4 and 5, they took, and apart from these how many voter steps, rule 9
pub record After : Type 0 where
  pub bytes : List ℕ
  pub used : ℕ
  pub deepened : ℕ
  pub voted : ℕ

-- the table that they leave
abbrev pub table_after : After → List Record
table_after after = table_of after.bytes (after.used / 8)

-- the scripts, one after another, on the buffer xs: each after the first has the bytes that the one before left and the used length that it replied, however it ended
unfoldable pub run_scripts : List ℕ → ℕ → List (List ℕ) → After
run_scripts xs used [] = record { bytes = xs; used = used; deepened = 0; voted = 0 }
run_scripts xs used (script ∷ scripts) =
    let run = script_run xs used script in
    let rest = run_scripts run.bytes run.used scripts in
    record {
      bytes = rest.bytes;
      used = rest.used;
      deepened = counted_taken deepens_by script run + rest.deepened;
      voted = counted_taken voters_by script run + rest.voted;
    }

-- from a first table of n inputs, m gates and o outputs to what scripts leave
pub record Keeps (n m o : ℕ) (first : List Record) (after : After) : Type 0 where
  -- how many gates there are now
  pub gates : ℕ
  -- the buffer still holds an accepted table, with as many inputs and outputs as at first
  pub holds : check_of after.bytes after.used ≡ Ok (counts n gates o)
  -- it is well formed
  pub formed : WellFormed n gates o (table_after after)
  -- every gate still reads only lower nodes
  pub lower : (g : ℕ) → n < g → g ≤ n + gates → Below g (node_record (table_after after) g)
  -- each output has its first value under each assignment
  pub outputs : (a j : ℕ) → j < o → output_value a n gates (table_after after) j ≡ output_value a n m first j
  -- depth has risen by at most one for each step of rules 3, 4 and 5 taken, and, counted apart, by at most one for each voter step taken
  pub deep : depth n gates o (table_after after) ≤ depth n m o first + after.deepened + after.voted

-- for every buffer, used length and scripts: where the first check accepts, all this is kept
unfoldable pub Demand3 : Type 0
Demand3 =
    (xs : List ℕ) (used : ℕ) (scripts : List (List ℕ)) (n m o : ℕ)
    → check_of xs used ≡ Ok (counts n m o)
    → Keeps n m o (table_of xs (used / 8)) (run_scripts xs used scripts)

-- from a first table of n inputs, m gates and o outputs to the one in the first `used` of these bytes
pub record KeepsDepth (n m o : ℕ) (first : List Record) (bytes : List ℕ) (used : ℕ) : Type 0 where
  pub gates : ℕ
  pub holds : check_of bytes used ≡ Ok (counts n gates o)
  pub same : depth n gates o (table_of bytes (used / 8)) ≡ depth n m o first

-- sweep keeps depth: for every buffer and used length that the check accepts, and every step of rule 8 that is taken there
unfoldable pub SweepKeepsDepth : Type 0
SweepKeepsDepth =
    (xs : List ℕ) (used : ℕ) (s : Step) (n m o next : ℕ)
    → check_of xs used ≡ Ok (counts n m o)
    → s.rule ≡ 8
    → step_of xs used s ≡ Ok next
    → KeepsDepth n m o (table_of xs (used / 8)) (step_bytes xs used s) next

-- what `translate` then replies in a mode, where out is the buffer given for the RM3 table
abbrev pub reply_after : Mode → After → List ℕ → Result ℕ Refusal
reply_after mode after out = translate_of mode after.bytes after.used (length out)

-- the records in the first l bytes that it leaves in out
abbrev pub rm3_after : Mode → After → List ℕ → ℕ → List Record
rm3_after mode after out l = table_of (translate_bytes mode after.bytes after.used out) (l / 8)

-- from the first table, by what scripts leave, to the RM3 table ts
pub record KeepsRm3 (n m o : ℕ) (first : List Record) (after : After) (ts : List Record) : Type 0 where
  -- how many gates there are now, and how many operations
  pub gates : ℕ
  pub operations : ℕ
  pub holds : check_of after.bytes after.used ≡ Ok (counts n gates o)
  -- every operation reads only lower operands
  pub formed : WellFormed3 n operations o ts
  -- each output has its first value under each assignment
  pub outputs : (a j : ℕ) → j < o → output_value3 a n operations ts j ≡ output_value a n m first j
  -- at most three operations a gate plus one an output
  pub few : operations ≤ 3 * gates + o
  -- a depth of at most twice the table's plus one
  pub deep : depth3 n operations o ts ≤ 2 * depth n gates o (table_after after) + 1

-- for every buffer, used length and scripts, for either mode, and for every buffer out: where the first check accepts and `translate` replies the length l, all this is so of the bytes that it
-- leaves
unfoldable pub Demand3Rm3 : Type 0
Demand3Rm3 =
    (xs : List ℕ) (used : ℕ) (scripts : List (List ℕ)) (mode : Mode) (out : List ℕ) (n m o l : ℕ)
    → check_of xs used ≡ Ok (counts n m o)
    → reply_after mode (run_scripts xs used scripts) out ≡ Ok l
    → KeepsRm3 n m o (table_of xs (used / 8)) (run_scripts xs used scripts) (rm3_after mode (run_scripts xs used scripts) out l)

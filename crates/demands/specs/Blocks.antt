-- Whose block it is (SPEC 5.6): take an accepted table, run any scripts on it one after another, and follow each gate of the first table. Then the gates that a step inserts.
use Rattle.std.specs.Prelude.{ℕ, ◌+◌, ◌/◌, ◌≤◌, ◌<◌, ◌≡◌, List, Ok}
use Rattle.majority.specs.Check.{counts}
use Rattle.rules.specs.Voter.{block_of}
use Rattle.rules.specs.Step.{inserted_by}
use Rattle.rules.specs.Followed.{stands}
use Rattle.rules.specs.declared.Step.{Step}
use Rattle.tables.specs.Bytes.{table_of}
use Rattle.tables.specs.Calls.{check_of}
use Rattle.rewriting.specs.Calls.{step_of, step_bytes}
use Rattle.demands.specs.Demand3.{table_after, run_scripts}
use Rattle.demands.specs.Probes.{probe_after}

-- gate g of the table in xs, of n inputs, which may be swept away by the scripts: while it is present, as node k, its block is b
abbrev pub HasBlock : ℕ → List ℕ → ℕ → List (List ℕ) → ℕ → ℕ → Type 0
HasBlock n xs used scripts g b = (k named : ℕ) → probe_after n xs used scripts g ≡ stands k named → block_of (table_after (run_scripts xs used scripts)) k ≡ b

-- a gate keeps its block: for every buffer, used length and scripts, where the first check accepts, each gate of the first table
unfoldable pub BlocksStay : Type 0
BlocksStay =
    (xs : List ℕ) (used : ℕ) (scripts : List (List ℕ)) (n m o : ℕ)
    → check_of xs used ≡ Ok (counts n m o)
    → (g : ℕ) → n < g → g ≤ n + m
    → HasBlock n xs used scripts g (block_of (table_of xs (used / 8)) g)

-- an inserted gate has the block of the step's gate, and keeps it: for every buffer and used length that the check accepts, every step that is taken there, and any scripts
-- that follow it, perhaps none
unfoldable pub InsertedBlocks : Type 0
InsertedBlocks =
    (xs : List ℕ) (used : ℕ) (s : Step) (scripts : List (List ℕ)) (n m o next : ℕ)
    → check_of xs used ≡ Ok (counts n m o)
    → step_of xs used s ≡ Ok next
    → (k : ℕ) → s.gate ≤ k → k < s.gate + inserted_by n s
    → HasBlock n (step_bytes xs used s) next scripts k (block_of (table_of xs (used / 8)) s.gate)

-- Probes inside (SPEC 5.6): take an accepted table, run any scripts on it one after another, and follow each gate of the first table. Then what `follow` tells of it (SPEC 5.7), and what a step leaves below its gate.
use Rattle.std.specs.Prelude.{ℕ, suc, ◌+◌, ◌/◌, ◌≤◌, ◌<◌, ◌≡◌, true, List, [], ◌∷◌, length, get_or, Ok}
use Rattle.majority.specs.Edge.{node_of}
use Rattle.majority.specs.Node.{edge_worth}
use Rattle.majority.specs.Value.{values, value}
use Rattle.majority.specs.Table.{record_at}
use Rattle.majority.specs.Check.{counts}
use Rattle.majority.specs.declared.Record.{Record}
use Rattle.rules.specs.Rules.{plain}
use Rattle.rules.specs.Followed.{Probe, stands, swept, followed, followed_edge, Shows}
use Rattle.rules.specs.declared.Step.{Step}
use Rattle.tables.specs.Bytes.{table_of}
use Rattle.tables.specs.Calls.{check_of}
use Rattle.rewriting.specs.Calls.{step_of, step_bytes}
use Rattle.rewriting.specs.Script.{Run, whole, script_run}
use Rattle.rewriting.specs.Through.{through_script}
use Rattle.rewriting.specs.Follow.{follow_run, places_after}
use Rattle.demands.specs.Demand3.{table_after, run_scripts}

-- what goes along with a table through scripts one after another, each on what the one before left
unfoldable pub through_scripts : {A : Type 0} → (List Record → Step → A → A) → List ℕ → ℕ → List (List ℕ) → A → A
through_scripts f xs used [] x = x
through_scripts f xs used (script ∷ scripts) x =
    let run = script_run xs used script in
    through_scripts f run.bytes run.used scripts (through_script f xs used script x)

-- the probe of gate g of the first table, of n inputs, after the scripts; and the edge that is kept for it
abbrev pub probe_after : ℕ → List ℕ → ℕ → List (List ℕ) → ℕ → Probe
probe_after n xs used scripts g = through_scripts (followed n) xs used scripts (stands g 0)

abbrev pub edge_after : ℕ → List ℕ → ℕ → List (List ℕ) → ℕ → ℕ
edge_after n xs used scripts g = through_scripts (followed_edge n) xs used scripts (plain g)

-- from the first table in xs, of n inputs, m gates and o outputs, to what the scripts leave
pub record KeepsProbes (n m o : ℕ) (xs : List ℕ) (used : ℕ) (scripts : List (List ℕ)) : Type 0 where
  -- how many gates there are now
  pub gates : ℕ
  pub holds : check_of (run_scripts xs used scripts).bytes (run_scripts xs used scripts).used ≡ Ok (counts n gates o)
  -- each gate of the first table: while it is present it is a gate, and its value under each assignment is its first value, or its inverse if an odd number of inversion steps taken named it
  pub shows : (g : ℕ) → n < g → g ≤ n + m
      → Shows n gates (table_of xs (used / 8)) (table_after (run_scripts xs used scripts)) g (probe_after n xs used scripts g) (edge_after n xs used scripts g)

-- for every buffer, used length and scripts: where the first check accepts, all this is so
unfoldable pub ProbesInside : Type 0
ProbesInside =
    (xs : List ℕ) (used : ℕ) (scripts : List (List ℕ)) (n m o : ℕ)
    → check_of xs used ≡ Ok (counts n m o)
    → KeepsProbes n m o xs used scripts

-- what `follow` leaves in place i, that of node n + 1 + i of the first table
abbrev pub place_after : List ℕ → ℕ → List ℕ → List ℕ → ℕ → ℕ
place_after xs used script ps i = get_or (places_after xs used script ps) i 0

-- from the first table in xs, of n inputs, m gates and o outputs, by the script, to the table and the places that `follow` leaves, where ps were the places given
pub record Tells (n m o : ℕ) (xs : List ℕ) (used : ℕ) (script ps : List ℕ) (run : Run) : Type 0 where
  -- how many gates there are now
  pub gates : ℕ
  pub holds : check_of run.bytes run.used ≡ Ok (counts n gates o)
  -- the place of each gate of the first table holds the edge that is kept for it
  pub edge : (i : ℕ) → i < m → place_after xs used script ps i ≡ edge_after n xs used (script ∷ []) (suc n + i)
  -- that is 0 where the gate was swept away, and there alone
  pub gone : (i : ℕ) → i < m → place_after xs used script ps i ≡ 0 → probe_after n xs used (script ∷ []) (suc n + i) ≡ swept
  pub swept_away : (i : ℕ) → i < m → probe_after n xs used (script ∷ []) (suc n + i) ≡ swept → place_after xs used script ps i ≡ 0
  -- else it names a gate, and has the first value of its own under each assignment
  pub names : (i : ℕ) → i < m → (place_after xs used script ps i ≡ 0 → ⊥) → (n < node_of (place_after xs used script ps i)) × (node_of (place_after xs used script ps i) ≤ n + gates)
  pub first : (a i : ℕ) → i < m → (place_after xs used script ps i ≡ 0 → ⊥)
      → edge_worth (values a) (value a (table_of run.bytes (run.used / 8))) (place_after xs used script ps i) ≡ value a (table_of xs (used / 8)) (suc n + i)
  -- places past those of the gates are as they were
  pub past : (i : ℕ) → m ≤ i → place_after xs used script ps i ≡ get_or ps i 0

-- for every buffer, used length, script and places: where the check accepts, the script is a whole number of steps long and each gate has a place, all this is so of what `follow` leaves
unfoldable pub PlacesTell : Type 0
PlacesTell =
    (xs : List ℕ) (used : ℕ) (script ps : List ℕ) (n m o : ℕ)
    → check_of xs used ≡ Ok (counts n m o)
    → whole script ≡ true
    → m ≤ length ps
    → Tells n m o xs used script ps (follow_run xs used script (length ps))

-- every step but sweep leaves what stood below g as it was: for every buffer and used length that the check accepts, and every step of another rule than 8 that is taken there, the record of each node below the step's gate
unfoldable pub LowerStay : Type 0
LowerStay =
    (xs : List ℕ) (used : ℕ) (s : Step) (n m o next : ℕ)
    → check_of xs used ≡ Ok (counts n m o)
    → (s.rule ≡ 8 → ⊥)
    → step_of xs used s ≡ Ok next
    → (j : ℕ) → suc j < s.gate
    → record_at (table_of (step_bytes xs used s) (next / 8)) j ≡ record_at (table_of xs (used / 8)) j

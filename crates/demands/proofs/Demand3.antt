-- What rewriting keeps, by the scripts one after another.
use Prim.Native.Nat.{ℕ, suc, ◌+◌, ◌-◌, ◌/◌}
use mathlib.Core.Path.{◌≡◌}
use mathlib.Core.List.{List, [], ◌∷◌}
use native.Mathlib.Omega.{arith}
use Rattle.majority.specs.Check.{counts}
use Rattle.tables.specs.Bytes.{table_of}
use Rattle.tables.specs.Calls.{check_of}
use Rattle.rewriting.specs.Script.{script_run}
use Rattle.rules.specs.Step.{deepens_by, voters_by}
use Rattle.rules.specs.Followed.{Probe, followed, followed_edge}
use Rattle.demands.specs.Demand3.{counted_taken, After, run_scripts, Keeps, Demand3}
use Rattle.demands.specs.Probes.{through_scripts}
use Rattle.demands.proofs.OneStep.{Between, between_same}
use Rattle.demands.proofs.OneScript.{between_sum, between_script}
use Rattle.std.specs.Prelude.{Ok}

pub between_scripts : (scripts : List (List ℕ)) (xs : List ℕ) (used n m o : ℕ) → check_of xs used ≡ Ok (counts n m o)
    → Between ((run_scripts xs used scripts).deepened + (run_scripts xs used scripts).voted) (through_scripts (followed n) xs used scripts) (through_scripts (followed_edge n) xs used scripts)
    n m o xs used (run_scripts xs used scripts).bytes (run_scripts xs used scripts).used
unfolding run_scripts through_scripts
between_scripts [] xs used n m o is = between_same xs used n m o is
between_scripts (script ∷ scripts) xs used n m o is =
    let p = between_script xs used n m o is script in
    let run = script_run xs used script in
    let rest = run_scripts run.bytes run.used scripts in
    between_sum (counted_taken deepens_by script run) (counted_taken voters_by script run) rest.deepened rest.voted p (between_scripts scripts run.bytes run.used n p.gates o p.holds)

-- what is kept between two buffers, phrase by phrase
keeps : {P : Probe → Probe} {E : ℕ → ℕ} (n m o : ℕ) (xs : List ℕ) (used : ℕ) (after : After) → Between (after.deepened + after.voted) P E n m o xs used after.bytes after.used
    → Keeps n m o (table_of xs (used / 8)) after
keeps n m o xs used after b = record {
  gates = b.gates;
  holds = b.holds;
  formed = b.kept.formed;
  lower = λ g p q. let e : suc (g - 1) ≡ g = omega arith in rw e at (b.kept.formed.gates (g - 1) (omega arith) (omega arith)).1;
  outputs = b.kept.outputs;
  deep = omega (arith, b.kept.deep);
}

pub demand_3 : Demand3
unfolding Demand3
demand_3 xs used scripts n m o is = keeps n m o xs used _ (between_scripts scripts xs used n m o is)

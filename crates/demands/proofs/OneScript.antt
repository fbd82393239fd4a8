-- A script takes a buffer that holds an accepted table to another such buffer; depth rises by at most one for each step of rules 3, 4, 5 and 9 taken, and probes show what they must.
use Prim.Native.Nat.{ℕ, suc, ◌+◌, ◌/◌, ◌%◌}
use mathlib.Core.Path.{◌≡◌, refl}
use mathlib.Core.Bool.{Bool, true, false, not}
use mathlib.Core.List.{List, [], ◌∷◌}
use native.Mathlib.Omega.{arith}
use lib.Dec.{eqb}
use lib.ListN.{length, take}
use Rattle.std.specs.Prelude.{if◌then◌else◌, Result, Ok, Err, Some}
use Rattle.majority.specs.Check.{counts}
use Rattle.rules.specs.Step.{deepens_by, voters_by}
use Rattle.rules.specs.Followed.{Probe, followed, followed_edge}
use Rattle.rules.specs.declared.Step.{Step}
use Rattle.majority.specs.declared.Record.{Record}
use Rattle.rules.proofs.Kept.{kept_then}
use Rattle.tables.specs.Bytes.{table_of}
use Rattle.tables.specs.Calls.{check_of}
use Rattle.rewriting.specs.Calls.{step_of, step_bytes}
use Rattle.rewriting.specs.Script.{Run, steps_of, by_reply, run_by, run_from, untaken, script_by, script_run}
use Rattle.rewriting.specs.Through.{through_steps, through_script}
use Rattle.demands.specs.Demand3.{counted, counted_taken}
use Rattle.demands.proofs.OneStep.{Between, between_same, between_step}
use Rattle.refusals.specs.declared.Refusal.{Refusal}
use Rattle.refusals.specs.declared.Refusal.TheVariants as refusal

-- one after another
module _ {P Q : Probe → Probe} {E F : ℕ → ℕ} {n m o : ℕ} {xs ys zs : List ℕ} {u v w : ℕ} where
  between_then : {δ ε : ℕ} (p : Between δ P E n m o xs u ys v) → Between ε Q F n p.gates o ys v zs w → Between (δ + ε) (λ x. Q (P x)) (λ x. F (E x)) n m o xs u zs w
  between_then p q = record {
    gates = q.gates;
    holds = q.holds;
    kept = kept_then p.kept q.kept;
    shows = λ first g y x before. q.shows first g (P y) (E x) (p.shows first g y x before);
  }

  -- by what is counted together and apart
  pub between_sum : (a b d e : ℕ) (p : Between (a + b) P E n m o xs u ys v) → Between (d + e) Q F n p.gates o ys v zs w
      → Between (a + d + (b + e)) (λ x. Q (P x)) (λ x. F (E x)) n m o xs u zs w
  between_sum a b d e p q = let same : a + b + (d + e) ≡ a + d + (b + e) = omega arith in rw same at (between_then p q)

-- the run took the first `more` of the steps, where `taken` were taken before
record Ran (taken : ℕ) (probe : Probe → Probe) (edge : ℕ → ℕ) (n m o : ℕ) (xs : List ℕ) (used : ℕ) (steps : List Step) (run : Run) : Type 0 where
  more : ℕ
  adds : run.taken ≡ taken + more
  between : Between (counted deepens_by (take more steps) + counted voters_by (take more steps)) probe edge n m o xs used run.bytes run.used

-- no step is taken
ran_none : (taken n m o : ℕ) (xs : List ℕ) (used : ℕ) (steps : List Step) (run : Run) → check_of xs used ≡ Ok (counts n m o)
    → run.taken ≡ taken → run.bytes ≡ xs → run.used ≡ used → Ran taken (λ p. p) (λ x. x) n m o xs used steps run
unfolding counted
ran_none taken n m o xs used steps run is t b u = record { more = 0; adds = omega arith; between = rw (b, u) (between_same xs used n m o is) }

-- what goes along, by the reply to the step s and by the steps after it
abbrev onward : {A : Type 0} → (List Record → Step → A → A) → List ℕ → ℕ → Step → List Step → Result ℕ Refusal → A → A
onward f xs used s steps reply x = by_reply reply (λ next. through_steps f (step_bytes xs used s) next steps (f (table_of xs (used / 8)) s x)) (λ w. x)

ran : (steps : List Step) (taken n m o : ℕ) (xs : List ℕ) (used : ℕ) → check_of xs used ≡ Ok (counts n m o)
    → Ran taken (through_steps (followed n) xs used steps) (through_steps (followed_edge n) xs used steps) n m o xs used steps (run_from taken xs used steps)
unfolding run_by through_steps counted
ran [] taken n m o xs used is = ran_none taken n m o xs used [] _ is refl refl refl
ran (s ∷ steps) taken n m o xs used is = go (step_of xs used s) refl (λ m' ys next is'. ran steps (taken + 1) n m' o ys next is')
  where
    go : (reply : Result ℕ Refusal) → step_of xs used s ≡ reply
        → ((m' : ℕ) (ys : List ℕ) (next : ℕ) → check_of ys next ≡ Ok (counts n m' o)
        → Ran (taken + 1) (through_steps (followed n) ys next steps) (through_steps (followed_edge n) ys next steps) n m' o ys next steps (run_from (taken + 1) ys next steps))
        → Ran taken (onward (followed n) xs used s steps reply) (onward (followed_edge n) xs used s steps reply) n m o xs used (s ∷ steps)
        (by_reply reply (λ next. run_from (taken + 1) (step_bytes xs used s) next steps) (λ w. record { taken = taken; end = Some w; used = used; bytes = xs }))
    go (Ok next) e rest =
        let p = between_step xs used n m o is s next e in
        let q = rest p.gates (step_bytes xs used s) next p.holds in
        record { more = suc q.more; adds = omega (arith, q.adds); between = between_sum (deepens_by s) (voters_by s) (counted deepens_by (take q.more steps)) (counted voters_by (take q.more steps)) p q.between }
    go (Err w) e rest = ran_none taken n m o xs used (s ∷ steps) _ is refl refl refl

-- a script, whatever it is
module _ (xs : List ℕ) (used n m o : ℕ) (is : check_of xs used ≡ Ok (counts n m o)) (script : List ℕ) where
  whole : Ran 0 (through_script (followed n) xs used script) (through_script (followed_edge n) xs used script) n m o xs used (steps_of script) (script_run xs used script)
  unfolding script_by through_script
  whole = rw is (go (not (eqb (length script % 8) 0)))
    where
      go : (uneven : Bool)
          → Ran 0 (λ p. if uneven then p else through_steps (followed n) xs used (steps_of script) p) (λ x. if uneven then x else through_steps (followed_edge n) xs used (steps_of script) x)
          n m o xs used (steps_of script) (if uneven then untaken refusal.Script xs used else run_from 0 xs used (steps_of script))
      go true = ran_none 0 n m o xs used (steps_of script) _ is refl refl refl
      go false = ran (steps_of script) 0 n m o xs used is

  pub between_script : Between (counted_taken deepens_by script (script_run xs used script) + counted_taken voters_by script (script_run xs used script))
      (through_script (followed n) xs used script) (through_script (followed_edge n) xs used script) n m o xs used (script_run xs used script).bytes (script_run xs used script).used
  between_script = let e : (script_run xs used script).taken ≡ whole.more = omega (arith, whole.adds) in rw e whole.between

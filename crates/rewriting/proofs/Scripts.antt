-- What a script is, from what is asked before its first step.
use Rattle.std.proofs.Common.{◌≡◌, ℕ, Bool, true, false, List, refl, ◌∙◌, arith}
use Rattle.std.specs.Prelude.{Result, Ok, Err}
use Rattle.majority.specs.declared.Counts.{Counts}
use Rattle.refusals.specs.declared.Refusal.{Refusal}
use Rattle.tables.specs.Calls.{check_of}
use Rattle.tables.proofs.AfterCheck.{checked_length}
use Rattle.rewriting.specs.Script.{script_by, script_run, run_from, steps_of, whole, untaken}
use Rattle.rewriting.specs.inner.Applied.{used_by}
use Rattle.rewriting.specs.inner.Asked.{asked_script}

module _ (xs : List ℕ) (used : ℕ) (steps : List ℕ) where
  -- what is asked, where it is met
  pub record Met (c : Counts) : Type 0 where
    pub accepted : check_of xs used ≡ Ok c
    pub even : whole steps ≡ true

  pub script_met : (c : Counts) → asked_script xs used steps ≡ Ok c → Met c
  unfolding asked_script
  script_met c e = go (check_of xs used) refl (whole steps) refl
    where
      go : (r : Result Counts Refusal) → check_of xs used ≡ r → (even : Bool) → whole steps ≡ even → Met c
      go (Ok d) is true h = let same = rw (is, h) at e in record { accepted = is ∙ same; even = h }
      go (Ok d) is false h = let other = rw (is, h) at e in let z : ◌≡◌ {A = ℕ} 0 1 = cc in absurd (omega arith)
      go (Err w) is even h = let other = rw is at e in let z : ◌≡◌ {A = ℕ} 0 1 = cc in absurd (omega arith)

  pub script_runs : (c : Counts) → asked_script xs used steps ≡ Ok c → run_from 0 xs (used_by c) (steps_of steps) ≡ script_run xs used steps
  unfolding script_by
  script_runs c e = let met = script_met c e in rw (← checked_length xs used c met.accepted, met.accepted, met.even)

  pub script_refused : (w : Refusal) → asked_script xs used steps ≡ Err w → untaken w xs used ≡ script_run xs used steps
  unfolding script_by asked_script
  script_refused w e = go (check_of xs used) refl (whole steps) refl
    where
      go : (r : Result Counts Refusal) → check_of xs used ≡ r → (even : Bool) → whole steps ≡ even → untaken w xs used ≡ script_run xs used steps
      go (Ok d) is true h = let other = rw (is, h) at e in let z : ◌≡◌ {A = ℕ} 0 1 = cc in absurd (omega arith)
      go (Ok d) is false h = let same = rw (is, h) at e in rw (is, h) (cc)
      go (Err v) is even h = let same = rw is at e in rw is (cc)

-- A converted script runs now as the script ran before: step by step, since converting renumbers steps and changes nothing else of them.
use Prim.Native.Nat.{ℕ, zero, suc, ◌+◌, ◌*◌, ◌/◌, ◌%◌, ◌≤◌, ◌<◌}
use mathlib.Core.Path.{◌≡◌, refl, sym, ap, ◌∙◌}
use mathlib.Core.Bool.{Bool, true, false}
use mathlib.Core.List.{List, ◌∷◌}
use native.Mathlib.Omega.{arith}
use lib.Dec.{eqb}
use lib.ListN.{length}
use Rattle.std.specs.Prelude.{if◌then◌else◌, Result, Ok, Err, Some}
use Rattle.majority.specs.declared.Counts.{Counts}
use Rattle.rules.specs.declared.Step.{Step}
use Rattle.tables.specs.Field.{put_field}
use Rattle.tables.specs.Bytes.{table_of}
use Rattle.tables.specs.Calls.{check_of}
use Rattle.tables.proofs.PutField.{bytes_length}
use Rattle.rewriting.specs.Calls.{step_of, step_bytes}
use Rattle.rewriting.specs.Script.{Run, step_at, steps_from, steps_of, by_reply, run_by, after_check, script_by}
use Rattle.demands.specs.Converted.{step_of_before, step_bytes_before, meets_opposite, renumbered, converted_from, Conversion}
use Rattle.demands.proofs.Renumbered.{step_stays, renumbered_keeps, renumbered_step}
use Rattle.demands.proofs.ConvertedStep.{converted_step, reply_converted, bytes_converted, reply_refused}
use Rattle.refusals.specs.declared.Refusal.{Refusal}

-- what renumbering a step from step i on keeps, converting keeps
converted_keeps : (P : List ℕ → Type 0) (k i : ℕ) (xs : List ℕ) (used : ℕ) (script : List ℕ) → ((j : ℕ) (ys : List ℕ) → i ≤ j → P ys → P (put_field ys (4 * j) 10)) → P script
    → P (converted_from i k xs used script)
unfolding converted_from
converted_keeps P zero i xs used script keeps p = p
converted_keeps P (suc k) i xs used script keeps p =
    let s = step_at script i in
    let t = meets_opposite (table_of xs (used / 8)) s in
    go (step_of_before xs used s)
    (λ next. converted_keeps P k (suc i) _ next _ (λ j ys h. keeps j ys (omega arith)) (renumbered_keeps i script P (keeps i script (omega arith) p) p t))
  where
    go : (r : Result ℕ Refusal) {f : ℕ → List ℕ} → ((next : ℕ) → P (f next)) → P (by_reply r f (λ w. script))
    go (Ok next) rest = rest next
    go (Err w) rest = p

converted_length : (k i : ℕ) (xs : List ℕ) (used : ℕ) (script : List ℕ) → length (converted_from i k xs used script) ≡ length script
converted_length k i xs used script = converted_keeps (λ ys. length ys ≡ length script) k i xs used script (λ j ys h e. bytes_length ys (4 * j) 10 0 ∙ e) refl

-- the steps before step i stay
converted_step_lem : (k i : ℕ) (xs : List ℕ) (used : ℕ) (script : List ℕ) (j : ℕ) → j < i → step_at (converted_from i k xs used script) j ≡ step_at script j
converted_step_lem k i xs used script j h = converted_keeps (λ ys. step_at ys j ≡ step_at script j) k i xs used script (λ l ys g e. step_stays l ys j (λ q. omega arith) ∙ e) refl

-- scripts with the same steps from step i on
same_steps : (k i : ℕ) (xs ys : List ℕ) → ((j : ℕ) → i ≤ j → step_at xs j ≡ step_at ys j) → steps_from xs i k ≡ steps_from ys i k
unfolding steps_from
same_steps zero i xs ys same = refl
same_steps (suc k) i xs ys same = rw (same i (omega arith), same_steps k (suc i) xs ys (λ j h. same j (omega arith)))

-- a step that is taken, and one that is not
module _ (reply : List ℕ → ℕ → Step → Result ℕ Refusal) (left : List ℕ → ℕ → Step → List ℕ) (taken : ℕ) (xs : List ℕ) (used : ℕ) (s : Step) (steps : List Step) where
  run_on : (next : ℕ) → reply xs used s ≡ Ok next → run_by reply left taken xs used (s ∷ steps) ≡ run_by reply left (taken + 1) (left xs used s) next steps
  unfolding run_by
  run_on next e = rw e

  run_off : (w : Refusal) → reply xs used s ≡ Err w → run_by reply left taken xs used (s ∷ steps) ≡ record { taken = taken; end = Some w; used = used; bytes = xs }
  unfolding run_by
  run_off w e = rw e

-- the steps as they run now, and as they ran before
abbrev now : ℕ → List ℕ → ℕ → List Step → Run
now = run_by step_of step_bytes

abbrev before : ℕ → List ℕ → ℕ → List Step → Run
before = run_by step_of_before step_bytes_before

-- no step of the script from step i on is numbered 10
abbrev Without10From : ℕ → List ℕ → Type 0
Without10From i script = (j : ℕ) → i ≤ j → j < length script / 8 → (step_at script j).rule ≡ 10 → ⊥

-- step i on the buffer xs
module _ (i : ℕ) (xs : List ℕ) (used : ℕ) (script : List ℕ) where
  abbrev s : Step
  s = step_at script i

  abbrev met : Bool
  met = meets_opposite (table_of xs (used / 8)) s

  -- the buffer and the script behind it
  abbrev ys : List ℕ
  ys = step_bytes_before xs used s

  abbrev onward : List ℕ
  onward = renumbered met i script

  onward_length : length onward ≡ length script
  onward_length = renumbered_keeps i script (λ zs. length zs ≡ length script) (bytes_length script (4 * i) 10 0) refl met

  onward_step : (j : ℕ) → suc i ≤ j → step_at onward j ≡ step_at script j
  onward_step j h = renumbered_keeps i script (λ zs. step_at zs j ≡ step_at script j) (step_stays i script j (λ e. omega arith)) refl met

  onward_without : Without10From i script → Without10From (suc i) onward
  onward_without none j h l e = none j (omega arith) (rw onward_length at l) (ap (λ (q : Step). q.rule) (sym (onward_step j h)) ∙ e)

  -- with k steps after it, from what these do
  turn : (k taken : ℕ) → i < length script / 8 → (s.rule ≡ 10 → ⊥) → (r : Result ℕ Refusal) → step_of_before xs used s ≡ r
      → ((next : ℕ) → now (taken + 1) ys next (steps_from (converted_from (suc i) k ys next onward) (suc i) k) ≡ before (taken + 1) ys next (steps_from onward (suc i) k))
      → now taken xs used (steps_from (by_reply r (λ next. converted_from (suc i) k ys next onward) (λ w. script)) i (suc k)) ≡ before taken xs used (steps_from script i (suc k))
  unfolding steps_from
  turn k taken h known (Ok next) e rest =
      let zs = converted_from (suc i) k ys next onward in
      let head : step_at zs i ≡ converted_step (table_of xs (used / 8)) s = converted_step_lem k (suc i) ys next onward i (omega arith) ∙ renumbered_step i script h met in
      run_on step_of step_bytes taken xs used (step_at zs i) (steps_from zs (suc i) k) next (ap (step_of xs used) head ∙ reply_converted xs used s known ∙ e)
      ∙ ap (λ (left : List ℕ). now (taken + 1) left next (steps_from zs (suc i) k)) (ap (step_bytes xs used) head ∙ bytes_converted xs used s known)
      ∙ rest next
      ∙ ap (before (taken + 1) ys next) (same_steps k (suc i) onward script onward_step)
      ∙ sym (run_on step_of_before step_bytes_before taken xs used s (steps_from script (suc i) k) next e)
  turn k taken h known (Err w) e rest =
      run_off step_of step_bytes taken xs used s (steps_from script (suc i) k) w (reply_refused xs used s known w e)
      ∙ sym (run_off step_of_before step_bytes_before taken xs used s (steps_from script (suc i) k) w e)

run_converted : (k i taken : ℕ) (xs : List ℕ) (used : ℕ) (script : List ℕ) → i + k ≤ length script / 8 → Without10From i script
    → now taken xs used (steps_from (converted_from i k xs used script) i k) ≡ before taken xs used (steps_from script i k)
unfolding run_by steps_from converted_from
run_converted zero i taken xs used script fits none = refl
run_converted (suc k) i taken xs used script fits none =
    turn i xs used script k taken (omega arith) (none i (omega arith) (omega arith)) (step_of_before xs used (step_at script i)) refl
    (λ next.
    run_converted k (suc i) (taken + 1) (ys i xs used script) next (onward i xs used script) (rw (onward_length i xs used script) (omega arith))
    (onward_without i xs used script none))

-- every whole step of a script
abbrev walked : List ℕ → ℕ → List ℕ → List ℕ
walked xs used script = converted_from 0 (length script / 8) xs used script

pub conversion : Conversion
unfolding Conversion script_by
conversion xs used script none = go (check_of xs used) (eqb (length script % 8) 0) refl
  where
    long : length (walked xs used script) ≡ length script
    long = converted_length (length script / 8) 0 xs used script

    same : now 0 xs used (steps_of (walked xs used script)) ≡ before 0 xs used (steps_of script)
    same =
        ap (λ (n : ℕ). now 0 xs used (steps_from (walked xs used script) 0 (n / 8))) long
        ∙ run_converted (length script / 8) 0 0 xs used script (omega arith) (λ j h. none j)

    go : (c : Result Counts Refusal) (even : Bool) → eqb (length script % 8) 0 ≡ even
        → after_check step_of step_bytes c xs used (if even then walked xs used script else script) ≡ after_check step_of_before step_bytes_before c xs used script
    go (Err w) even e = refl
    go (Ok c) true e = rw (same, long)
    go (Ok c) false e = rw e

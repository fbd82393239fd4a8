-- What following gates through a script is, from what is asked before its first step.
use Rattle.std.proofs.Common.{◌≡◌, ℕ, zero, suc, ◌≤◌, ◌/◌, Bool, true, false, List, [], ◌∷◌, ◌++◌, length, take, drop, nat_lt, refl, sym, ap, ◌∙◌, length-take-le, ltb-false, arith}
use Rattle.std.proofs.lemmas.List.{take-append-drop}
use Rattle.std.specs.Prelude.{Result, Ok, Err}
use Rattle.majority.specs.declared.Counts.{Counts}
use Rattle.majority.specs.declared.Record.{Record}
use Rattle.rules.specs.declared.Step.{Step}
use Rattle.rules.specs.Rules.{plain}
use Rattle.tables.specs.Bytes.{table_of}
use Rattle.tables.specs.Places.{in_places}
use Rattle.tables.proofs.InPlaces.{places_length}
use Rattle.rewriting.specs.Calls.{step_of, step_bytes}
use Rattle.refusals.specs.declared.Refusal.{Refusal}
use Rattle.tables.specs.Calls.{check_of}
use Rattle.tables.proofs.AfterCheck.{checked_length}
use Rattle.rewriting.specs.Script.{by_reply, run_from, steps_of, whole, untaken}
use Rattle.rewriting.specs.Through.{through_steps}
use Rattle.rewriting.specs.Follow.{first_places, followed_place, followed_places, follow_run, places_after}
use Rattle.rewriting.specs.inner.Applied.{used_by}
use Rattle.rewriting.specs.inner.Asked.{asked_script, asked_follow}
use Rattle.rewriting.proofs.Scripts.{script_met, script_runs, script_refused}

-- where the followed gates have the places in front, those behind stay
places_front : (f : ℕ → ℕ → ℕ) (g m : ℕ) (front back : List ℕ) → length front ≡ m → in_places f g m (front ++ back) ≡ in_places f g m front ++ back
unfolding in_places
places_front f g zero [] back h = refl
places_front f g zero (e ∷ front) back h = absurd (omega arith)
places_front f g (suc m) [] back h = absurd (omega arith)
places_front f g (suc m) (e ∷ front) back h = ap (λ (qs : List ℕ). f g e ∷ qs) (places_front f (suc g) m front back (omega arith))

through_front : (n m : ℕ) (steps : List Step) (xs : List ℕ) (used : ℕ) (front back : List ℕ) → length front ≡ m
    → through_steps (followed_places n m) xs used steps (front ++ back) ≡ through_steps (followed_places n m) xs used steps front ++ back
unfolding through_steps
through_front n m [] xs used front back h = refl
through_front n m (s ∷ steps) xs used front back h = go (step_of xs used s)
    (λ next. ap (through_steps (followed_places n m) (step_bytes xs used s) next steps) (places_front (followed_place n (table_of xs (used / 8)) s) (suc n) m front back h)
    ∙ through_front n m steps (step_bytes xs used s) next (followed_places n m (table_of xs (used / 8)) s front) back (places_length (followed_place n (table_of xs (used / 8)) s) (suc n) m front ∙ h))
  where
    t : List Record
    t = table_of xs (used / 8)

    go : (reply : Result ℕ Refusal)
        → ((next : ℕ) → through_steps (followed_places n m) (step_bytes xs used s) next steps (followed_places n m t s (front ++ back))
        ≡ through_steps (followed_places n m) (step_bytes xs used s) next steps (followed_places n m t s front) ++ back)
        → by_reply reply (λ next. through_steps (followed_places n m) (step_bytes xs used s) next steps (followed_places n m t s (front ++ back))) (λ w. front ++ back)
        ≡ by_reply reply (λ next. through_steps (followed_places n m) (step_bytes xs used s) next steps (followed_places n m t s front)) (λ w. front) ++ back
    go (Ok next) rest = rest next
    go (Err w) rest = refl

module _ (xs : List ℕ) (used : ℕ) (steps ps : List ℕ) where
  -- what is asked, where it is met
  pub record FollowMet (c : Counts) : Type 0 where
    pub script : asked_script xs used steps ≡ Ok c
    pub room : nat_lt (length ps) c.gates ≡ false

  pub follow_met : (c : Counts) → asked_follow xs used steps (length ps) ≡ Ok c → FollowMet c
  unfolding asked_follow
  follow_met c e = go (asked_script xs used steps) refl
    where
      with_room : (d : Counts) → asked_script xs used steps ≡ Ok d → (few : Bool) → nat_lt (length ps) d.gates ≡ few → FollowMet c
      with_room d is false h = let same = rw (is, h) at e in let one : d ≡ c = cc in record { script = is ∙ same; room = rw (← one) h }
      with_room d is true h = let other = rw (is, h) at e in let z : ◌≡◌ {A = ℕ} 0 1 = cc in absurd (omega arith)

      go : (r : Result Counts Refusal) → asked_script xs used steps ≡ r → FollowMet c
      go (Ok d) is = with_room d is (nat_lt (length ps) d.gates) refl
      go (Err w) is = let other = rw is at e in let z : ◌≡◌ {A = ℕ} 0 1 = cc in absurd (omega arith)

  pub follow_runs : (c : Counts) → asked_follow xs used steps (length ps) ≡ Ok c → run_from 0 xs (used_by c) (steps_of steps) ≡ follow_run xs used steps (length ps)
  unfolding follow_run
  follow_runs c e =
      let met = follow_met c e in
      let script = script_met xs used steps c met.script in
      rw (script.accepted, script.even, met.room) (script_runs xs used steps c met.script)

  -- of which the first are those of the gates
  pub follow_places : (c : Counts) → asked_follow xs used steps (length ps) ≡ Ok c
      → through_steps (followed_places c.inputs c.gates) xs (used_by c) (steps_of steps) (first_places c.inputs c.gates (take c.gates ps)) ++ drop c.gates ps ≡ places_after xs used steps ps
  unfolding places_after
  follow_places c e =
      let met = follow_met c e in
      let script = script_met xs used steps c met.script in
      let front = take c.gates ps in
      let back = drop c.gates ps in
      let room : c.gates ≤ length ps = ltb-false _ _ met.room in
      let long : length front ≡ c.gates = length-take-le c.gates ps room in
      let first : first_places c.inputs c.gates (front ++ back) ≡ first_places c.inputs c.gates front ++ back = places_front (λ g e. plain g) (suc c.inputs) c.gates front back long in
      let whole_is : front ++ back ≡ ps = take-append-drop c.gates ps in
      sym
      (rw (script.accepted, script.even, met.room, checked_length xs used c script.accepted)
      (ap (λ (qs : List ℕ). through_steps (followed_places c.inputs c.gates) xs (used_by c) (steps_of steps) (first_places c.inputs c.gates qs)) (sym whole_is)
      ∙ ap (through_steps (followed_places c.inputs c.gates) xs (used_by c) (steps_of steps)) first
      ∙ through_front c.inputs c.gates (steps_of steps) xs (used_by c) (first_places c.inputs c.gates front) back (places_length (λ g e. plain g) (suc c.inputs) c.gates front ∙ long)))

  -- no step is taken, and no place changed
  pub record Nothing (w : Refusal) : Type 0 where
    pub run : untaken w xs used ≡ follow_run xs used steps (length ps)
    pub places : ps ≡ places_after xs used steps ps

  pub follow_refused : (w : Refusal) → asked_follow xs used steps (length ps) ≡ Err w → Nothing w
  unfolding asked_follow asked_script follow_run places_after
  follow_refused w e = go (check_of xs used) refl (whole steps) refl
    where
      lacking : (d : Counts) → check_of xs used ≡ Ok d → whole steps ≡ true → (few : Bool) → nat_lt (length ps) d.gates ≡ few → Nothing w
      lacking d is even false h = let other = rw (is, even, h) at e in let z : ◌≡◌ {A = ℕ} 0 1 = cc in absurd (omega arith)
      lacking d is even true h = let same = rw (is, even, h) at e in record { run = rw (is, even, h) (cc); places = rw (is, even, h) }

      go : (r : Result Counts Refusal) → check_of xs used ≡ r → (even : Bool) → whole steps ≡ even → Nothing w
      go (Ok d) is true h = lacking d is h (nat_lt (length ps) d.gates) refl
      go (Ok d) is false h = let same = rw (is, h) at e in record { run = rw (is, h) (script_refused xs used steps w (rw (is, h) same)); places = rw (is, h) }
      go (Err v) is even h = let same = rw is at e in record { run = rw is (script_refused xs used steps w (rw is same)); places = rw is }

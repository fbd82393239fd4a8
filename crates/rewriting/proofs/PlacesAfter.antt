-- What stands in each place after gates were followed through a script: of a gate of the first table its edge, followed by itself; and past these what stood there.
use Rattle.std.proofs.Common.{◌≡◌, ℕ, suc, ◌+◌, ◌/◌, ◌<◌, ◌≤◌, true, List, [], ◌∷◌, length, get_or, refl, ap, ◌∙◌, arith, le-ltb}
use Rattle.majority.specs.declared.Counts.{Counts}
use Rattle.rules.specs.Rules.{plain}
use Rattle.rules.specs.Followed.{followed_edge}
use Rattle.rules.specs.declared.Step.{Step}
use Rattle.tables.specs.Bytes.{table_of}
use Rattle.tables.specs.Calls.{check_of}
use Rattle.rewriting.specs.Calls.{step_of, step_bytes}
use Rattle.rewriting.specs.Script.{by_reply, steps_of, whole, script_run}
use Rattle.rewriting.specs.Through.{through_steps, through_script}
use Rattle.rewriting.specs.Follow.{first_places, followed_place, followed_places, follow_run, places_after}
use Rattle.tables.proofs.InPlaces.{places_length, place_changed, place_left}
use Rattle.std.specs.Prelude.{Result, Ok, Err}
use Rattle.refusals.specs.declared.Refusal.{Refusal}

module _ (n m : ℕ) where
  -- the steps, one after another
  through_place : (steps : List Step) (xs : List ℕ) (used : ℕ) (ps : List ℕ) (j : ℕ) → j < m → j < length ps
      → get_or (through_steps (followed_places n m) xs used steps ps) j 0 ≡ through_steps (followed_edge n) xs used steps (get_or ps j 0)
  unfolding through_steps
  through_place [] xs used ps j h l = refl
  through_place (s ∷ steps) xs used ps j h l = go (step_of xs used s)
      (λ next. through_place steps (step_bytes xs used s) next (followed_places n m (table_of xs (used / 8)) s ps) j h (rw (places_length (followed_place n (table_of xs (used / 8)) s) (suc n) m ps) l)
      ∙ ap (through_steps (followed_edge n) (step_bytes xs used s) next steps) (place_changed (followed_place n (table_of xs (used / 8)) s) (suc n) m ps j h l))
    where
      go : (reply : Result ℕ Refusal)
          → ((next : ℕ) → get_or (through_steps (followed_places n m) (step_bytes xs used s) next steps (followed_places n m (table_of xs (used / 8)) s ps)) j 0
          ≡ through_steps (followed_edge n) (step_bytes xs used s) next steps (followed_edge n (table_of xs (used / 8)) s (get_or ps j 0)))
          → get_or (by_reply reply (λ next. through_steps (followed_places n m) (step_bytes xs used s) next steps (followed_places n m (table_of xs (used / 8)) s ps)) (λ w. ps)) j 0
          ≡ by_reply reply (λ next. through_steps (followed_edge n) (step_bytes xs used s) next steps (followed_edge n (table_of xs (used / 8)) s (get_or ps j 0))) (λ w. get_or ps j 0)
      go (Ok next) rest = rest next
      go (Err w) rest = refl

  through_rest : (steps : List Step) (xs : List ℕ) (used : ℕ) (ps : List ℕ) (j : ℕ) → m ≤ j → get_or (through_steps (followed_places n m) xs used steps ps) j 0 ≡ get_or ps j 0
  unfolding through_steps
  through_rest [] xs used ps j h = refl
  through_rest (s ∷ steps) xs used ps j h = go (step_of xs used s)
      (λ next. through_rest steps (step_bytes xs used s) next (followed_places n m (table_of xs (used / 8)) s ps) j h ∙ place_left (followed_place n (table_of xs (used / 8)) s) (suc n) m ps j h)
    where
      go : (reply : Result ℕ Refusal) → ((next : ℕ) → get_or (through_steps (followed_places n m) (step_bytes xs used s) next steps (followed_places n m (table_of xs (used / 8)) s ps)) j 0 ≡ get_or ps j 0)
          → get_or (by_reply reply (λ next. through_steps (followed_places n m) (step_bytes xs used s) next steps (followed_places n m (table_of xs (used / 8)) s ps)) (λ w. ps)) j 0 ≡ get_or ps j 0
      go (Ok next) rest = rest next
      go (Err w) rest = refl

-- where the table is accepted, the script a whole number of steps long, and a place there for each gate
module _ (xs : List ℕ) (used : ℕ) (script ps : List ℕ) (c : Counts) (is : check_of xs used ≡ Ok c) (even : whole script ≡ true) (room : c.gates ≤ length ps) where
  open c use {inputs as n, gates as m}

  -- it runs as a script does
  pub follow_run_lem : follow_run xs used script (length ps) ≡ script_run xs used script
  unfolding follow_run
  follow_run_lem = rw (is, even, le-ltb (length ps) m room)

  after : places_after xs used script ps ≡ through_steps (followed_places n m) xs used (steps_of script) (first_places n m ps)
  unfolding places_after
  after = rw (is, even, le-ltb (length ps) m room)

  -- the place of a gate
  pub place_after_lem : (i : ℕ) → i < m → get_or (places_after xs used script ps) i 0 ≡ through_script (followed_edge n) xs used script (plain (suc n + i))
  unfolding through_script
  place_after_lem i h =
      ap (λ (qs : List ℕ). get_or qs i 0) after
      ∙ through_place n m (steps_of script) xs used (first_places n m ps) i h (rw (places_length (λ g e. plain g) (suc n) m ps) (omega arith))
      ∙ rw (even, place_changed (λ g e. plain g) (suc n) m ps i h (omega arith))

  -- and one past those of the gates
  pub place_past : (i : ℕ) → m ≤ i → get_or (places_after xs used script ps) i 0 ≡ get_or ps i 0
  place_past i h =
      ap (λ (qs : List ℕ). get_or qs i 0) after ∙ through_rest n m (steps_of script) xs used (first_places n m ps) i h ∙ place_left (λ g e. plain g) (suc n) m ps i h

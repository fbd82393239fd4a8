-- Following the gates (SPEC 5.7): a script, and with it a place for each gate of the first table. It holds the edge that has the gate's first value now, or 0 where the gate was swept away.
use Rattle.std.specs.Prelude.{ℕ, suc, Bool, false, not, ◌&&◌, ◌||◌, List, length, nat_lt, if◌then◌else◌, Result, Ok, Err}
use Rattle.majority.specs.declared.Record.{Record}
use Rattle.majority.specs.declared.Counts.{Counts}
use Rattle.rules.specs.Rules.{plain}
use Rattle.rules.specs.Followed.{followed_edge}
use Rattle.rules.specs.declared.Step.{Step}
use Rattle.tables.specs.Calls.{check_of}
use Rattle.tables.specs.Places.{in_places}
use Rattle.rewriting.specs.Script.{Run, steps_of, whole, untaken, script_run}
use Rattle.rewriting.specs.Through.{through_steps}
use Rattle.refusals.specs.declared.Refusal.{Refusal}
use Rattle.refusals.specs.declared.Refusal.TheVariants as refusal

-- the places of the m gates of a table of n inputs, before any step: of each gate the edge to it
abbrev pub first_places : ℕ → ℕ → List ℕ → List ℕ
first_places n m ps = in_places (λ g e. plain g) (suc n) m ps

-- what a step taken on the table rs makes of the place of node g, which held the edge e: what becomes of e, which names the node's number of today
abbrev pub followed_place : ℕ → List Record → Step → ℕ → ℕ → ℕ
followed_place n rs s g e = followed_edge n rs s e

-- and so of each of the places
abbrev pub followed_places : ℕ → ℕ → List Record → Step → List ℕ → List ℕ
followed_places n m rs s ps = in_places (followed_place n rs s) (suc n) m ps

-- of so many places there are fewer than the table has gates. This comes after 12
abbrev pub lacks : Result Counts Refusal → List ℕ → ℕ → Bool
lacks (Ok c) script room = whole script && nat_lt room c.gates
lacks (Err w) script room = false

-- the reply and the bytes: those of the script, or 11 where there are fewer places than gates
unfoldable pub follow_run : List ℕ → ℕ → List ℕ → ℕ → Run
follow_run xs used script room = if lacks (check_of xs used) script room then untaken refusal.Room xs used else script_run xs used script

-- the places: as they were where no step could be taken at all
abbrev pub places_by : Result Counts Refusal → List ℕ → ℕ → List ℕ → List ℕ → List ℕ
places_by (Err w) xs used script ps = ps
places_by (Ok c) xs used script ps =
    if not (whole script) || nat_lt (length ps) c.gates then ps
    else through_steps (followed_places c.inputs c.gates) xs used (steps_of script) (first_places c.inputs c.gates ps)

unfoldable pub places_after : List ℕ → ℕ → List ℕ → List ℕ → List ℕ
places_after xs used script ps = places_by (check_of xs used) xs used script ps

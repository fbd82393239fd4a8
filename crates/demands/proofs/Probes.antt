-- What probes inside a table show after any scripts, what the places that `follow` leaves tell, and what a step leaves below its gate.
use Prim.Native.Nat.{ℕ, suc, ◌+◌, ◌/◌, ◌≤◌, ◌<◌}
use mathlib.Core.Path.{◌≡◌, refl, ap, ◌∙◌}
use mathlib.Core.Bool.{true}
use mathlib.Core.List.{List, [], ◌∷◌}
use native.Mathlib.Omega.{arith}
use lib.ListN.{length}
use Rattle.majority.specs.Edge.{node_of}
use Rattle.majority.specs.Node.{edge_worth}
use Rattle.majority.specs.Value.{values, value}
use Rattle.majority.specs.Check.{counts}
use Rattle.majority.specs.declared.Record.{Record}
use Rattle.rules.specs.Rules.{plain}
use Rattle.rules.specs.Followed.{Probe, stands, swept, odd, edge_of, Shows}
use Rattle.rules.proofs.Pair.{edge_to_node}
use Rattle.rules.proofs.Followed.{shows_first}
use Rattle.tables.specs.Bytes.{table_of}
use Rattle.tables.specs.Calls.{check_of}
use Rattle.rewriting.specs.Script.{whole, script_run}
use Rattle.rewriting.proofs.PlacesAfter.{follow_run_lem, place_after_lem, place_past}
use Rattle.demands.specs.Demand3.{table_after, run_scripts}
use Rattle.demands.specs.Probes.{through_scripts, probe_after, edge_after, KeepsProbes, ProbesInside, place_after, Tells, PlacesTell, LowerStay}
use Rattle.demands.proofs.OneStep.{lower_between}
use Rattle.demands.proofs.Demand3.{between_scripts}
use Rattle.std.specs.Prelude.{Ok}

pub probes_inside : ProbesInside
unfolding ProbesInside
probes_inside xs used scripts n m o is =
    let first : List Record = table_of xs (used / 8) in
    let b = between_scripts scripts xs used n m o is in
    record { gates = b.gates; holds = b.holds; shows = λ g from upto. b.shows first g (stands g 0) (plain g) (shows_first first from upto) }

-- what is kept for a probe, as its edge tells
module _ {n gates : ℕ} {first rs : List Record} {g e : ℕ} where
  edge_gone : (p : Probe) → Shows n gates first rs g p e → e ≡ 0 → p ≡ swept
  edge_gone swept is none = refl
  edge_gone (stands k named) is none = absurd (omega (arith, (is.present k named refl).from, edge_to_node (odd named) k, is.edge))

  edge_there : (p : Probe) → Shows n gates first rs g p e → (e ≡ 0 → ⊥) → (n < node_of e) × (node_of e ≤ n + gates) × ((a : ℕ) → edge_worth (values a) (value a rs) e ≡ value a first g)
  edge_there swept is some = absurd (some is.edge)
  edge_there (stands k named) is some =
      let here = is.present k named refl in
      let at = ap node_of is.edge ∙ edge_to_node (odd named) k in
      (omega (arith, at, here.from), omega (arith, at, here.upto), λ a. rw is.edge (here.edge a))

module _ (xs : List ℕ) (used : ℕ) (script ps : List ℕ) (n m o : ℕ) (is : check_of xs used ≡ Ok (counts n m o)) (even : whole script ≡ true) (room : m ≤ length ps) where
  probes : KeepsProbes n m o xs used (script ∷ [])
  unfolding ProbesInside
  probes = probes_inside xs used (script ∷ []) n m o is

  place_edge : (i : ℕ) → i < m → place_after xs used script ps i ≡ edge_after n xs used (script ∷ []) (suc n + i)
  unfolding through_scripts
  place_edge i h = place_after_lem xs used script ps (counts n m o) is even room i h

  place_shows : (i : ℕ) → i < m
      → Shows n probes.gates (table_of xs (used / 8)) (table_after (run_scripts xs used (script ∷ []))) (suc n + i) (probe_after n xs used (script ∷ []) (suc n + i)) (place_after xs used script ps i)
  place_shows i h = rw (place_edge i h) (probes.shows (suc n + i) (omega arith) (omega arith))

  -- of what the script leaves
  tells : Tells n m o xs used script ps (script_run xs used script)
  unfolding run_scripts
  tells = record {
    gates = probes.gates;
    holds = probes.holds;
    edge = place_edge;
    gone = λ i h. edge_gone _ (place_shows i h);
    swept_away = λ i h e. (place_shows i h).edge ∙ ap edge_of e;
    names = λ i h some. let w = edge_there _ (place_shows i h) some in (w.0, w.1);
    first = λ a i h some. (edge_there _ (place_shows i h) some).2 a;
    past = place_past xs used script ps (counts n m o) is even room;
  }

pub places_tell : PlacesTell
unfolding PlacesTell
places_tell xs used script ps n m o is even room = rw (follow_run_lem xs used script ps (counts n m o) is even room) (tells xs used script ps n m o is even room)

pub lower_stay : LowerStay
unfolding LowerStay
lower_stay xs used s n m o next is other e j h = lower_between xs used n m o is s next other e j h

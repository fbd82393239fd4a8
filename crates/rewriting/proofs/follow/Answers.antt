-- `rewriting::follow` meets its contract: the places of the gates are followed, and those behind stay.
use Rattle.std.proofs.Common.{◌≡◌, ℕ, suc, List, ◌++◌, length, take, drop, sym, ap, ◌∙◌, length-take-le, arith}
use Rattle.rules.specs.Rules.{plain}
use Rattle.tables.proofs.Sound.{sound_limits}
use Rattle.tables.proofs.InPlaces.{places_length}
use Rattle.rewriting.specs.Follow.{first_places}
use Rattle.rewriting.proofs.FollowedPlaces.{places_first}
use Rattle.rewriting.proofs.Follows.{follow_places}
use Rattle.rewriting.proofs.follow.Goals as goal

pub start-requires : goal.start-requires
start-requires c =
    let limits = sound_limits c.in-Ok.ensures.sound in
    omega (arith, length-take-le c.in-Ok.counts.gates c.args.places.now c.in-Ok.ensures.room, limits.inputs, limits.gates)

pub run-requires : goal.run-requires
run-requires c =
    let n = c.in-Ok.counts.inputs in
    let m = c.in-Ok.counts.gates in
    let front = take m c.args.places.now in
    let long : length front ≡ m = length-take-le m c.args.places.now c.in-Ok.ensures.room in
    let first : c.start.new.places ≡ first_places n m front = c.start.ensures ∙ ap (λ (k : ℕ). first_places n k front) long in
    let all : length c.start.new.places ≡ m = ap length first ∙ places_length (λ g e. plain g) (suc n) m front ∙ long in
    rw (c.hold.ensures.counts, all, first) (places_first n m front (omega (arith, long)))

pub returns-in-Ok-clause-places : goal.returns-in-Ok-clause-places
returns-in-Ok-clause-places c =
    let n = c.in-Ok.counts.inputs in
    let m = c.in-Ok.counts.gates in
    let ps = c.args.places.now in
    let front = take m ps in
    let long : length front ≡ m = length-take-le m ps c.in-Ok.ensures.room in
    let first : c.start.new.places ≡ first_places n m front = c.start.ensures ∙ ap (λ (k : ℕ). first_places n k front) long in
    let all : length c.start.new.places ≡ m = ap length first ∙ places_length (λ g e. plain g) (suc n) m front ∙ long in
    let run = rw (c.hold.ensures.counts, c.hold.ensures.bytes, all, first) at c.run.ensures.places in
    ap (λ (qs : List ℕ). qs ++ drop m ps) run ∙ follow_places c.args.s.now c.args.used c.args.steps.now ps c.in-Ok.counts (sym c.ask_follow.ensures.reply ∙ c.in-Ok.is)

-- `EditedTable::take_edit` meets its contract: the step as it is taken, and each place as its rule changes edges.
use Rattle.std.proofs.Common.{ℕ, Bool, length, sym, ap, ◌∙◌, arith}
use Rattle.rules.specs.Step.{inserted}
use Rattle.tables.proofs.Sound.{sound_limits}
use Rattle.tables.specs.Places.{in_places}
use Rattle.rewriting.specs.inner.Places.{edited_edge}
use Rattle.rewriting.proofs.FollowedPlaces.{places_within, past_taken, edited_places}
use Rattle.rewriting.proofs.edited_table.EditedTable.take_edit.Goals as goal

pub edit_places-requires-clause-within : goal.edit_places-requires-clause-within
edit_places-requires-clause-within c = let limits = sound_limits c.args.self.now.sound in
    places_within (omega arith) c.requires.within

pub returns-clause-places : goal.returns-clause-places
returns-clause-places c = let a = c.args in
    let e = sym c.take.ensures.stepped.reply ∙ c.in_ok-used.was in
    c.edit_places.ensures
    ∙ ap (λ (k : ℕ). in_places (λ g x. edited_edge a.step.gate k c.is_inversion.result x) 0 (length a.places.now) a.places.now) c.inserted-more.ensures
    ∙ ap (λ (t : Bool). in_places (λ g x. edited_edge a.step.gate (inserted a.self.now.counts.inputs a.rule a.step.gate) t x) 0 (length a.places.now) a.places.now) c.is_inversion.ensures
    ∙ edited_places a.self.now.sound a.step _ e a.rule c.requires.known c.requires.other _ _
    ∙ sym (past_taken _ _ _ _ _ _ e)

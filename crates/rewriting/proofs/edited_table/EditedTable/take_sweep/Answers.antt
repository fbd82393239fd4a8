-- `EditedTable::take_sweep` meets its contract: the step as it is taken, and each place by the new numbers of the table before it.
use Rattle.std.proofs.Common.{sym, ◌∙◌, arith}
use Rattle.tables.proofs.Sound.{fresh, sound_limits}
use Rattle.rewriting.proofs.FollowedPlaces.{places_within, past_taken, swept_places}
use Rattle.rewriting.proofs.edited_table.EditedTable.take_sweep.Goals as goal

pub number_left-requires : goal.number_left-requires
number_left-requires c = fresh 0

pub sweep_places-requires-clause-within : goal.sweep_places-requires-clause-within
sweep_places-requires-clause-within c = let limits = sound_limits c.args.self.now.sound in
    places_within (omega arith) c.requires.within

pub returns-clause-places : goal.returns-clause-places
returns-clause-places c = let a = c.args in
    let e = sym c.take.ensures.stepped.reply ∙ c.in_ok-used.was in
    c.sweep_places.ensures
    ∙ swept_places a.self.now.sound a.step _ e a.rule c.requires.known c.requires.sweep (rw c.table.ensures at c.number_left.ensures) _ _ c.requires.within
    ∙ sym (past_taken _ _ _ _ _ _ e)

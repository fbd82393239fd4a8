-- `sweeping::sweep` meets its contract: the reached nodes are marked, the marked gates close up, and the rest is cleared.
use Rattle.std.proofs.Common.{false, arith}
use Rattle.rules.proofs.Sweep.{left_fewer}
use Rattle.tables.proofs.Sound.{fresh, sound_accepted}
use Rattle.rewriting.proofs.Swept.{outputs_begin, swept}
use Rattle.rewriting.proofs.sweeping.sweep.Goals as goal

pub mark_reached-requires : goal.mark_reached-requires
mark_reached-requires c = fresh false

pub overflow_add-place : goal.overflow_add-place
overflow_add-place c = let begin = outputs_begin c.requires c.close_up-place.ensures.closed _ c.close_up-place.ensures.place in
    omega (arith, c.requires.fits, left_fewer (sound_accepted c.requires).formed)

pub overflow_sub-result : goal.overflow_sub-result
overflow_sub-result c = let begin = outputs_begin c.requires c.close_up-place.ensures.closed _ c.close_up-place.ensures.place in
    omega arith

pub returns : goal.returns
returns c = swept c.requires c.close_up-place.ensures.closed _ c.close_up-place.ensures.place c.clear.ensures

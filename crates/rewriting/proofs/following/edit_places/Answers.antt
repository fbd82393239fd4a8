-- `following::edit_places` meets its contract. Where nothing is put before the gate and it is not inverted, each stays. The loop's invariant: the places before place i are changed.
use Rattle.std.proofs.Common.{length, false, not, eqb, sym, eqb-true}
use borrow.Author.Tests.{not-true}
use Rattle.majority.proofs.Logic.{both}
use Rattle.rewriting.specs.inner.Places.{edited_edge}
use Rattle.tables.proofs.InPlaces.{places_still}
use Rattle.rewriting.proofs.FollowedPlaces.{edited_none}
use Rattle.rewriting.proofs.following.edit_places.Goals as goal

pub returns-then-inverts-more : goal.returns-then-inverts-more
returns-then-inverts-more c = let a = c.args in
    let w = both (not a.inverts) (eqb a.more 0) c.if-inverts-more.true in
    rw (not-true a.inverts w.0, eqb-true a.more 0 w.1) (sym (places_still (edited_edge a.gate 0 false) (length a.places.now) a.places.now (edited_none a.gate) 0))

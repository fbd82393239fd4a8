-- `following::edit_places` meets its contract. Where nothing is put before the gate and it is not inverted, each stays. The loop's invariant: the places so far are changed.
use Rattle.std.proofs.Common.{◌≡◌}
use Rattle.tables.specs.Places.{in_places}
use Rattle.rewriting.specs.inner.Places.{edited_edge}
use Rattle.rewriting.proofs.following.edit_places.Given as goal

abbrev pub invariant-loop-place : goal.invariant-loop-place
invariant-loop-place l = l.place-items ≡ in_places (λ g e. edited_edge l.gate l.more l.inverts e) 0 l.place-index l.initial.place-items

-- `following::sweep_places` meets its contract. The loop's invariant: the places so far are changed.
use Rattle.std.proofs.Common.{◌≡◌}
use Rattle.tables.specs.Places.{in_places}
use Rattle.rewriting.specs.inner.Places.{left_by}
use Rattle.rewriting.proofs.following.sweep_places.Given as goal

abbrev pub invariant-loop-place : goal.invariant-loop-place
invariant-loop-place l = l.place-items ≡ in_places (λ g e. left_by l.numbers e) 0 l.place-index l.initial.place-items

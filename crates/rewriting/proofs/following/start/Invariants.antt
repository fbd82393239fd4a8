-- `following::start` meets its contract. The loop's invariant: the places of the gates before gate i hold the edges to them.
use Rattle.std.proofs.Common.{◌≡◌}
use Rattle.rewriting.specs.Follow.{first_places}
use Rattle.rewriting.proofs.following.start.Given as goal

abbrev pub invariant-loop-i : goal.invariant-loop-i
invariant-loop-i l = l.places ≡ first_places l.inputs l.i l.initial.places

-- `sweeping::number_left` meets its contract. The loop's invariant: the nodes up to i are numbered, of which so many stay.
use Rattle.std.proofs.Common.{◌≡◌}
use Rattle.rewriting.specs.inner.ClosedUp.{new_number, Numbered}
use Rattle.rewriting.specs.inner.Places.{number_left}
use Rattle.rewriting.proofs.sweeping.number_left.Given as goal

abbrev pub invariant-loop-i : goal.invariant-loop-i
invariant-loop-i l = record {
  last : l.last ≡ new_number l.table.records l.i;
  numbers : Numbered (number_left l.table.records) l.i l.numbers;
}

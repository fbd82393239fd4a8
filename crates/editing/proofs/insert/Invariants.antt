-- `editing::insert` meets its contract. The loop's invariant: the first i of the gates stand in the room that was made for them.
use Rattle.editing.proofs.Inserted.{Placing}
use Rattle.editing.proofs.insert.Given as goal

abbrev pub invariant-loop-i : goal.invariant-loop-i
invariant-loop-i l = Placing l.fn.s l.n l.g l.gates l.i l.s

-- `editing::clear` meets its contract. The loop's invariant: the records below i are cleared, the others as they were.
use Rattle.editing.proofs.Loops.{Editing}
use Rattle.majority.specs.Table.{blank}
use Rattle.majority.specs.declared.Record.{Record}
use Rattle.editing.proofs.clear.Given as goal

abbrev pub invariant-loop-i : goal.invariant-loop-i
invariant-loop-i l = Editing (λ (r : Record). blank) l.initial.s l.first l.n l.i l.s

-- `editing::redirect` meets its contract. The loop's invariant: the records below i are redirected, the others as they were.
use Rattle.editing.proofs.Loops.{Editing}
use Rattle.majority.specs.Edge.{redirect}
use Rattle.majority.specs.Edit.{edges}
use Rattle.editing.proofs.redirect.Given as goal

abbrev pub invariant-loop-i : goal.invariant-loop-i
invariant-loop-i l = Editing (edges (redirect l.from l.to)) l.initial.s l.first l.n l.i l.s

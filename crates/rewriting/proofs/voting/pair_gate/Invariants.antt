-- `voting::pair_gate` meets its contract. The loop's invariant: no gate below the one in question has the pair.
use Rattle.rewriting.proofs.PairSearch.{Without}
use Rattle.rewriting.proofs.voting.pair_gate.Given as goal

abbrev pub invariant-loop-c : goal.invariant-loop-c
invariant-loop-c l = Without l.table.records l.a l.b l.initial.c l.c

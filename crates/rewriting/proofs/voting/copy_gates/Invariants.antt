-- `voting::copy_gates` meets its contract. The loop's invariant: so many records below the gate's place and its own are copied.
use Rattle.std.proofs.Common.{◌-◌}
use Rattle.majority.specs.Edit.{edges}
use Rattle.rules.specs.Voter.{in_block}
use Rattle.rewriting.specs.inner.Copied.{above, copied_by}
use Rattle.rewriting.proofs.CopiedGates.{Copying}
use Rattle.rewriting.proofs.voting.copy_gates.Given as goal

abbrev pub invariant-loop-done : goal.invariant-loop-done
invariant-loop-done l = Copying (λ r. in_block l.block (edges (copied_by l.copy) r)) l.gate (above l.fn.inputs l.gate l.fn.before) l.initial.s (l.gate - l.done) l.s

-- `Writer::put_outputs` meets its contract: the outputs so far are put.
use Prim.Native.Nat.{◌+◌}
use mathlib.Core.Path.{◌≡◌}
use Rattle.rm3.specs.inner.Laid.{GoesOn, outputs_put}
use Rattle.rm3.proofs.writing.Writer.put_outputs.Given as goal

abbrev pub invariant-loop-operand : goal.invariant-loop-operand
invariant-loop-operand l =
    let w = l.initial.self in
    let j = l.operand-index in
    GoesOn w l.self × (l.self.at ≡ w.at + j) × (l.self.out.now ≡ outputs_put l.named w.at j w.out.now)

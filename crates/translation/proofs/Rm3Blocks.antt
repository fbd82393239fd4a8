-- Whose block each record of a translation has: that of the node for which it was made, and 0 behind the last node.
use Prim.Native.Nat.{ℕ, ◌+◌, ◌≤◌, ◌<◌}
use mathlib.Core.Path.{◌≡◌, ap}
use mathlib.Core.List.{List}
use native.Mathlib.Omega.{arith}
use native.Mathlib.Decide.{dec_lt}
use lib.ListN.{get_or-eq_default}
use Rattle.majority.specs.Table.{blank, record_at, WellFormed}
use Rattle.translation.specs.Translate.{translation, operations}
use Rattle.translation.specs.Block3.{up_to, Blocks3}
use Rattle.majority.specs.declared.Record.{Record}
use Rattle.translation.specs.declared.Mode.{Mode}
use Rattle.translation.proofs.Rm3Formed.{translated, translated_formed}

module _ {n m o : ℕ} {rs : List Record} (formed : WellFormed n m o rs) (mode : Mode) where
  -- helpers of outputs, outputs, and nothing
  behind : (i : ℕ) → up_to mode n m rs (n + m) ≤ i → Dec (i < n + operations mode n m rs) → Dec (i < n + operations mode n m rs + o) → (record_at (translation mode n m rs) i).block ≡ 0
  behind i h (yes l) _ = (translated formed mode).helpers i h l
  behind i h (no l) (yes q) = ap (λ (r : Record). r.block) ((translated_formed formed mode).outputs i (omega arith) q).0
  behind i h (no l) (no q) = rw (get_or-eq_default (translation mode n m rs) blank {n = i} (omega (arith, (translated_formed formed mode).whole)))

  pub translated_blocks : Blocks3 mode n m rs (translation mode n m rs)
  translated_blocks = record {
    constant = rw (translated formed mode).constant;
    nodes = λ j h. ((translated formed mode).stands j h).block;
    outputs = λ i h. behind i h (dec_lt i (n + operations mode n m rs)) (dec_lt i (n + operations mode n m rs + o));
  }

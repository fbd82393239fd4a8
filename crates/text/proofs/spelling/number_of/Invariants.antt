-- What is left of the text, behind the number so far, spells what the text spells.
use Prim.Native.Nat.{◌<◌, ◌^◌}
use mathlib.Core.Path.{◌≡◌}
use lib.ListN.{drop}
use Rattle.text.specs.Spelled.{spelled, spelled_after}
use Rattle.text.proofs.spelling.number_of.Given as goal

abbrev pub invariant-loop-byte : goal.invariant-loop-byte
invariant-loop-byte l = record { bound : l.value < 2 ^ 32; rest : spelled l.text ≡ spelled_after l.value (drop l.byte-index l.text) }

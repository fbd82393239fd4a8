-- Whether the RM3 table of an accepted table fits a buffer.
use Prim.Native.Nat.{◌+◌, ◌*◌, ◌≤◌}
use mathlib.Core.Path.{◌≡◌}
use mathlib.Core.List.{List}
use native.Mathlib.Omega.{arith}
use lib.ListN.{length}
use Rattle.translation.specs.Translate.{translation}
use Rattle.majority.specs.declared.Counts.{Counts}
use Rattle.translation.specs.declared.Mode.{Mode}
use Rattle.translation.proofs.Rm3Formed.{translated_formed}
use Rattle.translation.proofs.Rm3Size.{translated_size}
use Rattle.majority.specs.Check.{check_records}
use Rattle.majority.proofs.Accepted.{acceptance}
use Rattle.majority.specs.declared.Record.{Record}
use Rattle.rm3.specs.inner.Laid.{operands_in}
use Rattle.std.specs.Prelude.{Ok}

module _ (mode : Mode) (rs : List Record) (c : Counts) (sound : check_records rs ≡ Ok c) where
  -- its number of records, of which a table has 3,168 at most
  pub fitting_size : length (translation mode c.inputs c.gates rs) ≡ operands_in mode rs c + c.outputs
  fitting_size = (translated_formed (acceptance _ _ _ rs sound).formed mode).whole

  pub fitting_small : operands_in mode rs c + c.outputs ≤ 3168
  fitting_small = let limits = (acceptance _ _ _ rs sound).limits in omega (arith, translated_size (acceptance _ _ _ rs sound).formed mode)

  -- at most three operations a gate and one an output
  pub fitting_most : operands_in mode rs c + c.outputs ≤ c.inputs + 3 * c.gates + 2 * c.outputs
  fitting_most = omega (arith, translated_size (acceptance _ _ _ rs sound).formed mode)

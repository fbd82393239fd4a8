-- What a reply of `rm3_depth` tells its caller: the depth of the RM3 table in either mode.
use Prim.Native.Nat.{ℕ}
use mathlib.Core.Path.{◌≡◌}
use mathlib.Core.List.{List}
use Rattle.translation.specs.Rm3.{depth3}
use Rattle.translation.specs.Translate.{translation, operations}
use Rattle.majority.specs.declared.Counts.{Counts}
use Rattle.translation.specs.declared.Mode.{Mode}
use Rattle.translation.specs.declared.Mode.TheVariants.{Once}
use Rattle.translation.proofs.Rm3Modes.{same_depth}
use Rattle.tables.specs.Sound.{table_in}
use Rattle.tables.specs.Calls.{check_of, checked_of}
use Rattle.tables.proofs.AfterCheck.{checked_sound, checked_table}
use Rattle.tables.proofs.Sound.{sound_formed}
use Rattle.rm3.specs.Calls.{depth_of}
use Rattle.std.specs.Prelude.{Ok}

pub reply_depth : (xs : List ℕ) (used : ℕ) (c : Counts) → check_of xs used ≡ Ok c → (mode : Mode)
    → let rs = table_in xs c in depth_of xs used ≡ Ok (depth3 c.inputs (operations mode c.inputs c.gates rs) c.outputs (translation mode c.inputs c.gates rs))
unfolding depth_of checked_of
reply_depth xs used c checked mode = rw (checked, checked_table xs used c checked, same_depth (sound_formed (checked_sound xs used c checked)) Once mode)

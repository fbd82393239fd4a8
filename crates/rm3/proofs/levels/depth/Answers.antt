-- `levels::depth` meets its contract.
use Rattle.tables.proofs.Sound.{fresh}
use Rattle.rm3.proofs.levels.depth.Goals as goal

pub set_levels-requires : goal.set_levels-requires
set_levels-requires c = fresh 0

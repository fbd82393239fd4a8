-- `levels::size` meets its contract: an array of zeros gets the levels of all nodes, and there the depth is found.
use Rattle.std.proofs.Common.{◌+◌, replicate, subst}
use Rattle.majority.specs.Level.{levels}
use Rattle.tables.specs.Bytes.{records_of}
use Rattle.tables.specs.Sound.{Table}
use Rattle.tables.proofs.Sound.{fresh}
use Rattle.questions.specs.Levelled.{levelled}
use Rattle.questions.specs.inner.Worths.{Holds}
use Rattle.questions.proofs.Levelled.{levels_all}
use Rattle.questions.proofs.levels.size.Goals as goal

pub depth-requires : goal.depth-requires
depth-requires c =
    rw (c.set_levels.ensures, c.counts-inputs.ensures.counts)
    (subst
    (λ (t : Table). Holds levels t.records (t.counts.inputs + t.counts.gates) (levelled (records_of c.table.inside.bytes.now) t.counts.inputs (t.counts.inputs + t.counts.gates) (replicate 1057 0)))
    c.table.view_is
    (levels_all c.table.invariant (fresh 0)))

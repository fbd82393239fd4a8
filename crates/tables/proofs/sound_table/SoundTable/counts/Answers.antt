-- `SoundTable::counts` meets its contract: what the check accepts is well-formed.
use Rattle.std.proofs.Common.{subst}
use Rattle.majority.specs.Table.{WellFormed}
use Rattle.tables.specs.Sound.{Table}
use Rattle.tables.proofs.Sound.{sound_formed}
use Rattle.tables.proofs.sound_table.SoundTable.counts.Goals as goal

pub returns-clause-formed : goal.returns-clause-formed
returns-clause-formed c = subst (λ (t : Table). WellFormed t.counts.inputs t.counts.gates t.counts.outputs t.records) c.self.view_is (sound_formed c.self.invariant)

-- `SoundTable::record` meets its contract: a record of an accepted table names nodes that it has room for.
use Rattle.tables.proofs.Sound.{sound_below}
use Rattle.tables.proofs.sound_table.SoundTable.record.Goals as goal

pub returns-then-i-self-clause-below : goal.returns-then-i-self-clause-below
returns-then-i-self-clause-below c = rw c.read_record.ensures (sound_below c.self.invariant c.args.i c.if-i-self.true)

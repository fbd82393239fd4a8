-- `SoundTable::gates` meets its contract: each chunk of eight bytes is a record, of which the gates' stand after the inputs'.
use Rattle.tables.proofs.Gates.{gates_in}
use Rattle.tables.proofs.sound_table.SoundTable.gates.Goals as goal

pub returns : goal.returns
returns c = rw (← c.self.view_is) (gates_in c.self.invariant _ c.as_chunks.ensures.front c.as_chunks.ensures.front_len)

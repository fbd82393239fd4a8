-- `Writer::put_node` meets its contract: an input is put as it is.
use Rattle.rm3.proofs.TableLaid.{input_writes}
use Rattle.rm3.proofs.writing.Writer.put_node.Goals as goal

pub returns-in-1-clause-writes : goal.returns-in-1-clause-writes
returns-in-1-clause-writes c = let a = c.args in
    rw (c.put.ensures.bytes, c.put.ensures.at, c.put.ensures.helpers) (input_writes a.self.now.mode a.self.now.operands.now a.r c.in-1.is)

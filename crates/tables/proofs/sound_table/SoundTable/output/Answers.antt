-- `SoundTable::output` meets its contract: past the last output stands the blank record.
use Rattle.std.proofs.Common.{◌≡◌, ◌+◌, sym, ap, subst, arith}
use Rattle.majority.specs.Table.{record_at}
use Rattle.majority.specs.declared.Record.{Record}
use Rattle.tables.specs.Sound.{Table}
use Rattle.tables.proofs.Decoded.{table_past}
use Rattle.tables.proofs.sound_table.SoundTable.output.Goals as goal

pub returns-clause-edge : goal.returns-clause-edge
returns-clause-edge c =
    let n = c.self.inside.counts in
    subst
    (λ (t : Table). 0 ≡ (record_at t.records (t.counts.inputs + t.counts.gates + c.args.j)).e1)
    c.self.view_is
    (sym (ap (λ (r : Record). r.e1) (table_past c.self.inside.bytes.now (n.inputs + n.gates + n.outputs) (n.inputs + n.gates + c.args.j) (let h = c.if-j-self.false in omega arith))))

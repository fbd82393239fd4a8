-- `writing::put_table` meets its contract: first the inputs and operations, then the outputs.
use borrow.Author.Rules.{rules}
use native.Mathlib.Omega.{arith}
use mathlib.Core.Path.{refl, ap}
use lib.ListN.{take}
use Rattle.majority.specs.declared.Counts.{Counts}
use Rattle.tables.proofs.Sound.{fresh}
use Rattle.rm3.proofs.FitsBuffer.{fitting_size, fitting_small}
use Rattle.rm3.proofs.OutputPass.{given_length, put_then, put_holding}
use Rattle.rm3.proofs.writing.put_table.Goals as goal

pub put_nodes-requires : goal.put_nodes-requires
put_nodes-requires c = (fresh 0, fresh 0, refl)

pub put_outputs-requires : goal.put_outputs-requires
put_outputs-requires c = (search rules, omega (arith, c.put_helpers.ensures.put.count, fitting_small c.put_nodes.new.self.mode _ _ c.counts.ensures.accepted))

pub returns-clause-records : goal.returns-clause-records
returns-clause-records c =
    let sound = c.counts.ensures.accepted in
    let put = rw c.put_nodes.ensures.on.mode at c.put_helpers.ensures.put in
    let given = given_length c.args.mode _ _ sound _ _ (search rules) (ap (λ (k : Counts). take k.outputs c.put_helpers.new.named) c.counts.ensures.counts) in
    omega (arith, c.put_outputs.ensures.at, put.count, given, fitting_size c.args.mode _ _ sound)

pub returns-clause-bytes : goal.returns-clause-bytes
returns-clause-bytes c =
    let sound = c.counts.ensures.accepted in
    let put = rw c.put_nodes.ensures.on.mode at c.put_helpers.ensures.put in
    let whole = put_then c.put_nodes.ensures.gone put in
    λ room. put_holding _ _ _ sound whole (search rules) (ap (λ (k : Counts). take k.outputs c.put_helpers.new.named) c.counts.ensures.counts) (search rules) (λ i. (c.type_inv.out i).fits) (omega (arith, fitting_size c.args.mode _ _ sound, room))

-- `levels::output_depth` meets its contract: the highest so far is that of the operands that the outputs so far name.
use mathlib.Core.Path.{◌≡◌}
use Rattle.majority.specs.Level.{highest as highest_of}
use Rattle.translation.specs.declared.Mode.TheVariants.{Once}
use Rattle.translation.specs.Rm3.{output_level3}
use Rattle.translation.specs.Translate.{translation, operations}
use Rattle.rm3.proofs.levels.output_depth.Given as goal

abbrev pub invariant-loop-j : goal.invariant-loop-j
invariant-loop-j l =
    let rs = l.table.records in
    let c = l.table.counts in
    l.highest ≡ highest_of (output_level3 c.inputs (operations Once c.inputs c.gates rs) (translation Once c.inputs c.gates rs)) l.j

-- A gate keeps its block through any scripts, and an inserted gate has, and keeps, that of the step's gate.
use mathlib.Core.Path.{◌∙◌}
use Rattle.demands.specs.Probes.{ProbesInside}
use Rattle.demands.specs.Blocks.{BlocksStay, InsertedBlocks}
use Rattle.demands.proofs.OneStep.{between_step, inserted_between}
use Rattle.demands.proofs.Probes.{probes_inside}

pub blocks_stay : BlocksStay
unfolding BlocksStay ProbesInside
blocks_stay xs used scripts n m o is g from upto k named there = (((probes_inside xs used scripts n m o is).shows g from upto).present k named there).block

pub inserted_blocks : InsertedBlocks
unfolding InsertedBlocks BlocksStay
inserted_blocks xs used s scripts n m o next is e k p q j named there =
    let b = between_step xs used n m o is s next e in
    let w = inserted_between xs used n m o is s next e k p q in
    blocks_stay _ next scripts n b.gates o b.holds k w.0 w.1 j named there ∙ w.2

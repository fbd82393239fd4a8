-- `levels::depth` meets its contract: the highest so far is that of the nodes that the outputs so far name.
use Rattle.std.proofs.Common.{ℕ, ap, ◌∙◌, arith}
use Rattle.majority.specs.Edge.{node_of}
use Rattle.majority.specs.declared.Counts.{Counts}
use Rattle.majority.proofs.Levels.{highest_more}
use Rattle.questions.specs.Levelled.{level_at}
use Rattle.questions.proofs.Worths.{output_level_lem}
use Rattle.questions.proofs.levels.depth.Goals as goal

pub loop-j-preserved : goal.loop-j-preserved
loop-j-preserved c =
    let facts = c.counts-j-end.ensures in
    let outputs = ap (λ (k : Counts). k.outputs) facts.counts in
    let level =
    c.edge_level.ensures
    ∙ ap (λ (e : ℕ). level_at c.args.levels.now (node_of e)) c.output.ensures.edge
    ∙ output_level_lem facts.formed facts.limits c.loop-j.j (omega (arith, outputs, c.loop-j-test.true)) c.requires
    in
    highest_more _ c.loop-j.j _ _ _ c.loop-j.invariant level c.higher-highest.ensures

-- `levels::set_levels` meets its contract: the levels of the nodes so far are set.
use borrow.Author.Rules.{rules}
use mathlib.Core.Path.{ap, ◌∙◌}
use Rattle.translation.specs.Level3.{gate_level}
use Rattle.rm3.specs.inner.Levelled.{level_in}
use Rattle.rm3.proofs.LevelPass.{levelled_more}
use Rattle.rm3.proofs.levels.set_levels.Goals as goal

pub loop-i-preserved : goal.loop-i-preserved
loop-i-preserved c =
    levelled_more _ _ c.counts-counts.ensures.accepted (search rules) (search rules) c.loop-i.invariant _
    (c.gate_level.ensures ∙ ap (gate_level (level_in c.loop-i.levels)) c.record.ensures.record)

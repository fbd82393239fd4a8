-- `applying::rewrite` meets its contract: sweep and the rules' edits leave the table that the rule makes.
use Rattle.std.proofs.Common.{sym, ◌∙◌, arith}
use Rattle.tables.proofs.Sound.{sound_limits}
use Rattle.rewriting.proofs.CheckedStep.{rewritten_holding, rewritten_swept, swept_fewer}
use Rattle.rewriting.proofs.applying.rewrite.Goals as goal

pub used_length-requires-clause-gates : goal.used_length-requires-clause-gates
used_length-requires-clause-gates c = omega (arith, swept_fewer c.requires.sound c.sweep.ensures, (sound_limits c.requires.sound).gates)

pub returns-then-is_sweep : goal.returns-then-is_sweep
returns-then-is_sweep c = rewritten_swept c.requires _ _ (sym c.is_sweep.ensures ∙ c.if-is_sweep.true) c.used_length.ensures c.sweep.ensures

pub returns : goal.returns
returns c = rewritten_holding c.requires (sym c.is_sweep.ensures ∙ c.if-is_sweep.false) _ (rw c.inserted-more.ensures at c.used_length-2.ensures) c.edit.ensures

-- `EditedTable::take_followed` meets its contract: of a step of no rule.
use Rattle.std.proofs.Common.{sym, ◌∙◌, rules}
use Rattle.rewriting.proofs.FollowedPlaces.{no_rule}
use Rattle.rewriting.proofs.edited_table.EditedTable.take_followed.Goals as goal

pub returns-in_err-rule-clause-stepped : goal.returns-in_err-rule-clause-stepped
returns-in_err-rule-clause-stepped c = no_rule c.args.self.now.sound c.args.step _ (sym c.try_from.ensures ∙ c.in_err-rule.was) _ (search rules)

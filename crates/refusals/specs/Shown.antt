-- What is shown of a refusal (SPEC 9).
use Rattle.std.specs.Prelude.{ℕ, List, ◌++◌}
use Rattle.std.specs.Fmt.{decimal}
use Rattle.std.specs.Prelude.{codes}
use Rattle.refusals.specs.declared.Refusal.{Refusal}
use Rattle.refusals.specs.Why.{refusal_number, refusal_record, refusal_edge}

-- `refused N at R E`: its number, the record that it carries, and which edge of it
abbrev pub shown : Refusal → List ℕ
shown r = codes "refused " ++ decimal (refusal_number r) ++ codes " at " ++ decimal (refusal_record r) ++ codes " " ++ decimal (refusal_edge r)

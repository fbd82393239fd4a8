-- What a reading holds (SPEC 7): records, and their three counts as one claim.
use Rattle.std.specs.Prelude.{ℕ, List, take, Result, Ok, Err}
use Rattle.majority.specs.Check.{counts}
use Rattle.majority.specs.declared.Counts.{Counts}
use Rattle.tables.specs.Calls.{check_of}
use Rattle.refusals.specs.declared.Refusal.{Refusal}

-- the claim of three counts
abbrev pub claim : ℕ → ℕ → ℕ → Counts
claim inputs gates outputs = counts inputs gates outputs

-- a used length and counts
pub record Found : Type 0 where
  pub used : ℕ
  pub counts : Counts

-- those that a check gives, all zero where it refuses
abbrev pub found : ℕ → Result Counts Refusal → Found
found used (Ok c) = record { used = used; counts = c }
found used (Err w) = record { used = 0; counts = claim 0 0 0 }

-- those of the first used bytes of xs
unfoldable pub found_in : List ℕ → ℕ → Found
found_in xs used = found used (check_of xs used)

-- the records and the counts that a reading of the first used bytes of xs holds
abbrev pub part_in : List ℕ → ℕ → List ℕ
part_in xs used = take (found_in xs used).used xs

abbrev pub counts_in : List ℕ → ℕ → Counts
counts_in xs used = (found_in xs used).counts

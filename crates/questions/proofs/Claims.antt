-- Where the counts that are claimed are those found, the questions reply as the plain calls.
use Rattle.std.proofs.Common.{◌≡◌, ℕ, ◌/◌, List, length}
use Rattle.majority.specs.Check.{counts_of}
use Rattle.majority.specs.declared.Counts.{Counts}
use Rattle.tables.specs.Bytes.{table_of}
use Rattle.tables.specs.Calls.{checked_of}
use Rattle.tables.specs.Claimed.{claimed_of}
use Rattle.tables.proofs.Claims.{claimed_check_lem}
use Rattle.questions.specs.Calls.{evaluate_of, report_of}
use Rattle.questions.specs.Claimed.{claimed_evaluate, claimed_report}

module _ (xs : List ℕ) (claim : Counts) (own : claim ≡ counts_of (table_of xs (length xs / 8))) where
  pub claimed_evaluate_lem : (a : ℕ) → claimed_evaluate xs claim a ≡ evaluate_of xs (length xs) a
  unfolding claimed_evaluate evaluate_of claimed_of checked_of
  claimed_evaluate_lem a = rw (claimed_check_lem xs claim own)

  pub claimed_report_lem : claimed_report xs claim ≡ report_of xs (length xs)
  unfolding claimed_report report_of claimed_of checked_of
  claimed_report_lem = rw (claimed_check_lem xs claim own)

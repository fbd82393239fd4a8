-- What sweep leaves (SPEC 5.3, rule 8).
use Rattle.std.specs.Prelude.{◌≡◌, ℕ, ◌-◌, List, ◌++◌, replicate}
use Rattle.majority.specs.Table.{blank}
use Rattle.majority.specs.Check.{count}
use Rattle.rules.specs.Sweep.{sweep}
use Rattle.majority.specs.declared.Counts.{Counts}
use Rattle.tables.specs.Sound.{table_in}
use Rattle.tables.specs.Bytes.{holding}

-- ys is the buffer xs with its table swept, r gates being left and the records that are freed cleared
pub record Swept (xs : List ℕ) (c : Counts) (r : ℕ) (ys : List ℕ) : Type 0 where
  pub left : r ≡ count 2 (sweep (table_in xs c))
  pub bytes : ys ≡ holding (sweep (table_in xs c) ++ replicate (c.gates - r) blank) xs

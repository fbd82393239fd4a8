-- What the catalogue promises of a table (SPEC 12): it computes the function of its number, with at most seven gates, each of which an output reaches.
use Rattle.std.specs.Prelude.{ℕ, ◌+◌, ◌*◌, ◌/◌, ◌≤◌, ◌<◌, ◌≡◌, true, List, if◌then◌else◌, Ok}
use Rattle.majority.specs.Table.{WellFormed}
use Rattle.majority.specs.Value.{bit, output_number}
use Rattle.majority.specs.Check.{counts, check_records}
use Rattle.majority.specs.declared.Record.{Record}
use Rattle.rules.specs.Sweep.{member, reached}
use Rattle.tables.specs.Bytes.{table_of}
use Rattle.tables.specs.Calls.{check_of}

-- the table rs, of m gates, computes the function with the number n
pub record Computes (n m : ℕ) (rs : List Record) : Type 0 where
  pub few : m ≤ 7
  pub accepted_is : check_records rs ≡ Ok (counts 3 m 1)
  -- each gate reads only lower nodes
  pub formed : WellFormed 3 m 1 rs
  -- each gate, from node 4 on, is reached
  pub all_reached : (j : ℕ) → j < m → member (4 + j) (reached rs) ≡ true
  -- the output under assignment k is bit k of the number
  pub outputs : (k : ℕ) → k < 8 → output_number k 3 m 1 rs ≡ (if bit n k then 1 else 0)

-- so does the table of this length at the beginning of the bytes xs, which the check accepts
pub record ComputesIn (n used : ℕ) (xs : List ℕ) : Type 0 where
  pub gates : ℕ
  pub long : used ≡ 8 * (4 + gates)
  pub accepted_is : check_of xs used ≡ Ok (counts 3 gates 1)
  pub computes : Computes n gates (table_of xs (used / 8))

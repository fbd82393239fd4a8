-- A run of records of one kind (SPEC 2.1: all inputs come first, then all gates, then all outputs): where it ends, and its faults.
use Rattle.std.specs.Prelude.{ℕ, ◌-◌, Bool, not, List, eqb, ltb, if◌then◌else◌, Result, Ok, Err}
use Rattle.majority.specs.Seek.{first_from}
use Rattle.majority.specs.Table.{record_at}
use Rattle.majority.specs.Check.{faulty, fault_of}
use Rattle.majority.specs.declared.Record.{Record}
use Rattle.refusals.specs.declared.Refusal.{Refusal}
use Rattle.tables.specs.Bytes.{record_as}

-- record i is of another kind than k
unfoldable pub other_kind : List Record → ℕ → ℕ → Bool
other_kind rs k i = not (eqb (record_at rs i).kind k)

-- of the records from `from` on, up to n, the first of another kind than k, or n
unfoldable pub run_end : List Record → ℕ → ℕ → ℕ → ℕ
run_end rs n k from = first_from (other_kind rs k) from (n - from)

-- record i of the bytes xs has a fault as one of kind k, in a table whose last node is last
unfoldable pub faulty_as : List ℕ → ℕ → ℕ → ℕ → Bool
faulty_as xs k last i = faulty last i (record_as xs i k)

-- 4 and 5 of record i, in a table whose last node is last
unfoldable pub record_checked : ℕ → ℕ → Record → Result (Unit {0}) Refusal
record_checked last i r = if faulty last i r then Err (fault_of last i r) else Ok tt

-- 4 and 5 of the records from `from` on, up to `to`, as ones of kind k: those of the first that has a fault
unfoldable pub run_checked : List ℕ → ℕ → ℕ → ℕ → ℕ → Result (Unit {0}) Refusal
run_checked xs k last from to =
    let bad = first_from (faulty_as xs k last) from (to - from) in
    if ltb bad to then Err (fault_of last bad (record_as xs bad k)) else Ok tt

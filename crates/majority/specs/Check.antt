-- Refusals 2 to 5 over the records of a table, in their order (SPEC 3).
use Rattle.std.specs.Prelude.{ℕ, zero, suc, ◌+◌, Bool, false, not, ◌||◌, List, [], ◌∷◌, length, ltb, eqb, if◌then◌else◌, Result, Ok, Err}
use Rattle.majority.specs.Edge.{node_of}
use Rattle.majority.specs.Seek.{first}
use Rattle.majority.specs.Table.{record_at}
use Rattle.majority.specs.declared.Record.{Record}
use Rattle.majority.specs.declared.Counts.{Counts}
use Rattle.refusals.specs.declared.Refusal.{Refusal}
use Rattle.refusals.specs.declared.Refusal.TheVariants as refusal
use Rattle.refusals.specs.Reply.{◌>>=◌}

-- 2: a kind is not 1 to 3, or is lower than the kind before it
abbrev pub bad_kind : ℕ → ℕ → Bool
bad_kind before kind = ltb kind 1 || ltb 3 kind || ltb kind before

-- the kind of the record before i, and 0 before the first
unfoldable pub kind_before : List Record → ℕ → ℕ
kind_before rs zero = 0
kind_before rs (suc i) = (record_at rs i).kind

unfoldable pub bad_kind_at : List Record → ℕ → Bool
bad_kind_at rs i = bad_kind (kind_before rs i) (record_at rs i).kind

-- how many records have the kind k
unfoldable pub count : ℕ → List Record → ℕ
count k [] = 0
count k (r ∷ rs) = (if eqb r.kind k then 1 else 0) + count k rs

-- three counts as one value
abbrev pub counts : ℕ → ℕ → ℕ → Counts
counts n m o = record { inputs = n; gates = m; outputs = o }

abbrev pub counts_of : List Record → Counts
counts_of rs = counts (count 1 rs) (count 2 rs) (count 3 rs)

-- 3: a count is past its limit, or there is no output
abbrev pub bad_counts : Counts → Bool
bad_counts c = ltb 32 c.inputs || ltb 1024 c.gates || ltb 32 c.outputs || ltb c.outputs 1

-- 4: a field that must be zero is not: the block or any other of an input, the block, the second or third of an output
abbrev pub not_zero : Record → Bool
not_zero r =
    if eqb r.kind 1 then not (eqb r.block 0) || not (eqb r.e1 0) || not (eqb r.e2 0) || not (eqb r.e3 0)
    else if eqb r.kind 2 then false
    else not (eqb r.block 0) || not (eqb r.e2 0) || not (eqb r.e3 0)

-- the edge e names a node past last
abbrev pub past : ℕ → ℕ → Bool
past last e = ltb last (node_of e)

-- which of three tests is the first that holds, counted from 1; 0 where none does
abbrev pub first_of : Bool → Bool → Bool → ℕ
first_of a b c = if a then 1 else if b then 2 else if c then 3 else 0

-- 5: which edge of record i names a node it may not, counted from 1: the first such of a gate's three, or an output's one; 0 where none does.
-- The gate of record i is node i + 1, so its edges name nodes up to i; an output's names any node, up to last
abbrev pub bad_edge : ℕ → ℕ → Record → ℕ
bad_edge last i r =
    if eqb r.kind 1 then 0
    else if eqb r.kind 2 then first_of (past i r.e1) (past i r.e2) (past i r.e3)
    else first_of (past last r.e1) false false

-- record i has a fault, 4 or 5, in a table whose last node is last
unfoldable pub faulty : ℕ → ℕ → Record → Bool
faulty last i r = not_zero r || ltb 0 (bad_edge last i r)

-- the refusal of a record i that has a fault, 4 before 5
unfoldable pub fault_of : ℕ → ℕ → Record → Refusal
fault_of last i r = if not_zero r then refusal.NotZero i else refusal.Edge i (bad_edge last i r)

unfoldable pub faulty_at : ℕ → List Record → ℕ → Bool
faulty_at last rs i = faulty last i (record_at rs i)

-- 4 and 5 by the first bad record, of a table with these counts
unfoldable pub check_fields : Counts → List Record → Result Counts Refusal
check_fields c rs =
    let last = c.inputs + c.gates in
    let bad = first (faulty_at last rs) (length rs) in
    if ltb bad (length rs) then Err (fault_of last bad (record_at rs bad)) else Ok c

-- 2 over all records, for the first bad one, or the counts found
unfoldable pub check_kinds : List Record → Result Counts Refusal
check_kinds rs =
    let bad = first (bad_kind_at rs) (length rs) in
    if ltb bad (length rs) then Err (refusal.Kind bad) else Ok (counts_of rs)

-- 2, then 3, then 4 and 5
unfoldable pub check_records : List Record → Result Counts Refusal
check_records rs = do
  c ← check_kinds rs
  if bad_counts c then Err refusal.Count else check_fields c rs

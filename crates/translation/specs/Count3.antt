-- How many operations a translation has at most (SPEC 6.2), told from the records alone: exactly so many where helpers are made anew.
use Rattle.std.specs.Prelude.{ℕ, ◌+◌, Bool, false, List, [], ◌∷◌, eqb, if◌then◌else◌}
use Rattle.majority.specs.Node.{by_kind}
use Rattle.translation.specs.Translate.{class_of, middle, needs_helper}
use Rattle.majority.specs.declared.Record.{Record}
use Rattle.translation.specs.declared.Class.{Class}

-- how many helpers an edge of this class needs, in the middle place or another
abbrev pub helper_count : Bool → Class → ℕ
helper_count isMiddle k = if needs_helper isMiddle k then 1 else 0

-- how many helpers a gate needs whose edges are in these classes
unfoldable pub helpers_of : Class → Class → Class → ℕ
helpers_of a b c =
    let mid = middle a b c in
    helper_count (eqb mid 1) a + helper_count (eqb mid 2) b + helper_count (eqb mid 3) c

-- how many operations a gate becomes: its helpers and its own
unfoldable pub gate_operations : Record → ℕ
gate_operations r = helpers_of (class_of r.e1) (class_of r.e2) (class_of r.e3) + 1

-- how many operations an output adds: a helper where its edge is inverted and no constant
unfoldable pub output_operations : Record → ℕ
output_operations r = helper_count false (class_of r.e1)

-- how many operations a record adds, an input none
unfoldable pub record_operations : Record → ℕ
record_operations r = by_kind r.kind 0 (gate_operations r) (output_operations r) 0

-- the sum of f over the records of a list
unfoldable pub total : (Record → ℕ) → List Record → ℕ
total f [] = 0
total f (r ∷ rs) = f r + total f rs

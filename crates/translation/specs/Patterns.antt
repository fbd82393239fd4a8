-- The 27 patterns of a gate's edges (SPEC 6.2), by the classes of the three.
use Rattle.std.specs.Prelude.{ℕ, eqb}
use Rattle.translation.specs.Translate.{class_of, by_class, middle, needs_helper}
use Rattle.majority.specs.declared.Record.{Record}
use Rattle.translation.specs.declared.Class.{Class}
use Rattle.translation.specs.declared.Pattern.{Pattern}

-- the number of a class: constant 0, plain 1, inverted 2
abbrev pub class_number : Class → ℕ
class_number k = by_class k 0 1 2

-- the middle place of edges in these classes, and which of them need helpers
unfoldable pub pattern_by : Class → Class → Class → Pattern
pattern_by a b c =
    let mid = middle a b c in
    record { middle = mid; first = needs_helper (eqb mid 1) a; second = needs_helper (eqb mid 2) b; third = needs_helper (eqb mid 3) c }

-- the pattern of a gate
abbrev pub pattern_of : Record → Pattern
pattern_of r = pattern_by (class_of r.e1) (class_of r.e2) (class_of r.e3)

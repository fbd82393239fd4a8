-- How an edge gets its operand, case by case, and that a gate's edges look up no more than the nodes before it.
use Prim.Native.Nat.{ℕ, ◌+◌, ◌-◌, ◌<◌}
use mathlib.Core.Path.{◌≡◌, refl}
use mathlib.Core.Bool.{Bool, true, false}
use mathlib.Core.List.{List, [], ◌∷◌, ◌++◌}
use borrow.Author.Tests.{eq-eqb, ne_eqb}
use lib.ListN.{length, get_or, take}
use lib.Seq.{get_or-take}
use Rattle.std.specs.Prelude.{if◌then◌else◌}
use Rattle.majority.specs.Edge.{node_of, is_inverted}
use Rattle.majority.specs.Table.{Below}
use Rattle.translation.specs.Rm3.{operation}
use Rattle.translation.specs.Translate.{Draft, again, noted, class_of, is_constant, needs_helper, place, gate3}
use Rattle.majority.specs.declared.Record.{Record}
use Rattle.translation.specs.declared.Class.TheVariants.{Constant, Plain, Inverted}
use Rattle.translation.specs.declared.Mode.{Mode}
use Rattle.translation.specs.declared.Mode.TheVariants.{Anew, Once}

class_constant : (e : ℕ) → node_of e ≡ 0 → class_of e ≡ Constant
unfolding class_of
class_constant e h = rw (eq-eqb (node_of e) 0 h)

class_other : (e : ℕ) → (node_of e ≡ 0 → ⊥) → is_constant (class_of e) ≡ false
unfolding class_of
class_other e h = rw (ne_eqb (node_of e) 0 h) (go (is_inverted e))
  where
    go : (t : Bool) → is_constant (if t then Inverted else Plain) ≡ false
    go true = refl
    go false = refl

module _ (mode : Mode) (b : ℕ) (t : Bool) (operands : List ℕ) (e : ℕ) where
  pub place_constant : node_of e ≡ 0 → (d : Draft) → place mode b t operands e d ≡ record { operand = if t then 1 - e else e; draft = d }
  unfolding place
  place_constant h d = rw (class_constant e h)

  pub place_direct : (node_of e ≡ 0 → ⊥) → needs_helper t (class_of e) ≡ false → (d : Draft) → place mode b t operands e d ≡ record { operand = get_or operands (node_of e) 0; draft = d }
  unfolding place
  place_direct h n d = rw (class_other e h, n)

  pub place_again : (node_of e ≡ 0 → ⊥) → needs_helper t (class_of e) ≡ true → (d : Draft) → (again mode d.helpers (node_of e) ≡ 0 → ⊥)
      → place mode b t operands e d ≡ record { operand = again mode d.helpers (node_of e); draft = d }
  unfolding place
  place_again h n d some = rw (class_other e h, n, ne_eqb (again mode d.helpers (node_of e)) 0 some)

  pub place_made : (node_of e ≡ 0 → ⊥) → needs_helper t (class_of e) ≡ true → (d : Draft) → again mode d.helpers (node_of e) ≡ 0
      → place mode b t operands e d
      ≡ record {
        operand = length d.table + 2;
        draft = record { table = d.table ++ operation b 0 (get_or operands (node_of e) 0) 1 ∷ []; helpers = noted (node_of e) (length d.table + 2) d.helpers };
      }
  unfolding place
  place_made h n d none = rw (class_other e h, n, eq-eqb (again mode d.helpers (node_of e)) 0 none)

  -- of the operands, only the edge's own counts
  pub place_front : (k : ℕ) → node_of e < k → (d : Draft) → place mode b t (take k operands) e d ≡ place mode b t operands e d
  unfolding place
  place_front k h d = rw (get_or-take k operands (node_of e) 0 h)

pub gate_front : (mode : Mode) (operands : List ℕ) (k : ℕ) (r : Record) (d : Draft) → Below k r → gate3 mode (take k operands) r d ≡ gate3 mode operands r d
unfolding gate3
gate_front mode operands k r d low = rw (place_front mode _ _ operands r.e1 k low.first, place_front mode _ _ operands r.e2 k low.second, place_front mode _ _ operands r.e3 k low.third)

-- what serves again is told by the helpers in a list
pub again_same : (mode : Mode) {f g : ℕ → ℕ} → ((k : ℕ) → f k ≡ g k) → (k : ℕ) → again mode f k ≡ again mode g k
again_same Anew same k = refl
again_same Once same k = same k

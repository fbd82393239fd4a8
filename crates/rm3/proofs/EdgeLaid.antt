-- An edge's operand, in bytes: a constant, the operand of the edge's node, a helper that serves again, or one that is put.
use Prim.Native.Nat.{ℕ, ◌+◌, ◌-◌, ◌<◌}
use mathlib.Core.Path.{◌≡◌, sym, ◌∙◌}
use mathlib.Core.Bool.{Bool, true, false}
use mathlib.Core.List.{List}
use lib.ListN.{get_or, set}
use Rattle.std.specs.Prelude.{if◌then◌else◌}
use Rattle.majority.specs.Edge.{node_of}
use Rattle.translation.specs.Rm3.{operation}
use Rattle.translation.specs.Translate.{Draft, again, class_of, needs_helper, place}
use Rattle.translation.specs.declared.Mode.{Mode}
use Rattle.tables.specs.Bytes.{put_record}
use Rattle.rm3.specs.inner.Laid.{helper_in, Drafted, Places}
use Rattle.rm3.proofs.EdgeOperands.{place_constant, place_direct, place_again, place_made, again_same}
use Rattle.rm3.proofs.TableLaid.{places_same, places_more}

-- what serves again, told by the helpers in a list
drafted_again : (mode : Mode) {at : ℕ} {hs : List ℕ} {x : ℕ} (k : ℕ) → x ≡ again mode (helper_in hs) k → (d : Draft) → Drafted at hs d → x ≡ again mode d.helpers k
drafted_again mode k is d so = is ∙ again_same mode so.helpers k

module _ (mode : Mode) (b : ℕ) (t : Bool) (operands : List ℕ) (e : ℕ) {at : ℕ} {hs xs : List ℕ} where
  pub places_constant : node_of e ≡ 0 → Places (place mode b t operands e) at (if t then 1 - e else e) at hs hs xs xs
  places_constant h = places_same (λ d so. place_constant mode b t operands e h d)

  pub places_direct : (node_of e ≡ 0 → ⊥) → needs_helper t (class_of e) ≡ false → Places (place mode b t operands e) at (get_or operands (node_of e) 0) at hs hs xs xs
  places_direct h n = places_same (λ d so. place_direct mode b t operands e h n d)

  -- x is the helper that serves again
  module _ (x : ℕ) (is : x ≡ again mode (helper_in hs) (node_of e)) (h : node_of e ≡ 0 → ⊥) (n : needs_helper t (class_of e) ≡ true) where
    pub places_again : (x ≡ 0 → ⊥) → Places (place mode b t operands e) at x at hs hs xs xs
    places_again some = places_same (λ d so. rw (drafted_again mode (node_of e) is d so) (place_again mode b t operands e h n d (rw (drafted_again mode (node_of e) is d so) at some)))

    pub places_made : x ≡ 0 → node_of e < 1057
        → Places (place mode b t operands e) at (at + 2) (at + 1) hs (set hs (node_of e) (at + 2)) xs (put_record xs at (operation b 0 (get_or operands (node_of e) 0) 1))
    places_made none low = places_more low (λ d so. place_made mode b t operands e h n d (sym (drafted_again mode (node_of e) is d so) ∙ none))

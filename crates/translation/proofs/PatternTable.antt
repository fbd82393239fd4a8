-- The 27 patterns are what the words say: one test, at every entry of the table, that antt computes.
use Prim.Native.Nat.{ℕ, ◌+◌, ◌*◌, ◌/◌, ◌%◌, ◌<◌}
use mathlib.Core.Path.{◌≡◌, refl, sym}
use mathlib.Core.Bool.{Bool, true, false, true≢false, not, ◌&&◌}
use mathlib.Core.List.{List, [], ◌∷◌}
use native.Mathlib.Omega.{arith}
use borrow.Author.Tests.{eqb-true}
use lib.Dec.{eqb}
use lib.ListN.{get_or}
use Rattle.std.specs.Prelude.{if◌then◌else◌}
use Rattle.translation.specs.Translate.{class_of, middle, needs_helper}
use Rattle.majority.specs.declared.Record.{Record}
use Rattle.translation.specs.declared.Class.{Class}
use Rattle.translation.specs.declared.Class.TheVariants.{Constant, Plain, Inverted}
use Rattle.majority.proofs.Logic.{both}
use Rattle.majority.proofs.Every.{every_at}
use Rattle.translation.specs.Patterns.{class_number, pattern_by, pattern_of}
use Rattle.translation.specs.declared.Pattern.{Pattern}

-- the table in the code
abbrev pub patterns : List ℕ
patterns =
    1 ∷ 1 ∷ 3 ∷ 1 ∷ 1 ∷ 3 ∷ 2 ∷ 2 ∷ 18 ∷ 2 ∷ 2 ∷ 3 ∷ 3 ∷ 10 ∷ 3 ∷ 2 ∷ 2 ∷ 18 ∷ 1 ∷ 1 ∷ 17 ∷ 1 ∷ 1 ∷ 17 ∷ 9 ∷ 9 ∷ 25 ∷ []

-- the pattern that an entry packs
abbrev pub unpacked : ℕ → Pattern
unpacked x = record { middle = x % 4; first = eqb (x / 4 % 2) 1; second = eqb (x / 8 % 2) 1; third = eqb (x / 16 % 2) 1 }

same : Bool → Bool → Bool
same true b = b
same false b = not b

same_true : (a b : Bool) → same a b ≡ true → a ≡ b
unfolding same
same_true true b e = sym e
same_true false true e = absurd (true≢false (sym e))
same_true false false e = refl

agree : Pattern → Pattern → Bool
agree p q = eqb p.middle q.middle && (same p.first q.first && (same p.second q.second && same p.third q.third))

agree_true : (p q : Pattern) → agree p q ≡ true → p ≡ q
unfolding agree
agree_true p q e =
    let m = both (eqb p.middle q.middle) _ e in
    let f = both (same p.first q.first) _ m.1 in
    let s = both (same p.second q.second) _ f.1 in
    let middles = eqb-true _ _ m.0 in
    let firsts = same_true _ _ f.0 in
    let seconds = same_true _ _ s.0 in
    let thirds = same_true _ _ s.1 in
    λ d. record { middle = middles d; first = firsts d; second = seconds d; third = thirds d }

-- the class of a number
class_at : ℕ → Class
class_at k = if eqb k 0 then Constant else if eqb k 1 then Plain else Inverted

class_back : (k : Class) → class_at (class_number k) ≡ k
unfolding class_at
class_back Constant = refl
class_back Plain = refl
class_back Inverted = refl

pub class_small : (k : Class) → class_number k < 3
class_small Constant = omega arith
class_small Plain = omega arith
class_small Inverted = omega arith

-- entry k packs the pattern of the classes that k numbers
right : ℕ → ℕ → Bool
right k x = agree (unpacked x) (pattern_by (class_at (k / 9)) (class_at (k / 3 % 3)) (class_at (k % 3)))

pub pattern_at : (a b c : Class) → unpacked (get_or patterns (9 * class_number a + 3 * class_number b + class_number c) 0) ≡ pattern_by a b c
unfolding right agree same class_at pattern_by middle
pattern_at a b c = go (class_number a) (class_number b) (class_number c) (class_small a) (class_small b) (class_small c) (class_back a) (class_back b) (class_back c)
  where
    go : (x y z : ℕ) → x < 3 → y < 3 → z < 3 → class_at x ≡ a → class_at y ≡ b → class_at z ≡ c → unpacked (get_or patterns (9 * x + 3 * y + z) 0) ≡ pattern_by a b c
    go x y z p q r ea eb ec =
        let hi : (9 * x + 3 * y + z) / 9 ≡ x = omega arith in
        let mid : (9 * x + 3 * y + z) / 3 % 3 ≡ y = omega arith in
        let lo : (9 * x + 3 * y + z) % 3 ≡ z = omega arith in
        let k = 9 * x + 3 * y + z in
        let passes : agree (unpacked (get_or patterns k 0)) (pattern_by (class_at (k / 9)) (class_at (k / 3 % 3)) (class_at (k % 3))) ≡ true =
        every_at right patterns refl k (omega arith)
        in
        agree_true _ _ (rw (hi, mid, lo, ea, eb, ec) at passes)

-- which edges of a gate need helpers, as its pattern has it
pub record Helped (gate : Record) (p : Pattern) : Type 0 where
  pub first : p.first ≡ needs_helper (eqb p.middle 1) (class_of gate.e1)
  pub second : p.second ≡ needs_helper (eqb p.middle 2) (class_of gate.e2)
  pub third : p.third ≡ needs_helper (eqb p.middle 3) (class_of gate.e3)

pub pattern_helped : (gate : Record) (p : Pattern) → p ≡ pattern_of gate → Helped gate p
unfolding pattern_by
pattern_helped gate p is = rw is (record { first = refl; second = refl; third = refl })

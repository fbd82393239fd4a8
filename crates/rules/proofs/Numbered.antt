-- A rule is known by its number alone.
use Prim.Native.Nat.{ℕ}
use mathlib.Core.Path.{◌≡◌, refl, ap, ◌∙◌}
use mathlib.Core.Bool.{Bool, true, false, ◌&&◌}
use mathlib.Core.List.{List}
use native.Mathlib.Omega.{arith}
use borrow.Author.Tests.{eqb-true}
use lib.Dec.{eqb}
use Rattle.std.specs.Prelude.{if◌then◌else◌, Result, Ok}
use Rattle.majority.specs.declared.Record.{Record}
use Rattle.rules.specs.Kept.{moves_of}
use Rattle.rules.specs.Step.{rule_of, is_sweep}
use Rattle.rules.specs.declared.Rule.{Rule}
use Rattle.rules.specs.declared.Rule.TheVariants.{Exchange, Majority, Associativity, Outward, Inward, Inversion, Share, Sweep, Voter, Opposite}
use Rattle.refusals.specs.declared.Refusal.{Refusal}

-- the number of a rule
abbrev pub number_of : Rule → ℕ
number_of Exchange = 1
number_of Majority = 2
number_of Associativity = 3
number_of Outward = 4
number_of Inward = 5
number_of Inversion = 6
number_of Share = 7
number_of Sweep = 8
number_of Voter = 9
number_of Opposite = 10

module _ (k : ℕ) (rule : Rule) where
  -- where the rule is not r, which has the number tested, it is one of the rest
  or_else : (r : Rule) (rest : Result Rule Refusal) → (rest ≡ Ok rule → k ≡ number_of rule) → (if eqb k (number_of r) then Ok r else rest) ≡ Ok rule → k ≡ number_of rule
  or_else r rest later e = go (eqb k (number_of r)) refl e
    where
      go : (t : Bool) → eqb k (number_of r) ≡ t → (if t then Ok r else rest) ≡ Ok rule → k ≡ number_of rule
      go true hit e = let same : r ≡ rule = cc in eqb-true k (number_of r) hit ∙ ap number_of same
      go false miss e = later e

  pub rule_number : rule_of k ≡ Ok rule → k ≡ number_of rule
  unfolding rule_of
  rule_number =
      or_else Exchange _
      (or_else Majority _
      (or_else Associativity _
      (or_else Outward _
      (or_else Inward _
      (or_else Inversion _
      (or_else Share _
      (or_else Sweep _
      (or_else Voter _
      (or_else Opposite _
      (λ e. let z : ◌≡◌ {A = ℕ} 0 1 = cc in absurd (omega arith)))))))))))

-- sweep is rule 8
pub number_of_sweep : (rule : Rule) → eqb (number_of rule) 8 ≡ is_sweep rule
number_of_sweep Exchange = refl
number_of_sweep Majority = refl
number_of_sweep Associativity = refl
number_of_sweep Outward = refl
number_of_sweep Inward = refl
number_of_sweep Inversion = refl
number_of_sweep Share = refl
number_of_sweep Sweep = refl
number_of_sweep Voter = refl
number_of_sweep Opposite = refl

-- and so a rule that is sweep is known to be
pub sweep_known : (k : ℕ) (rule : Rule) → rule_of k ≡ Ok rule → is_sweep rule ≡ true → rule_of k ≡ Ok Sweep
unfolding rule_of
sweep_known k rule known is = ap rule_of (rule_number k rule known ∙ eqb-true (number_of rule) 8 (number_of_sweep rule ∙ is))

-- inversion is rule 6, and alone inverts a node, its gate
pub number_of_inversion : (n : ℕ) (rs : List Record) (rule : Rule) (g k : ℕ) → (eqb (number_of rule) 6 && eqb k g) ≡ (moves_of n rs rule g).inverted k
number_of_inversion n rs Exchange g k = refl
number_of_inversion n rs Majority g k = refl
number_of_inversion n rs Associativity g k = refl
number_of_inversion n rs Outward g k = refl
number_of_inversion n rs Inward g k = refl
number_of_inversion n rs Inversion g k = refl
number_of_inversion n rs Share g k = refl
number_of_inversion n rs Sweep g k = refl
number_of_inversion n rs Voter g k = refl
number_of_inversion n rs Opposite g k = refl

-- What the laws of the rules ask of a meaning, for values and for levels: inverting is undone by inverting, and levels may rise by so much.
use Prim.Native.Nat.{ℕ, ◌+◌, ◌≤◌}
use mathlib.Core.Path.{◌≡◌, refl}
use mathlib.Core.Bool.{Bool, true, false, not}
use native.Mathlib.Omega.{arith}
use Rattle.majority.specs.Node.{Meaning}
use Rattle.majority.specs.Value.{values}
use Rattle.majority.specs.Level.{levels}
use Rattle.majority.proofs.Nodes.{Respects}
use Rattle.majority.proofs.Levels.{above_each, above_least}
use Rattle.majority.proofs.MajorityLaws.{majority_inverses}

-- inverting twice is nothing, and the gate of inverted edges is the inverted gate
pub record SelfDual {A : Type 0} (𝓜 : Meaning A) : Type 0 where
  pub twice : (a : A) → 𝓜.inverse (𝓜.inverse a) ≡ a
  pub inverses : (a b c : A) → 𝓜.gate (𝓜.inverse a) (𝓜.inverse b) (𝓜.inverse c) ≡ 𝓜.inverse (𝓜.gate a b c)

pub not_twice : (b : Bool) → not (not b) ≡ b
not_twice true = refl
not_twice false = refl

pub dual_values : (a : ℕ) → SelfDual (values a)
dual_values a = record { twice = not_twice; inverses = majority_inverses }

pub dual_levels : SelfDual levels
dual_levels = record { twice = λ a. refl; inverses = λ a b c. refl }

-- a level that rises by at most δ
abbrev pub Rises : ℕ → ℕ → ℕ → Type 0
Rises δ old new = new ≤ old + δ

pub rises : (δ : ℕ) → Respects levels (Rises δ)
rises δ = record {
  same = λ a. omega arith;
  inverses = λ a b p. p;
  gates = λ a b c a' b' c' p q r. let w = above_each a b c in above_least a' b' c' _ (omega (arith, w.0)) (omega (arith, w.1)) (omega (arith, w.2));
}

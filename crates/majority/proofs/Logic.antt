-- The parts of a test that failed, or held, and a test that would have refused.
use Prim.Native.Nat.{ℕ}
use mathlib.Core.Path.{◌≡◌, refl, sym}
use mathlib.Core.Bool.{Bool, true, false, true≢false, ◌||◌, ◌&&◌}
use native.Mathlib.Omega.{arith}
use Rattle.std.specs.Prelude.{if◌then◌else◌, Result, Ok, Err}
use Rattle.refusals.specs.declared.Refusal.{Refusal}
use Rattle.refusals.specs.Reply.{◌>>=◌}

pub neither : (a b : Bool) → (a || b) ≡ false → (a ≡ false) × (b ≡ false)
neither true b e = absurd (true≢false e)
neither false b e = (refl, e)

pub both : (a b : Bool) → (a && b) ≡ true → (a ≡ true) × (b ≡ true)
both true b e = (refl, e)
both false b e = absurd (true≢false (sym e))

-- a test that would refuse did not
pub passed : {A : Type 0} (t : Bool) (w : Refusal) (x : Result A Refusal) (a : A) → (if t then Err w else x) ≡ Ok a → (t ≡ false) × (x ≡ Ok a)
passed true w x a e = let z : ◌≡◌ {A = ℕ} 0 1 = cc in absurd (omega arith)
passed false w x a e = (refl, e)

-- a test that would refuse did not, nor did what followed it
pub passed_on : {A B : Type 0} (t : Bool) (w : Refusal) (x : A) (f : A → Result B Refusal) (b : B) → ◌>>=◌ (if t then Err w else Ok x) f ≡ Ok b → (t ≡ false) × (f x ≡ Ok b)
passed_on true w x f b e = let z : ◌≡◌ {A = ℕ} 0 1 = cc in absurd (omega arith)
passed_on false w x f b e = (refl, e)

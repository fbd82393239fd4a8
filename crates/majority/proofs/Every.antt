-- A rule of a table: a test that passes at every entry passes at each.
use Prim.Native.Nat.{ℕ, zero, suc, ◌+◌, ◌<◌}
use mathlib.Core.Path.{◌≡◌}
use mathlib.Core.Bool.{Bool, true, ◌&&◌}
use mathlib.Core.List.{List, [], ◌∷◌}
use native.Mathlib.Omega.{arith}
use lib.ListN.{length, get_or}
use Rattle.majority.proofs.Logic.{both}

module _ (test : ℕ → ℕ → Bool) where
  -- the test passes at each entry of the list and its place, counted from i
  abbrev pub every : ℕ → List ℕ → Bool
  every i [] = true
  every i (x ∷ xs) = test i x && every (suc i) xs

  from : (xs : List ℕ) (i : ℕ) → every i xs ≡ true → (k : ℕ) → k < length xs → test (i + k) (get_or xs k 0) ≡ true
  from [] i t k h = absurd (omega arith)
  from (x ∷ xs) i t zero h = let e : i + 0 ≡ i = omega arith in rw e (both (test i x) (every (suc i) xs) t).0
  from (x ∷ xs) i t (suc k) h =
      let e : i + suc k ≡ suc i + k = omega arith in
      rw e (from xs (suc i) (both (test i x) (every (suc i) xs) t).1 k (omega arith))

  pub every_at : (xs : List ℕ) → every 0 xs ≡ true → (k : ℕ) → k < length xs → test k (get_or xs k 0) ≡ true
  every_at xs t k h = let e : 0 + k ≡ k = omega arith in rw e at (from xs 0 t k h)

-- The sum over the records of a list: in parts, one record more, and by its records.
use Prim.Native.Nat.{ℕ, zero, suc, ◌+◌, ◌≤◌, ◌<◌}
use mathlib.Core.Path.{◌≡◌, refl}
use mathlib.Core.List.{List, [], ◌∷◌}
use native.Mathlib.Omega.{arith}
use lib.ListN.{length, take, drop}
use Rattle.majority.specs.Table.{record_at}
use Rattle.translation.specs.Count3.{total}
use Rattle.majority.specs.declared.Record.{Record}

module _ (f : Record → ℕ) where
  pub total_parts : (k : ℕ) (rs : List Record) → total f rs ≡ total f (take k rs) + total f (drop k rs)
  unfolding total
  total_parts zero rs = omega arith
  total_parts (suc k) [] = refl
  total_parts (suc k) (r ∷ rs) = omega (arith, total_parts k rs)

  pub total_next : (rs : List Record) (j : ℕ) → j < length rs → total f (take (suc j) rs) ≡ total f (take j rs) + f (record_at rs j)
  unfolding total
  total_next [] j h = absurd (omega arith)
  total_next (r ∷ rs) zero h = omega arith
  total_next (r ∷ rs) (suc j) h = omega (arith, total_next rs j (omega arith))

  pub total_agrees : (g : Record → ℕ) (rs : List Record) → ((j : ℕ) → j < length rs → f (record_at rs j) ≡ g (record_at rs j)) → total f rs ≡ total g rs
  unfolding total
  total_agrees g [] same = refl
  total_agrees g (r ∷ rs) same = omega (arith, same 0 (omega arith), total_agrees g rs (λ j h. same (suc j) (omega arith)))

  -- bounds that each record keeps bound the sum
  pub total_at_most : (rs : List Record) (bound : ℕ → ℕ) → ((j : ℕ) → j < length rs → bound j + f (record_at rs j) ≤ bound (suc j)) → bound 0 + total f rs ≤ bound (length rs)
  unfolding total
  total_at_most [] bound keeps = omega arith
  total_at_most (r ∷ rs) bound keeps =
      omega (arith, keeps 0 (omega arith), total_at_most rs (λ j. bound (suc j)) (λ j h. keeps (suc j) (omega arith)))

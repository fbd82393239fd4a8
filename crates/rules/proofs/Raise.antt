-- Raising: the numbers that nodes and edges get where c gates are put before node g.
use Prim.Native.Nat.{ℕ, suc, ◌+◌, ◌-◌, ◌*◌, ◌%◌, ◌≤◌, ◌<◌}
use mathlib.Core.Path.{◌≡◌, refl}
use native.Mathlib.Omega.{arith}
use native.Mathlib.Decide.{dec_lt}
use borrow.Author.Tests.{lt-ltb, le-ltb}
use Rattle.majority.specs.Edge.{node_of, raised, raise}

module _ (g c : ℕ) where
  pub raised_below : (k : ℕ) → k < g → raised g c k ≡ k
  unfolding raised
  raised_below k h = rw (lt-ltb k g h)

  pub raised_from : (k : ℕ) → g ≤ k → raised g c k ≡ k + c
  unfolding raised
  raised_from k h = rw (le-ltb k g h)

  -- what holds of both cases
  pub raised_cases : (P : ℕ → Type 0) (k : ℕ) → (k < g → P k) → (g ≤ k → P (k + c)) → P (raised g c k)
  raised_cases P k low high = go (dec_lt k g)
    where
      go : Dec (k < g) → P (raised g c k)
      go (yes h) = rw (raised_below k h) (low h)
      go (no h) = rw (raised_from k (omega arith)) (high (omega arith))

  -- an edge below g stays as it is
  pub raise_below : (x : ℕ) → node_of x < g → raise g c x ≡ x
  unfolding raise
  raise_below x h = rw (lt-ltb (node_of x) g h)

  pub raise_from : (x : ℕ) → g ≤ node_of x → raise g c x ≡ x + 2 * c
  unfolding raise
  raise_from x h = rw (le-ltb (node_of x) g h)

  raise_cases : (P : ℕ → Type 0) (x : ℕ) → (node_of x < g → P x) → (g ≤ node_of x → P (x + 2 * c)) → P (raise g c x)
  raise_cases P x low high = go (dec_lt (node_of x) g)
    where
      go : Dec (node_of x < g) → P (raise g c x)
      go (yes h) = rw (raise_below x h) (low h)
      go (no h) = rw (raise_from x (omega arith)) (high (omega arith))

  pub raise_node : (x : ℕ) → node_of (raise g c x) ≡ raised g c (node_of x)
  raise_node x =
      raise_cases (λ y. node_of y ≡ raised g c (node_of x)) x (λ h. omega (arith, raised_below (node_of x) h)) (λ h. omega (arith, raised_from (node_of x) h))

  pub raise_parity : (x : ℕ) → raise g c x % 2 ≡ x % 2
  raise_parity x = raise_cases (λ y. y % 2 ≡ x % 2) x (λ h. refl) (λ h. omega arith)

  -- an edge to a node up to b becomes one to a node up to b + c
  pub raise_fits : (b x : ℕ) → node_of x ≤ b → raise g c x ≤ 2 * (b + c) + 1
  raise_fits b x h = raise_cases (λ y. y ≤ 2 * (b + c) + 1) x (λ l. omega arith) (λ l. omega arith)

-- the record of node k + 1 is record k: it moves as its node does
pub raised_next : (g c j : ℕ) → 0 < g → raised g c (suc j) ≡ suc (raised (g - 1) c j)
raised_next g c j h =
    raised_cases g c (λ k. k ≡ suc (raised (g - 1) c j)) (suc j) (λ l. omega (arith, raised_below (g - 1) c j (omega arith))) (λ l. omega (arith, raised_from (g - 1) c j (omega arith)))

-- no gate more
pub raised_none : (g k : ℕ) → raised g 0 k ≡ k
raised_none g k = raised_cases g 0 (λ i. i ≡ k) k (λ l. refl) (λ l. omega arith)

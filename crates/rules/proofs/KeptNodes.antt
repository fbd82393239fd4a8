-- How many of the first nodes are kept: the number that a kept node gets, and where its record stands once the rest is dropped.
use Prim.Native.Nat.{ℕ, zero, suc, ◌+◌, ◌%◌, ◌≤◌, ◌<◌}
use mathlib.Core.Path.{◌≡◌, refl, ap}
use mathlib.Core.Bool.{Bool, true, false}
use mathlib.Core.List.{List, [], ◌∷◌}
use native.Mathlib.Omega.{arith}
use native.Mathlib.Nat.{add-zero, zero-add}
use native.Mathlib.Decide.{dec_lt}
use lib.ListN.{length}
use Rattle.std.specs.Prelude.{if◌then◌else◌}
use Rattle.majority.specs.Edge.{node_of}
use Rattle.majority.specs.Table.{record_at}
use Rattle.rules.specs.Sweep.{kept, renumber, kept_records}
use Rattle.majority.specs.declared.Record.{Record}

module _ (keep : ℕ → Bool) where
  -- one node more at the far end
  one_more : (i t : ℕ) → kept keep i (suc t) ≡ kept keep i t + (if keep (suc (i + t)) then 1 else 0)
  one_more i zero = rw (add-zero i) (go (keep (suc i)))
    where
      go : (b : Bool) → (if b then 1 else 0) ≡ 0 + (if b then 1 else 0)
      go true = refl
      go false = refl
  one_more i (suc t) =
      let e : suc i + t ≡ i + suc t = omega arith in
      go (keep (suc i)) (rw e at (one_more (suc i) t))
    where
      go : (b : Bool) → kept keep (suc i) (suc t) ≡ kept keep (suc i) t + (if keep (suc (i + suc t)) then 1 else 0)
          → (if b then suc (kept keep (suc i) (suc t)) else kept keep (suc i) (suc t))
          ≡ (if b then suc (kept keep (suc i) t) else kept keep (suc i) t) + (if keep (suc (i + suc t)) then 1 else 0)
      go true h = omega arith
      go false h = h

  pub kept_in : (t : ℕ) → keep (suc t) ≡ true → kept keep 0 (suc t) ≡ suc (kept keep 0 t)
  kept_in t h = omega (arith, rw (zero-add t, h) at (one_more 0 t))

  pub kept_out : (t : ℕ) → keep (suc t) ≡ false → kept keep 0 (suc t) ≡ kept keep 0 t
  kept_out t h = omega (arith, rw (zero-add t, h) at (one_more 0 t))

  -- what holds where node t + 1 is kept and where it is not
  by_next : (P : ℕ → Type 0) (t : ℕ) → (keep (suc t) ≡ true → P (suc (kept keep 0 t))) → (keep (suc t) ≡ false → P (kept keep 0 t)) → P (kept keep 0 (suc t))
  by_next P t p q = go (keep (suc t)) refl
    where
      go : (b : Bool) → keep (suc t) ≡ b → P (kept keep 0 (suc t))
      go true h = rw (kept_in t h) (p h)
      go false h = rw (kept_out t h) (q h)

  -- a node's new number is no higher, and the order of nodes stays
  pub kept_lower : (t : ℕ) → kept keep 0 t ≤ t
  kept_lower zero = omega arith
  kept_lower (suc t) = let l = kept_lower t in by_next (λ k. k ≤ suc t) t (λ h. omega arith) (λ h. omega arith)

  pub kept_order : (s t : ℕ) → s ≤ t → kept keep 0 s ≤ kept keep 0 t
  kept_order s zero h = let e : s ≡ 0 = omega arith in rw e (omega arith)
  kept_order s (suc t) h = go (dec_lt s (suc t)) (kept_order s t)
    where
      go : Dec (s < suc t) → (s ≤ t → kept keep 0 s ≤ kept keep 0 t) → kept keep 0 s ≤ kept keep 0 (suc t)
      go (no l) below = let e : s ≡ suc t = omega arith in rw e (omega arith)
      go (yes l) below = let b = below (omega arith) in by_next (λ k. kept keep 0 s ≤ k) t (λ h. omega arith) (λ h. omega arith)

  -- b nodes after a, all of them kept
  pub kept_all : (a b : ℕ) → ((t : ℕ) → a ≤ t → t < a + b → keep (suc t) ≡ true) → kept keep 0 (a + b) ≡ kept keep 0 a + b
  kept_all a zero h = rw (add-zero a) (omega arith)
  kept_all a (suc b) h =
      let e : a + suc b ≡ suc (a + b) = omega arith in
      rw e (omega (arith, kept_in (a + b) (h (a + b) (omega arith) (omega arith)), kept_all a b (λ t p q. h t p (omega arith))))

  -- record j is kept, and k records before it
  pub record Stands (t k : ℕ) : Type 0 where
    pub at : ℕ
    pub early : at < t
    pub kept_too : keep (suc at) ≡ true
    pub place : k ≡ kept keep 0 at

  -- whatever place is taken, is taken by a kept record
  pub stands : (t k : ℕ) → k < kept keep 0 t → Stands t k
  stands zero k h = absurd (omega arith)
  stands (suc t) k h = go (dec_lt k (kept keep 0 t)) (stands t k) (keep (suc t)) refl
    where
      go : Dec (k < kept keep 0 t) → (k < kept keep 0 t → Stands t k) → (b : Bool) → keep (suc t) ≡ b → Stands (suc t) k
      go (yes l) below b e = let w = below l in record { at = w.at; early = omega (arith, w.early); kept_too = w.kept_too; place = w.place }
      go (no l) below true e = record { at = t; early = omega arith; kept_too = e; place = omega (arith, kept_in t e) }
      go (no l) below false e = absurd (omega (arith, kept_out t e))

  -- the records that are kept
  pub kept_at : (i : ℕ) (rs : List Record) (t : ℕ) → t < length rs → keep (suc (i + t)) ≡ true → record_at (kept_records keep i rs) (kept keep i t) ≡ record_at rs t
  kept_at i [] t h s = absurd (omega arith)
  kept_at i (r ∷ rs) zero h s = rw (rw (add-zero i) at s)
  kept_at i (r ∷ rs) (suc t) h s =
      let e : i + suc t ≡ suc i + t = omega arith in
      go (keep (suc i)) (kept_at (suc i) rs t (omega arith) (rw e at s))
    where
      go : (b : Bool) → record_at (kept_records keep (suc i) rs) (kept keep (suc i) t) ≡ record_at rs t
          → record_at (if b then r ∷ kept_records keep (suc i) rs else kept_records keep (suc i) rs) (if b then suc (kept keep (suc i) t) else kept keep (suc i) t)
          ≡ record_at rs t
      go true h = h
      go false h = h

  pub kept_length : (i : ℕ) (rs : List Record) → length (kept_records keep i rs) ≡ kept keep i (length rs)
  kept_length i [] = refl
  kept_length i (r ∷ rs) = go (keep (suc i)) (kept_length (suc i) rs)
    where
      go : (b : Bool) → length (kept_records keep (suc i) rs) ≡ kept keep (suc i) (length rs)
          → length (if b then r ∷ kept_records keep (suc i) rs else kept_records keep (suc i) rs) ≡ (if b then suc (kept keep (suc i) (length rs)) else kept keep (suc i) (length rs))
      go true h = ap suc h
      go false h = h

  -- the edges' new numbers
  pub renumber_node : (x : ℕ) → node_of (renumber keep x) ≡ kept keep 0 (node_of x)
  unfolding renumber
  renumber_node x = omega arith

  pub renumber_parity : (x : ℕ) → renumber keep x % 2 ≡ x % 2
  unfolding renumber
  renumber_parity x = omega arith

  pub renumber_zero : renumber keep 0 ≡ 0
  unfolding renumber
  renumber_zero = refl

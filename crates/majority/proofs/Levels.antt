-- Levels and the highest of several numbers: bounds that stand in for `max`.
use Prim.Native.Nat.{ℕ, zero, suc, ◌+◌, ◌≤◌, ◌<◌, max}
use mathlib.Core.Path.{◌≡◌, refl, sym, ap₂, ◌∙◌}
use mathlib.Core.Bool.{Bool, true, false}
use mathlib.Core.Logic.{⊎_elim}
use mathlib.Core.List.{List}
use native.Mathlib.Nat.{eq-or-lt_of_le}
use native.Mathlib.Omega.{arith}
use Rattle.std.specs.Prelude.{if◌then◌else◌}
use Rattle.majority.specs.Edge.{node_of, is_inverted}
use Rattle.majority.specs.Table.{Below, WellFormed}
use Rattle.majority.specs.Node.{by_kind, edge_worth, record_worth}
use Rattle.majority.specs.Level.{above, levels, level, output_level, highest, depth}
use Rattle.majority.specs.declared.Record.{Record}
use Rattle.majority.proofs.Nodes.{node_induction, node_zero}
use Rattle.majority.proofs.Formed.{formed_eq, output_eq, reads_lower}

pub above_each : (a b c : ℕ) → (a < above a b c) × (b < above a b c) × (c < above a b c)
unfolding above
above_each a b c = (omega arith, omega arith, omega arith)

pub above_least : (a b c l : ℕ) → a < l → b < l → c < l → above a b c ≤ l
unfolding above
above_least a b c l p q r = omega arith

-- in any order
pub above_first_second : (a b c : ℕ) → above b a c ≡ above a b c
unfolding above
above_first_second a b c = omega arith

pub above_second_third : (a b c : ℕ) → above a c b ≡ above a b c
unfolding above
above_second_third a b c = omega arith

-- by two comparisons
pub above_by : (a b c x y : ℕ) → x ≡ max b c → y ≡ max a x → y + 1 ≡ above a b c
unfolding above
above_by a b c x y p q = rw (q, p) (omega arith)

-- an edge has the level of the node it names
pub edge_level_lem : (v : ℕ → ℕ) (e : ℕ) → edge_worth levels v e ≡ v (node_of e)
unfolding edge_worth
edge_level_lem v e = go (is_inverted e)
  where
    go : (t : Bool) → (if t then v (node_of e) else v (node_of e)) ≡ v (node_of e)
    go true = refl
    go false = refl

-- each of the numbers is at most the highest, and the highest is at most what none passes
pub at_most_highest : (f : ℕ → ℕ) (k j : ℕ) → j < k → f j ≤ highest f k
unfolding highest
at_most_highest f zero j h = absurd (omega arith)
at_most_highest f (suc k) j h =
    ⊎_elim
    (λ e. rw e (omega arith))
    (λ l. omega (arith, at_most_highest f k j l))
    (eq-or-lt_of_le (let l : j ≤ k = omega arith in l))

pub highest_at_most : (f : ℕ → ℕ) (k l : ℕ) → ((j : ℕ) → j < k → f j ≤ l) → highest f k ≤ l
unfolding highest
highest_at_most f zero l h = omega arith
highest_at_most f (suc k) l h = omega (arith, h k (omega arith), highest_at_most f k l (λ j p. h j (omega arith)))

pub highest_same : (f g : ℕ → ℕ) (k : ℕ) → ((j : ℕ) → j < k → f j ≡ g j) → highest f k ≡ highest g k
unfolding highest
highest_same f g zero h = refl
highest_same f g (suc k) h = ap₂ max (highest_same f g k (λ j p. h j (omega arith))) (h k (omega arith))

-- one number more
pub highest_more : (f : ℕ → ℕ) (j d l d' : ℕ) → d ≡ highest f j → l ≡ f j → d' ≡ max d l → d' ≡ highest f (j + 1)
unfolding highest
highest_more f j d l d' p q r = let e : j + 1 ≡ suc j = omega arith in r ∙ rw (p, q, e)

-- no node that an output names stands above the depth, and the depth is at most what none of them passes
module _ (n m o : ℕ) (rs : List Record) where
  pub within_depth : (j : ℕ) → j < o → output_level n m rs j ≤ depth n m o rs
  unfolding depth
  within_depth j h = at_most_highest (output_level n m rs) o j h

  pub depth_at_most : (l : ℕ) → ((j : ℕ) → j < o → output_level n m rs j ≤ l) → depth n m o rs ≤ l
  unfolding depth
  depth_at_most l h = highest_at_most (output_level n m rs) o l h

-- an output's record stands as high as the node that the output names
pub output_level_lem : {n m o : ℕ} {rs : List Record} → WellFormed n m o rs → (j : ℕ) → j < o → output_level n m rs j ≡ level rs (suc (n + m + j))
unfolding output_level
output_level_lem {rs = rs} formed j h = sym (output_eq formed levels j h ∙ edge_level_lem (level rs) _)

by_kind_most : (k i g o d l : ℕ) → i ≤ l → g ≤ l → o ≤ l → d ≤ l → by_kind k i g o d ≤ l
by_kind_most zero i g o d l a b c e = e
by_kind_most (suc zero) i g o d l a b c e = a
by_kind_most (suc (suc zero)) i g o d l a b c e = b
by_kind_most (suc (suc (suc k))) i g o d l a b c e = c

-- a node's level is at most its number
pub level_at_most : {n m o : ℕ} {rs : List Record} → WellFormed n m o rs → (k : ℕ) → k ≤ n + m + o → level rs k ≤ k
unfolding record_worth
level_at_most {n} {m} {o} {rs} formed =
    node_induction (λ k. level rs k ≤ k) (n + m + o) (rw (node_zero levels rs) (omega arith))
    (λ j h below. rw (formed_eq formed levels j h) (at_record j _ (reads_lower formed j (omega (arith, formed.whole))) below))
  where
    edge : (j e : ℕ) → node_of e < suc j → ((k : ℕ) → k ≤ j → level rs k ≤ k) → edge_worth levels (level rs) e ≤ j
    edge j e l below = rw (edge_level_lem (level rs) e) (omega (arith, below (node_of e) (omega arith)))

    at_record : (j : ℕ) (r : Record) → Below (suc j) r → ((k : ℕ) → k ≤ j → level rs k ≤ k) → record_worth levels (level rs) (suc j) r ≤ suc j
    at_record j r low below =
        let l1 = edge j r.e1 low.first below in
        let l2 = edge j r.e2 low.second below in
        let l3 = edge j r.e3 low.third below in
        by_kind_most r.kind _ _ _ _ _ (omega arith) (above_least _ _ _ _ (omega arith) (omega arith) (omega arith)) (omega arith) (omega arith)

-- What the nodes of a table are worth: the equation of each node, induction over nodes, and congruence.
use Prim.Native.Nat.{ℕ, zero, suc, ◌+◌, ◌%◌, ◌≤◌, ◌<◌}
use mathlib.Core.Path.{◌≡◌, refl, ap, subst}
use mathlib.Core.Bool.{Bool, true, false}
use mathlib.Core.List.{List, [], ◌∷◌}
use native.Mathlib.Omega.{arith}
use native.Mathlib.Decide.{dec_lt}
use lib.ListN.{length}
use Rattle.std.specs.Prelude.{if◌then◌else◌}
use Rattle.majority.specs.Edge.{node_of, is_inverted}
use Rattle.majority.specs.Table.{record_at, blank, Below}
use Rattle.majority.specs.Node.{Meaning, by_kind, edge_worth, record_worth, worths, worth}
use Rattle.majority.specs.declared.Record.{Record}
use Rattle.majority.proofs.Pass.{pass_eq, pass_keeps}

-- induction over the nodes 0 to len of a table: node j + 1 from all nodes up to j
pub node_induction : (P : ℕ → Type 0) (len : ℕ) → P 0 → ((j : ℕ) → j < len → ((k : ℕ) → k ≤ j → P k) → P (suc j)) → (k : ℕ) → k ≤ len → P k
node_induction P zero base step k h = let e : k ≡ 0 = omega arith in rw e base
node_induction P (suc len) base step k h = go (dec_lt k (suc len)) (node_induction P len base (λ j l. step j (omega arith)))
  where
    go : Dec (k < suc len) → ((i : ℕ) → i ≤ len → P i) → P k
    go (yes l) below = below k (omega arith)
    go (no l) below = let e : k ≡ suc len = omega arith in rw e (step len (omega arith) below)

-- a relation of worths that a meaning respects
pub record Respects {A : Type 0} (𝓜 : Meaning A) (Q : A → A → Type 0) : Type 0 where
  pub same : (a : A) → Q a a
  pub inverses : (a b : A) → Q a b → Q (𝓜.inverse a) (𝓜.inverse b)
  pub gates : (a b c a' b' c' : A) → Q a a' → Q b b' → Q c c' → Q (𝓜.gate a b c) (𝓜.gate a' b' c')

-- equality is one
pub equals : {A : Type 0} (𝓜 : Meaning A) → Respects 𝓜 (λ a b. a ≡ b)
equals 𝓜 = record { same = λ a. refl; inverses = λ a b p. ap 𝓜.inverse p; gates = λ a b c a' b' c' p q r. cc }

module _ {A : Type 0} (𝓜 : Meaning A) (Q : A → A → Type 0) (𝓠 : Respects 𝓜 Q) where
  -- two edges of the same inversion to related nodes
  pub edge_related : (v w : ℕ → A) (x y : ℕ) → x % 2 ≡ y % 2 → Q (v (node_of x)) (w (node_of y)) → Q (edge_worth 𝓜 v x) (edge_worth 𝓜 w y)
  unfolding edge_worth
  edge_related v w x y e q = rw e (go (is_inverted y))
    where
      go : (t : Bool) → Q (if t then 𝓜.inverse (v (node_of x)) else v (node_of x)) (if t then 𝓜.inverse (w (node_of y)) else w (node_of y))
      go true = 𝓠.inverses _ _ q
      go false = q

  by_kind_lem : (k : ℕ) (i g o d i' g' o' : A) → (k ≡ 1 → i ≡ i') → Q g g' → Q o o' → Q (by_kind k i g o d) (by_kind k i' g' o' d)
  by_kind_lem zero i g o d i' g' o' qi qg qo = 𝓠.same d
  by_kind_lem (suc zero) i g o d i' g' o' qi qg qo = subst (Q i) (qi refl) (𝓠.same i)
  by_kind_lem (suc (suc zero)) i g o d i' g' o' qi qg qo = qg
  by_kind_lem (suc (suc (suc k))) i g o d i' g' o' qi qg qo = qo

  -- two records of the same kind with related edges
  pub record_related : (v w : ℕ → A) (k k' : ℕ) (r s : Record) → r.kind ≡ s.kind → (s.kind ≡ 1 → k ≡ k')
      → Q (edge_worth 𝓜 v r.e1) (edge_worth 𝓜 w s.e1)
      → Q (edge_worth 𝓜 v r.e2) (edge_worth 𝓜 w s.e2)
      → Q (edge_worth 𝓜 v r.e3) (edge_worth 𝓜 w s.e3)
      → Q (record_worth 𝓜 v k r) (record_worth 𝓜 w k' s)
  unfolding record_worth
  record_related v w k k' r s kinds numbers q1 q2 q3 =
      rw kinds
      (by_kind_lem s.kind _ _ _ _ _ _ _ (λ h. ap 𝓜.input (numbers h)) (𝓠.gates _ _ _ _ _ _ q1 q2 q3) q1)

module _ {A : Type 0} (𝓜 : Meaning A) where
  -- an edge's worth is that of the node it names
  pub edge_agrees : (v w : ℕ → A) (e : ℕ) → v (node_of e) ≡ w (node_of e) → edge_worth 𝓜 v e ≡ edge_worth 𝓜 w e
  edge_agrees v w e h = edge_related 𝓜 (λ a b. a ≡ b) (equals 𝓜) v w e e refl h

  -- a record's worth is made of the nodes that it reads alone
  pub record_agrees : (v w : ℕ → A) (b k : ℕ) (r : Record) → Below b r → ((i : ℕ) → i < b → v i ≡ w i) → record_worth 𝓜 v k r ≡ record_worth 𝓜 w k r
  record_agrees v w b k r low agree =
      record_related 𝓜 (λ a b. a ≡ b) (equals 𝓜) v w k k r r refl (λ h. refl)
      (edge_agrees v w _ (agree _ low.first))
      (edge_agrees v w _ (agree _ low.second))
      (edge_agrees v w _ (agree _ low.third))

  -- node 0 is the constant
  pub node_zero : (rs : List Record) → worth 𝓜 rs 0 ≡ 𝓜.constant
  unfolding worth worths
  node_zero rs = pass_keeps (record_worth 𝓜) 𝓜.constant 1 (𝓜.constant ∷ []) rs 0 (omega arith)

  -- the local equation: node j + 1 is made of record j and of lower nodes
  pub node_eq : (rs : List Record) → ((j : ℕ) → j < length rs → Below (suc j) (record_at rs j))
      → (j : ℕ) → j < length rs → worth 𝓜 rs (suc j) ≡ record_worth 𝓜 (worth 𝓜 rs) (suc j) (record_at rs j)
  unfolding worth worths
  node_eq rs low j h =
      let one : (i : ℕ) → suc i ≡ 1 + i = λ i. omega arith in
      rw (one j)
      (pass_eq (record_worth 𝓜) 𝓜.constant blank Below (λ v w b r. record_agrees v w b b r) 1 (𝓜.constant ∷ []) rs refl (λ i l. rw (← one i) (low i l)) j h)

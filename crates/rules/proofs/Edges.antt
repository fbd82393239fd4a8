-- Edges: the node that an edge names and what the edge is worth, after it is flipped, redirected or raised.
use Prim.Native.Nat.{ℕ, ◌+◌, ◌%◌, ◌≤◌, ◌<◌}
use mathlib.Core.Path.{◌≡◌, refl, sym, ap, ◌∙◌}
use mathlib.Core.Bool.{Bool, true, false}
use native.Mathlib.Omega.{arith}
use native.Mathlib.Decide.{dec_lt, ℕ_discrete}
use borrow.Author.Tests.{eq-eqb, ne_eqb}
use Rattle.std.specs.Prelude.{if◌then◌else◌}
use Rattle.majority.specs.Edge.{node_of, is_inverted, flip, redirect}
use Rattle.majority.specs.Node.{Meaning, edge_worth}
use Rattle.rules.specs.Rules.{plain}
use Rattle.majority.proofs.Nodes.{Respects, edge_related}
use Rattle.majority.proofs.Meanings.{SelfDual}

pub flip_node : (e : ℕ) → node_of (flip e) ≡ node_of e
unfolding flip
flip_node e = omega arith

flip_parity : (e : ℕ) → flip e % 2 + e % 2 ≡ 1
unfolding flip
flip_parity e = omega arith

module _ {A : Type 0} (𝓜 : Meaning A) where
  -- an edge that is not inverted is worth its node
  pub upright_worth : (v : ℕ → A) (e : ℕ) → is_inverted e ≡ false → edge_worth 𝓜 v e ≡ v (node_of e)
  unfolding edge_worth
  upright_worth v e h = rw h

  inverted_worth : (v : ℕ → A) (e : ℕ) → is_inverted e ≡ true → edge_worth 𝓜 v e ≡ 𝓜.inverse (v (node_of e))
  unfolding edge_worth
  inverted_worth v e h = rw h

  pub plain_worth : (v : ℕ → A) (k : ℕ) → edge_worth 𝓜 v (plain k) ≡ v k
  plain_worth v k =
      let even : plain k % 2 ≡ 1 → ⊥ = λ h. omega arith in
      let same : node_of (plain k) ≡ k = omega arith in
      upright_worth v (plain k) (ne_eqb _ _ even) ∙ ap v same

  pub flip_worth : SelfDual 𝓜 → (v : ℕ → A) (e : ℕ) → edge_worth 𝓜 v (flip e) ≡ 𝓜.inverse (edge_worth 𝓜 v e)
  flip_worth dual v e = go (dec_lt (e % 2) 1)
    where
      go : Dec (e % 2 < 1) → edge_worth 𝓜 v (flip e) ≡ 𝓜.inverse (edge_worth 𝓜 v e)
      go (yes h) =
          inverted_worth v (flip e) (eq-eqb (flip e % 2) 1 (omega (arith, flip_parity e)))
          ∙ rw (flip_node e, upright_worth v e (ne_eqb (e % 2) 1 (λ q. omega arith)))
      go (no h) =
          upright_worth v (flip e) (ne_eqb (flip e % 2) 1 (λ q. omega (arith, flip_parity e)))
          ∙ rw (flip_node e, inverted_worth v e (eq-eqb (e % 2) 1 (omega arith))) (sym (dual.twice _))

-- redirecting node g to the edge e
module _ (g e : ℕ) where
  redirect_hit : (x : ℕ) → node_of x ≡ g → redirect g e x ≡ (if is_inverted x then flip e else e)
  unfolding redirect
  redirect_hit x h = rw (eq-eqb (node_of x) g h)

  pub redirect_miss : (x : ℕ) → (node_of x ≡ g → ⊥) → redirect g e x ≡ x
  unfolding redirect
  redirect_miss x h = rw (ne_eqb (node_of x) g h)

  pub redirect_zero : 0 < g → redirect g e 0 ≡ 0
  redirect_zero h = redirect_miss 0 (λ q. omega arith)

  pub redirect_lowers : node_of e ≤ g → (x : ℕ) → node_of (redirect g e x) ≤ node_of x
  redirect_lowers lower x = go (ℕ_discrete (node_of x) g)
    where
      either : (t : Bool) → node_of (if t then flip e else e) ≡ node_of e
      either true = flip_node e
      either false = refl

      go : Dec (node_of x ≡ g) → node_of (redirect g e x) ≤ node_of x
      go (yes h) = rw (redirect_hit x h) (omega (arith, either (is_inverted x)))
      go (no h) = rw (redirect_miss x h) (omega arith)

  -- an edge stays related to what it becomes, where node g is related to e, and every other node to itself
  pub redirect_related : {A : Type 0} (𝓜 : Meaning A) → SelfDual 𝓜 → (Q : A → A → Type 0) → Respects 𝓜 Q → (v w : ℕ → A) (x : ℕ)
      → (node_of x ≡ g → Q (v g) (edge_worth 𝓜 w e)) → ((node_of x ≡ g → ⊥) → Q (v (node_of x)) (w (node_of x)))
      → Q (edge_worth 𝓜 v x) (edge_worth 𝓜 w (redirect g e x))
  redirect_related 𝓜 dual Q 𝓠 v w x here there = go (ℕ_discrete (node_of x) g)
    where
      either : (t : Bool) → is_inverted x ≡ t → node_of x ≡ g → Q (edge_worth 𝓜 v x) (edge_worth 𝓜 w (if t then flip e else e))
      either true t h = rw (inverted_worth 𝓜 v x t, flip_worth 𝓜 dual w e, h) (𝓠.inverses _ _ (here h))
      either false t h = rw (upright_worth 𝓜 v x t, h) (here h)

      go : Dec (node_of x ≡ g) → Q (edge_worth 𝓜 v x) (edge_worth 𝓜 w (redirect g e x))
      go (yes h) = rw (redirect_hit x h) (either (is_inverted x) refl h)
      go (no h) = rw (redirect_miss x h) (edge_related 𝓜 Q 𝓠 v w x x refl (there h))

  -- an edge to a node up to i stays related to what it becomes, where node g is related to e already before, and every node up to i to itself
  pub redirect_upto : {A : Type 0} (𝓜 : Meaning A) → SelfDual 𝓜 → (Q : A → A → Type 0) → Respects 𝓜 Q → ((a b c : A) → Q a b → Q b c → Q a c) → (v w : ℕ → A) → node_of e ≤ g
      → Q (v g) (edge_worth 𝓜 v e) → (i : ℕ) → ((k : ℕ) → k ≤ i → Q (v k) (w k)) → (x : ℕ) → node_of x ≤ i → Q (edge_worth 𝓜 v x) (edge_worth 𝓜 w (redirect g e x))
  redirect_upto 𝓜 dual Q 𝓠 chain v w lower here i below x h =
      redirect_related 𝓜 dual Q 𝓠 v w x
      (λ hit. chain _ _ _ here (edge_related 𝓜 Q 𝓠 v w e e refl (below (node_of e) (omega arith))))
      (λ miss. below (node_of x) h)

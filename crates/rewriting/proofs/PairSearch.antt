-- The search for the gate that has a pair of nodes among its edges: none below where it stands has, and what it finds is the one that is meant.
use Rattle.std.proofs.Common.{◌≡◌, ℕ, suc, ◌+◌, ◌-◌, ◌<◌, ◌≤◌, max, Bool, true, false, ◌||◌, eqb, List, sym, ap, ◌∙◌, true≢false, arith, eq-eqb, ne_eqb}
use native.Mathlib.Decide.{dec_lt}
use Rattle.majority.specs.Edge.{node_of}
use Rattle.majority.specs.Table.{WellFormed}
use Rattle.majority.specs.Edit.{node_record}
use Rattle.majority.specs.declared.Record.{Record}
use Rattle.majority.proofs.Logic.{neither}
use Rattle.majority.proofs.Formed.{reads_lower}
use Rattle.majority.proofs.Seek.{nothing_there, found_at}
use Rattle.rules.specs.Voter.{edge_to, among, pair_in, has_pair, pair_gate}
use Rattle.rules.proofs.Pair.{edge_to_node}
use Rattle.editing.specs.Edited.{names_node}

-- a record that does not name a has no pair of it
unnamed_edge : (p : Bool) (a x : ℕ) → eqb (node_of x) a ≡ false → eqb x (edge_to p a) ≡ false
unnamed_edge p a x h = ne_eqb x (edge_to p a) (λ q. true≢false (sym (eq-eqb (node_of x) a (ap node_of q ∙ edge_to_node p a)) ∙ h))

pub unnamed_pair : (a b : ℕ) (r : Record) → names_node a r ≡ false → has_pair a b r ≡ false
unfolding has_pair pair_in among
unnamed_pair a b r h =
    let w = neither (eqb (node_of r.e1) a || eqb (node_of r.e2) a) (eqb (node_of r.e3) a) h in
    let v = neither (eqb (node_of r.e1) a) (eqb (node_of r.e2) a) w.0 in
    rw (
      unnamed_edge true a r.e1 v.0,
      unnamed_edge true a r.e2 v.1,
      unnamed_edge true a r.e3 w.1,
      unnamed_edge false a r.e1 v.0,
      unnamed_edge false a r.e2 v.1,
      unnamed_edge false a r.e3 w.1,
    )

-- of the nodes from i on, none below k has the pair
abbrev pub Without : List Record → ℕ → ℕ → ℕ → ℕ → Type 0
Without t a b i k = (j : ℕ) → i ≤ j → j < k → has_pair a b (node_record t j) ≡ false

module _ {n m o : ℕ} {t : List Record} (formed : WellFormed n m o t) {g : ℕ} (from : n < g) (upto : g ≤ n + m) (a b : ℕ) where
  -- a gate up to a reads lower nodes, and so not a
  pub without_low : a < g → Without t a b (n + 1) (max n a + 1)
  without_low below j p q =
      let low = reads_lower formed (j - 1) (omega (arith, formed.whole)) in
      unnamed_pair a b _
      (rw (
        ne_eqb (node_of (node_record t j).e1) a (λ e. omega (arith, low.first)),
        ne_eqb (node_of (node_record t j).e2) a (λ e. omega (arith, low.second)),
        ne_eqb (node_of (node_record t j).e3) a (λ e. omega (arith, low.third)),
      ))

  -- and so none below k has the pair
  module _ (below : a < g) (k : ℕ) (none : Without t a b (max n a + 1) k) where
    fails : (j : ℕ) → suc n ≤ j → j < k → has_pair a b (node_record t j) ≡ false
    fails j p q = go (dec_lt j (max n a + 1))
      where
        go : Dec (j < max n a + 1) → has_pair a b (node_record t j) ≡ false
        go (yes h) = without_low below j (omega arith) h
        go (no h) = none j (omega arith) q

    pub pair_found : max n a + 1 ≤ k → k ≤ g → has_pair a b (node_record t k) ≡ true → k ≡ pair_gate n g a b t
    unfolding pair_gate
    pair_found p q here = sym (found_at (λ j. has_pair a b (node_record t j)) (g - n) (suc n) k (omega arith) (omega arith) fails here)

    pub pair_none : k ≡ g + 1 → k ≡ pair_gate n g a b t
    unfolding pair_gate
    pair_none e = e ∙ sym (nothing_there (λ j. has_pair a b (node_record t j)) (g - n) (suc n) (λ j p q. fails j p (omega arith)) ∙ omega arith)

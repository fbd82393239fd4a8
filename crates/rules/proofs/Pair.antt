-- The gate that has a and b among its edges in the same polarity: what the search for it found, in which polarity, and the gate's value where the two edges agree.
use Prim.Native.Nat.{ℕ, suc, ◌-◌, ◌%◌, ◌≤◌, ◌<◌}
use mathlib.Core.Path.{◌≡◌, refl, sym, ap, ◌∙◌}
use mathlib.Core.Bool.{Bool, true, false, true≢false, ◌||◌}
use mathlib.Core.List.{List}
use native.Mathlib.Omega.{arith}
use borrow.Author.Tests.{leb-true, eqb-true, eq-eqb, ne_eqb}
use lib.Dec.{eqb}
use Rattle.majority.specs.Edge.{node_of, is_inverted, flip}
use Rattle.majority.specs.Node.{edge_worth}
use Rattle.majority.specs.Value.{majority_of, values}
use Rattle.majority.specs.Edit.{node_record}
use Rattle.rules.specs.Voter.{edge_to, among, pair_in, has_pair, pair_gate, pair_polarity, voter_form}
use Rattle.rules.specs.Kept.{turned}
use Rattle.majority.specs.declared.Record.{Record}
use Rattle.majority.proofs.Logic.{both}
use Rattle.majority.proofs.Seek.{found_in_lem, holds_there}
use Rattle.majority.proofs.MajorityLaws.{majority_equal, majority_last, majority_outer}
use Rattle.rules.proofs.KeptByNodes.{Each}

-- the node and the polarity of an edge, and so its value
pub edge_to_node : (p : Bool) (k : ℕ) → node_of (edge_to p k) ≡ k
unfolding flip
edge_to_node true k = omega arith
edge_to_node false k = omega arith

pub edge_to_polarity : (p : Bool) (k : ℕ) → is_inverted (edge_to p k) ≡ p
unfolding flip
edge_to_polarity true k = eq-eqb (edge_to true k % 2) 1 (omega arith)
edge_to_polarity false k = ne_eqb (edge_to false k % 2) 1 (λ q. omega arith)

pub edge_to_value : (i : ℕ) (v : ℕ → Bool) (p : Bool) (k : ℕ) → edge_worth (values i) v (edge_to p k) ≡ turned p (v k)
unfolding edge_worth
edge_to_value i v p k = rw (edge_to_polarity p k, edge_to_node p k)

pub edges_differ : (p : Bool) {a b : ℕ} → a < b → edge_to p a ≡ edge_to p b → ⊥
edges_differ p {a} {b} order e = let q : a ≡ b = sym (edge_to_node p a) ∙ ap node_of e ∙ edge_to_node p b in omega arith

-- where an edge is among a record's
pub data Place (e : ℕ) (r : Record) : Type 0 where
  in_first : r.e1 ≡ e → Place e r
  in_second : r.e2 ≡ e → Place e r
  in_third : r.e3 ≡ e → Place e r

place : (e : ℕ) (r : Record) → among e r ≡ true → Place e r
unfolding among
place e r = go (eqb r.e1 e) refl (eqb r.e2 e) refl
  where
    go : (s : Bool) → eqb r.e1 e ≡ s → (t : Bool) → eqb r.e2 e ≡ t → (s || t || eqb r.e3 e) ≡ true → Place e r
    go true p t q h = in_first (eqb-true _ _ p)
    go false p true q h = in_second (eqb-true _ _ q)
    go false p false q h = in_third (eqb-true _ _ h)

-- what holds of each of the three holds of it
pub of_place : (P : ℕ → Type 0) {e : ℕ} {r : Record} → Each P r → Place e r → P e
of_place P each (in_first p) = rw p at each.0
of_place P each (in_second p) = rw p at each.1
of_place P each (in_third p) = rw p at each.2

-- two edges of the same value t decide
pub two_decide : (v : ℕ → Bool) (t : Bool) (x y : ℕ) (r : Record) → (x ≡ y → ⊥) → v x ≡ t → v y ≡ t → Place x r → Place y r
    → majority_of (v r.e1) (v r.e2) (v r.e3) ≡ t
two_decide v t x y r other vx vy (in_first p) (in_first q) = absurd (other (sym p ∙ q))
two_decide v t x y r other vx vy (in_first p) (in_second q) = rw (p, q, vx, vy) (majority_equal t _)
two_decide v t x y r other vx vy (in_first p) (in_third q) = rw (p, q, vx, vy) (majority_outer t _)
two_decide v t x y r other vx vy (in_second p) (in_first q) = rw (p, q, vx, vy) (majority_equal t _)
two_decide v t x y r other vx vy (in_second p) (in_second q) = absurd (other (sym p ∙ q))
two_decide v t x y r other vx vy (in_second p) (in_third q) = rw (p, q, vx, vy) (majority_last t _)
two_decide v t x y r other vx vy (in_third p) (in_first q) = rw (p, q, vx, vy) (majority_outer t _)
two_decide v t x y r other vx vy (in_third p) (in_second q) = rw (p, q, vx, vy) (majority_last t _)
two_decide v t x y r other vx vy (in_third p) (in_third q) = absurd (other (sym p ∙ q))

module _ (a b : ℕ) (r : Record) where
  pair_places : (p : Bool) → pair_in p a b r ≡ true → Place (edge_to p a) r × Place (edge_to p b) r
  unfolding pair_in
  pair_places p h = let w = both _ _ h in (place (edge_to p a) r w.0, place (edge_to p b) r w.1)

  -- the polarity in which the definition takes the pair is one in which it is there
  polarity : has_pair a b r ≡ true → pair_in (pair_in true a b r) a b r ≡ true
  unfolding has_pair
  polarity = go (pair_in true a b r) refl
    where
      go : (t : Bool) → pair_in true a b r ≡ t → (t || pair_in false a b r) ≡ true → pair_in t a b r ≡ true
      go true e h = e
      go false e h = h

  -- and the only one: that of two edges of three
  pub one_polarity : a < b → pair_in true a b r ≡ true → pair_in false a b r ≡ true → ⊥
  one_polarity order h h' = true≢false (sym (inverted true h) ∙ inverted false h')
    where
      inverted : (p : Bool) → pair_in p a b r ≡ true → majority_of (is_inverted r.e1) (is_inverted r.e2) (is_inverted r.e3) ≡ p
      inverted p h =
          let w = pair_places p h in
          two_decide is_inverted p (edge_to p a) (edge_to p b) r (edges_differ p order) (edge_to_polarity p a) (edge_to_polarity p b) w.0 w.1

-- what the form says of c: it is a gate up to g, with a and b among its edges in the polarity p
pub record Pair (n g a b c : ℕ) (p : Bool) (rs : List Record) : Type 0 where
  pub from : n < c
  pub upto : c ≤ g
  pub to_a : Place (edge_to p a) (node_record rs c)
  pub to_b : Place (edge_to p b) (node_record rs c)

pub has_pair_lem : (n g a b : ℕ) (rs : List Record) → n < g → voter_form n g a b rs ≡ true → Pair n g a b (pair_gate n g a b rs) (pair_polarity n g a b rs) rs
unfolding voter_form pair_gate pair_polarity
has_pair_lem n g a b rs some form =
    let r = node_record rs (pair_gate n g a b rs) in
    let test : ℕ → Bool = λ c. has_pair a b (node_record rs c) in
    let upto : pair_gate n g a b rs ≤ g = leb-true _ _ (both _ _ form).0 in
    let w = pair_places a b r _ (polarity a b r (holds_there test (g - n) (suc n) (omega arith))) in
    record { from = (found_in_lem test (g - n) (suc n)).0; upto = upto; to_a = w.0; to_b = w.1 }

-- Rule 9, error voters: under each assignment two at least of the three copies are exact, and two of three decide.
use Prim.Native.Nat.{ℕ, ◌+◌, ◌-◌, ◌*◌, ◌<◌}
use mathlib.Core.Path.{◌≡◌, refl, sym, ap, ◌∙◌, subst}
use mathlib.Core.Bool.{Bool, true, false, not}
use mathlib.Core.List.{List, [], ◌++◌, append-nil, append_assoc}
use native.Mathlib.Omega.{arith}
use native.Mathlib.Decide.{dec_lt}
use borrow.Author.Tests.{leb-true}
use lib.ListN.{length, length-append}
use lib.Dec.{leb}
use Rattle.majority.specs.Edge.{node_of, flip}
use Rattle.majority.specs.Table.{record_at, Below}
use Rattle.majority.specs.Node.{edge_worth}
use Rattle.majority.specs.Value.{majority_of, values, value}
use Rattle.majority.specs.Level.{levels, level}
use Rattle.majority.specs.Edit.{node_record, insert, become}
use Rattle.rules.specs.Voter.{edge_to, pair_gate, pair_polarity, voter_form, Copy, copied, first_copy, second_copy, third_copy, copies, votes, voter}
use Rattle.rules.specs.Kept.{raising, turned, NodesKept}
use Rattle.majority.specs.declared.Record.{Record}
use Rattle.majority.proofs.Logic.{both}
use Rattle.majority.proofs.Levels.{above_least, edge_level_lem}
use Rattle.majority.proofs.Meanings.{not_twice}
use Rattle.majority.proofs.MajorityLaws.{majority_equal, majority_last, majority_outer}
use Rattle.rules.proofs.GateNodes.{GateOf, gate_reads, gate_node, gate_level_lem}
use Rattle.rules.proofs.InsertNodes.{GatesInOrder}
use Rattle.rules.proofs.InsertAndBecome.{growth_kept}
use Rattle.rules.proofs.Copies.{StandsFor, CopyIn, Exact, copied_length, copy_gate, root_reads, copy_exact, root_level}
use Rattle.rules.proofs.Pair.{edge_to_value, edges_differ, Place, of_place, two_decide, Pair, has_pair_lem}

-- the vote: x and y are the values of the edges to a and b, z that of c. The first copy is right where y is the inverse of x, the others where z is x or y
vote : (x y z t r s u : Bool) → (x ≡ y → z ≡ x) → (y ≡ not x → r ≡ t) → (z ≡ x → s ≡ t) → (z ≡ y → u ≡ t) → majority_of r s u ≡ t
vote true true z t r s u agree first second third = rw (second (agree refl), third (agree refl)) (majority_last t r)
vote false false z t r s u agree first second third = rw (second (agree refl), third (agree refl)) (majority_last t r)
vote true false true t r s u agree first second third = rw (first refl, second refl) (majority_equal t u)
vote true false false t r s u agree first second third = rw (first refl, third refl) (majority_outer t s)
vote false true false t r s u agree first second third = rw (first refl, second refl) (majority_equal t u)
vote false true true t r s u agree first second third = rw (first refl, third refl) (majority_outer t s)

-- edges of opposite values, in the same polarity, name nodes of opposite values
opposite : (p x y : Bool) → turned p y ≡ not (turned p x) → y ≡ not x
opposite true x y h = sym (not_twice y) ∙ ap not h ∙ not_twice (not x)
opposite false x y h = h

module _ {n m o g : ℕ} {rs : List Record} (is : GateOf n m o g rs) (a b : ℕ) (order : a < b) (form : voter_form n g a b rs ≡ true) where
  abbrev c : ℕ
  c = pair_gate n g a b rs

  abbrev p : Bool
  p = pair_polarity n g a b rs

  abbrev one : Copy
  one = first_copy n g a b rs

  abbrev two : Copy
  two = second_copy n g a b rs

  abbrev three : Copy
  three = third_copy n g a b rs

  pair : Pair n g a b c p rs
  pair = has_pair_lem n g a b rs is.from form

  gate_c : GateOf n m o c rs
  gate_c = record { formed = is.formed; from = pair.from; upto = omega (arith, is.upto, pair.upto) }

  -- under one assignment
  module _ (i : ℕ) where
    abbrev v : ℕ → Bool
    v = value i rs

    -- the values of the edges to a and b
    abbrev x : Bool
    x = edge_worth (values i) v (edge_to p a)

    abbrev y : Bool
    y = edge_worth (values i) v (edge_to p b)

    -- where they are the same, they decide c
    agree : x ≡ y → v c ≡ x
    agree e =
        gate_node gate_c (values i)
        ∙ two_decide (edge_worth (values i) v) x (edge_to p a) (edge_to p b) (node_record rs c) (edges_differ p order) refl (sym e) pair.to_a pair.to_b

    -- where they differ, b is the inverse of a
    inverse : y ≡ not x → v b ≡ edge_worth (values i) v (edge_to true a)
    inverse e = opposite p (v a) (v b) (sym (edge_to_value i v p b) ∙ e ∙ ap not (edge_to_value i v p a)) ∙ sym (edge_to_value i v true a)

    -- two of the three copies are exact, and decide
    two_exact : (t r s u : Bool) → (Exact i rs one → r ≡ t) → (Exact i rs two → s ≡ t) → (Exact i rs three → u ≡ t) → majority_of r s u ≡ t
    two_exact t r s u first second third = vote x y (v c) t r s u agree (λ e. first (inverse e)) second third

  abbrev k : ℕ
  k = g - n

  abbrev news : List Record
  news = copies n g a b rs

  abbrev after : List Record
  after = insert g news rs

  -- an edge to a stands for b, by the form's levels, and an edge of c for c
  for_b : {e : ℕ} → node_of e ≡ a → StandsFor rs b e
  unfolding voter_form
  for_b {e} at = record { some = omega arith; lower = omega arith; deep = rw (edge_level_lem (level rs) e, at) (leb-true _ _ (both (leb c g) _ form).1) }

  for_c : {e : ℕ} → Place e (node_record rs c) → StandsFor rs c e
  for_c at =
      let low = gate_reads gate_c in
      let lv = gate_level_lem gate_c in
      let w = of_place (λ e. (node_of e < c) × (edge_worth levels (level rs) e < level rs c)) ((low.first, lv.0), (low.second, lv.1), (low.third, lv.2)) at in
      record { some = omega (arith, pair.from); lower = omega (arith, w.0); deep = omega (arith, w.1) }

  -- the three copies among the new gates
  pub first_in : CopyIn n g news rs one
  unfolding flip
  first_in = record { stands = for_b (omega arith); front = []; back = copied n g two rs ++ copied n g three rs; split = refl; begins = refl }

  pub second_in : CopyIn n g news rs two
  second_in = record { stands = for_c pair.to_a; front = copied n g one rs; back = copied n g three rs; split = refl; begins = copied_length is one }

  pub third_in : CopyIn n g news rs three
  third_in = record {
    stands = for_c pair.to_b;
    front = copied n g one rs ++ copied n g two rs;
    back = [];
    split = rw (append_assoc, append-nil);
    begins = simp length-append (omega (arith, copied_length is one, copied_length is two));
  }

  pub thrice : length news ≡ 3 * k
  thrice = simp length-append (omega (arith, copied_length is one, copied_length is two, copied_length is three))

  -- every new gate is in one of them
  pub by_copy : (P : ℕ → Type 0) → ((i : ℕ) → i < k → P (0 + i)) → ((i : ℕ) → i < k → P (k + i)) → ((i : ℕ) → i < k → P (2 * k + i)) → (t : ℕ) → t < length news → P t
  by_copy P q1 q2 q3 t h = go (dec_lt t k) (dec_lt t (2 * k))
    where
      go : Dec (t < k) → Dec (t < 2 * k) → P t
      go (yes l) _ = let e : 0 + t ≡ t = omega arith in subst P e (q1 t l)
      go (no l) (yes l') = let e : k + (t - k) ≡ t = omega arith in subst P e (q2 (t - k) (omega arith))
      go (no l) (no l') = let e : 2 * k + (t - 2 * k) ≡ t = omega arith in subst P e (q3 (t - 2 * k) (omega (arith, thrice)))

  gates : GatesInOrder g news
  gates = by_copy (λ t. ((record_at news t).kind ≡ 2) × Below (g + t) (record_at news t)) (copy_gate is first_in) (copy_gate is second_in) (copy_gate is third_in)

  pub voter_kept : NodesKept 1 n m (m + 3 * k) o (raising g (3 * k)) rs (voter n g a b rs)
  unfolding voter
  voter_kept =
      subst (λ (c : ℕ). NodesKept 1 n m (m + c) o (raising g c) rs (become (g + c) (votes n g a b rs) after)) thrice
      (growth_kept is news gates (votes n g a b rs) refl
      (record { first = root_reads is first_in; second = root_reads is second_in; third = root_reads is third_in })
      (λ i. sym (two_exact i _ _ _ _ (copy_exact is first_in gates i) (copy_exact is second_in gates i) (copy_exact is third_in gates i)))
      (above_least _ _ _ _ (root_level is first_in gates) (root_level is second_in gates) (root_level is third_in gates)))

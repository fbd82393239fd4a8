-- The marks that are handed down, record by record from the last, are those of the reached nodes.
use Rattle.std.proofs.Common.{◌≡◌, ℕ, zero, suc, ◌+◌, ◌<◌, ◌≤◌, Bool, true, false, ◌||◌, eqb, List, [], ◌∷◌, length, get_or, set, sym, refl, ap, ◌∙◌, subst, arith, length-set, drop_of_length-le, drop-cons, get_or-set_other, get_or-set_same}
use native.Mathlib.Decide.{ℕ_discrete}
use Rattle.std.specs.Prelude.{if◌then◌else◌}
use Rattle.majority.specs.Edge.{node_of}
use Rattle.majority.specs.Table.{blank, record_at, Below, WellFormed}
use Rattle.rules.specs.Sweep.{member, reached}
use Rattle.majority.specs.declared.Record.{Record}
use Rattle.rules.proofs.Reached.{member_here, member_other}
use Rattle.rewriting.specs.inner.Marks.{reached_by, Marked, mark_names}

-- three nodes, in either order
turned : (a b c rest : Bool) → (c || (b || (a || rest))) ≡ (a || (b || (c || rest)))
turned true true true rest = refl
turned true true false rest = refl
turned true false true rest = refl
turned true false false rest = refl
turned false true true rest = refl
turned false true false rest = refl
turned false false true rest = refl
turned false false false rest = refl

members_turned : (k x y z : ℕ) (ks : List ℕ) → member k (z ∷ y ∷ x ∷ ks) ≡ member k (x ∷ y ∷ z ∷ ks)
unfolding member
members_turned k x y z ks = turned (eqb k x) (eqb k y) (eqb k z) (member k ks)

-- no node is in no list
member_nothing : (k : ℕ) → member k [] ≡ false
unfolding member
member_nothing k = refl

module _ {ks : List ℕ} {marks : List Bool} (is : Marked ks marks) where
  -- one node more
  marked_more : (x : ℕ) → x < 1057 → Marked (x ∷ ks) (set marks x true)
  marked_more x h = record { room = length-set marks x true ∙ is.room; marked = λ k p q. go k p q (ℕ_discrete k x) }
    where
      go : (k : ℕ) → 1 ≤ k → k < 1057 → Dec (k ≡ x) → get_or (set marks x true) k false ≡ member k (x ∷ ks)
      go k p q (yes e) = rw e (get_or-set_same marks x true false (omega (arith, is.room)) ∙ sym (member_here x ks))
      go k p q (no e) = get_or-set_other marks x k true false e ∙ is.marked k p q ∙ sym (member_other k x ks e)

-- the three nodes that a record names
marked_names : {ks : List ℕ} {marks : List Bool} (r : Record) → Below 1057 r → Marked ks marks → Marked (node_of r.e1 ∷ node_of r.e2 ∷ node_of r.e3 ∷ ks) (mark_names marks r)
marked_names {ks} r low is =
    let w = marked_more (marked_more (marked_more is (node_of r.e1) low.first) (node_of r.e2) low.second) (node_of r.e3) low.third in
    record { room = w.room; marked = λ k p q. w.marked k p q ∙ members_turned k (node_of r.e1) (node_of r.e2) (node_of r.e3) ks }

-- what the records from record i on reach, by the kind of record i
module _ {n m o : ℕ} {t : List Record} (formed : WellFormed n m o t) where
  reached_output : (i : ℕ) → n + m ≤ i → i < n + m + o → reached_by t i ≡ node_of (record_at t i).e1 ∷ 0 ∷ 0 ∷ reached_by t (suc i)
  unfolding reached_by
  reached_output i p q = rw (drop-cons t i blank (omega (arith, formed.whole)), (formed.outputs i p q).0)

  reached_gate : (i : ℕ) → n ≤ i → i < n + m → reached_by t i
      ≡ (if member (suc i) (reached_by t (suc i)) then node_of (record_at t i).e1 ∷ node_of (record_at t i).e2 ∷ node_of (record_at t i).e3 ∷ reached_by t (suc i) else reached_by t (suc i))
  unfolding reached_by
  reached_gate i p q = rw (drop-cons t i blank (omega (arith, formed.whole)), (formed.gates i p q).0)

  reached_input : (i : ℕ) → i < n → reached_by t i ≡ reached_by t (suc i)
  unfolding reached_by
  reached_input i h = rw (drop-cons t i blank (omega (arith, formed.whole)), formed.inputs i h)

  -- the inputs' records add nothing
  reached_all : (i : ℕ) → i ≤ n → reached_by t i ≡ reached t
  unfolding reached_by
  reached_all zero h = refl
  reached_all (suc i) h = sym (reached_input i (omega arith)) ∙ reached_all i (omega arith)

  -- before the last record nothing is reached
  reached_none : reached_by t (n + m + o) ≡ []
  unfolding reached_by
  reached_none = rw (drop_of_length-le t {i = n + m + o} (omega (arith, formed.whole)))

-- the outputs of t so far are marked: a node is marked, or an output from output j on reaches it
pub record Marking (t : List Record) (first j : ℕ) (marks : List Bool) : Type 0 where
  pub room : length marks ≡ 1057
  pub marked : (k : ℕ) → 1 ≤ k → k < 1057 → (get_or marks k false || member k (reached_by t (first + j))) ≡ member k (reached_by t first)

or_none : (b : Bool) → (b || false) ≡ b
or_none true = refl
or_none false = refl

or_true : (b : Bool) → (b || true) ≡ true
or_true true = refl
or_true false = refl

module _ {n m o : ℕ} {t : List Record} (formed : WellFormed n m o t) where
  pub marking_next : {marks : List Bool} (j e : ℕ) → j < o → e ≡ (record_at t (n + m + j)).e1 → node_of e < 1057 → Marking t (n + m) j marks → Marking t (n + m) (j + 1) (set marks (node_of e) true)
  marking_next {marks} j e h reads low is = record { room = length-set marks (node_of e) true ∙ is.room; marked = λ k p q. go k p q (ℕ_discrete k (node_of e)) }
    where
      after : reached_by t (n + m + j) ≡ node_of e ∷ 0 ∷ 0 ∷ reached_by t (n + m + (j + 1))
      after = let next : suc (n + m + j) ≡ n + m + (j + 1) = omega arith in reached_output formed (n + m + j) (omega arith) (omega arith) ∙ rw (next, reads)

      go : (k : ℕ) → 1 ≤ k → k < 1057 → Dec (k ≡ node_of e) → (get_or (set marks (node_of e) true) k false || member k (reached_by t (n + m + (j + 1)))) ≡ member k (reached_by t (n + m))
      go k p q (yes here) =
          let all : member k (reached_by t (n + m + j)) ≡ true = rw (after, here) (member_here (node_of e) _) in
          let marked : get_or (set marks (node_of e) true) k false ≡ true = rw here (get_or-set_same marks (node_of e) true false (omega (arith, is.room))) in
          rw marked (sym (or_true (get_or marks k false)) ∙ rw all at (is.marked k p q))
      go k p q (no other) =
          let same : member k (reached_by t (n + m + j)) ≡ member k (reached_by t (n + m + (j + 1))) =
          ap (member k) after ∙ member_other k (node_of e) _ other ∙ member_other k 0 _ (λ z. omega arith) ∙ member_other k 0 _ (λ z. omega arith)
          in
          rw (get_or-set_other marks (node_of e) k true false other, ← same) (is.marked k p q)

  pub marking_end : {marks : List Bool} (j : ℕ) → j ≡ o → Marking t (n + m) j marks → Marked (reached_by t (n + m)) marks
  marking_end {marks} j e is = record { room = is.room; marked = λ k p q. sym (or_none (get_or marks k false)) ∙ (rw (e, reached_none formed, member_nothing k) at (is.marked k p q)) }

  -- one gate further down, of node k
  module _ {marks : List Bool} (k next : ℕ) (one : next + 1 ≡ k) (few : k < 1057) (p : n < k) (q : k ≤ n + m) (is : Marked (reached_by t k) marks) where
    handed : reached_by t next ≡ (if get_or marks k false then node_of (record_at t next).e1 ∷ node_of (record_at t next).e2 ∷ node_of (record_at t next).e3 ∷ reached_by t k else reached_by t k)
    handed = let e : suc next ≡ k = omega arith in rw (reached_gate formed next (omega arith) (omega arith), e, is.marked k (omega arith) few)

    pub mark_gate : (r : Record) → r ≡ record_at t next → Below 1057 r → get_or marks k false ≡ true → Marked (reached_by t next) (mark_names marks r)
    mark_gate r reads low own = rw (handed, own, ← reads) (marked_names r low is)

    pub mark_skip : get_or marks k false ≡ false → Marked (reached_by t next) marks
    mark_skip own = rw (handed, own) is

  -- the inputs hand nothing down
  pub mark_end : {marks : List Bool} (k : ℕ) → k ≡ n → Marked (reached_by t k) marks → Marked (reached t) marks
  mark_end {marks} k e is = subst (λ (ks : List ℕ). Marked ks marks) (reached_all formed k (omega arith)) is

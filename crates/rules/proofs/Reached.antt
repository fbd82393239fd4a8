-- The reached nodes are the least set that holds what an output names, and with a gate what it names.
use Prim.Native.Nat.{ℕ, zero, suc, ◌+◌, ◌≤◌, ◌<◌}
use mathlib.Core.Path.{◌≡◌, refl, sym, ap, ◌∙◌, subst}
use mathlib.Core.Bool.{Bool, true, false, or-true, false≢true}
use mathlib.Core.List.{List, [], ◌∷◌}
use native.Mathlib.Omega.{arith}
use native.Mathlib.Nat.{add-zero}
use native.Mathlib.Decide.{dec_lt, ℕ_discrete}
use borrow.Author.Tests.{eq-eqb, ne_eqb}
use lib.Dec.{eqb}
use lib.ListN.{length}
use Rattle.std.specs.Prelude.{if◌then◌else◌}
use Rattle.majority.specs.Edge.{node_of}
use Rattle.majority.specs.Table.{record_at, Below, WellFormed}
use Rattle.majority.specs.Node.{by_kind}
use Rattle.rules.specs.Sweep.{member, reached_from, reached}
use Rattle.majority.specs.declared.Record.{Record}
use Rattle.majority.proofs.Formed.{reads_lower}
use Rattle.rules.proofs.KeptByNodes.{Each}

-- membership
pub member_here : (k : ℕ) (xs : List ℕ) → member k (k ∷ xs) ≡ true
unfolding member
member_here k xs = rw (eq-eqb k k refl)

member_later : (k x : ℕ) (xs : List ℕ) → member k xs ≡ true → member k (x ∷ xs) ≡ true
unfolding member
member_later k x xs h = rw h (or-true (eqb k x))

pub member_other : (k x : ℕ) (xs : List ℕ) → (k ≡ x → ⊥) → member k (x ∷ xs) ≡ member k xs
unfolding member
member_other k x xs h = rw (ne_eqb k x h)

member_none : (k : ℕ) → member k [] ≡ true → ⊥
unfolding member
member_none k h = false≢true h

member_cases : (P : ℕ → Type 0) (k x : ℕ) (xs : List ℕ) → P x → (member k xs ≡ true → P k) → member k (x ∷ xs) ≡ true → P k
member_cases P k x xs p q h = go (ℕ_discrete k x)
  where
    go : Dec (k ≡ x) → P k
    go (yes e) = rw e p
    go (no e) = q (sym (member_other k x xs e) ∙ h)

-- the nodes that a record names are P
abbrev pub Names : (ℕ → Type 0) → Record → Type 0
Names P r = Each (λ x. P (node_of x)) r

-- one record in front of those that reach the nodes `later`; `on` says whether it reaches what it names
module _ (r : Record) (later : List ℕ) where
  abbrev joined : Bool → List ℕ
  joined on = if on then node_of r.e1 ∷ node_of r.e2 ∷ node_of r.e3 ∷ later else later

  joined_later : (k : ℕ) (on : Bool) → member k later ≡ true → member k (joined on) ≡ true
  joined_later k true h = member_later k _ _ (member_later k _ _ (member_later k _ _ h))
  joined_later k false h = h

  -- it adds no node from its own on
  joined_from : (b k : ℕ) (on : Bool) → Below b r → b ≤ k → member k (joined on) ≡ member k later
  joined_from b k true low h =
      member_other k _ _ (λ e. omega (arith, low.first)) ∙ member_other k _ _ (λ e. omega (arith, low.second)) ∙ member_other k _ _ (λ e. omega (arith, low.third))
  joined_from b k false low h = refl

  joined_names : (on : Bool) → on ≡ true → Names (λ k. member k (joined on) ≡ true) r
  joined_names on h = rw h (member_here _ _, member_later _ _ _ (member_here _ _), member_later _ _ _ (member_later _ _ _ (member_here _ _)))

  joined_cases : (P : ℕ → Type 0) (k : ℕ) (on : Bool) → (on ≡ true → Names P r) → (member k later ≡ true → P k) → member k (joined on) ≡ true → P k
  joined_cases P k true names rest h = let w = names refl in member_cases P k _ _ w.0 (member_cases P k _ _ w.1 (member_cases P k _ _ w.2 rest)) h
  joined_cases P k false names rest h = rest h

-- whether a record reaches what it names, given whether its own node is reached
abbrev reaches : Record → Bool → Bool
reaches r own = by_kind r.kind false own true false

reaching : (X : Type 0) (k : ℕ) (own : Bool) → (3 ≤ k → X) → (k ≡ 2 → own ≡ true → X) → by_kind k false own true false ≡ true → X
reaching X zero own o g h = absurd (false≢true h)
reaching X (suc zero) own o g h = absurd (false≢true h)
reaching X (suc (suc zero)) own o g h = g refl h
reaching X (suc (suc (suc k))) own o g h = o (omega arith)

from_closed : (b : ℕ) (rs : List Record) → ((j : ℕ) → j < length rs → Below (b + j) (record_at rs j)) → (j : ℕ) → j < length rs
    → reaches (record_at rs j) (member (b + j) (reached_from b rs)) ≡ true → Names (λ k. member k (reached_from b rs) ≡ true) (record_at rs j)
from_closed b [] low j h s = absurd (omega arith)
from_closed b (r ∷ rs) low zero h s =
    let later = reached_from (suc b) rs in
    let on = reaches r (member b later) in
    joined_names r later on (ap (reaches r) (sym (joined_from r later b b on (rw (add-zero b) at (low 0 h)) (omega arith))) ∙ (rw (add-zero b) at s))
from_closed b (r ∷ rs) low (suc j) h s =
    let later = reached_from (suc b) rs in
    let on = reaches r (member b later) in
    let next : (i : ℕ) → b + suc i ≡ suc b + i = λ i. omega arith in
    let rest = from_closed (suc b) rs (λ i l. rw (next i) at (low (suc i) (omega arith))) j (omega arith)
    (ap (reaches (record_at rs j)) (sym (joined_from r later b (suc b + j) on (rw (add-zero b) at (low 0 (omega arith))) (omega arith))) ∙ (rw (next j) at s))
    in
    (joined_later r later _ on rest.0, joined_later r later _ on rest.1, joined_later r later _ on rest.2)

from_least : (P : ℕ → Type 0) (b : ℕ) (rs : List Record)
    → ((j : ℕ) → j < length rs → 3 ≤ (record_at rs j).kind → Names P (record_at rs j))
    → ((j : ℕ) → j < length rs → (record_at rs j).kind ≡ 2 → P (b + j) → Names P (record_at rs j))
    → (k : ℕ) → member k (reached_from b rs) ≡ true → P k
from_least P b [] outputs gates k h = absurd (member_none k h)
from_least P b (r ∷ rs) outputs gates k h =
    let later = reached_from (suc b) rs in
    let next : (i : ℕ) → b + suc i ≡ suc b + i = λ i. omega arith in
    let rest : (k : ℕ) → member k later ≡ true → P k =
    from_least P (suc b) rs (λ j l. outputs (suc j) (omega arith)) (λ j l e p. gates (suc j) (omega arith) e (rw (next j) p))
    in
    joined_cases r later P k (reaches r (member b later))
    (reaching (Names P r) r.kind (member b later) (outputs 0 (omega arith)) (λ e own. gates 0 (omega arith) e (rw (add-zero b) (rest b own))))
    (rest k)
    h

-- P holds of what each output names, and with a gate of what that names
pub record Closed (P : ℕ → Type 0) (n m o : ℕ) (rs : List Record) : Type 0 where
  pub outputs : (j : ℕ) → n + m ≤ j → j < n + m + o → P (node_of (record_at rs j).e1)
  pub gates : (j : ℕ) → n ≤ j → j < n + m → P (suc j) → Names P (record_at rs j)

module _ {n m o : ℕ} {rs : List Record} (formed : WellFormed n m o rs) where
  named_reached : (j : ℕ) → j < n + m + o → reaches (record_at rs j) (member (suc j) (reached rs)) ≡ true → Names (λ k. member k (reached rs) ≡ true) (record_at rs j)
  named_reached j h s =
      let one : (i : ℕ) → suc i ≡ 1 + i = λ i. omega arith in
      from_closed 1 rs (λ i l. rw (one i) at (reads_lower formed i l)) j (omega (arith, formed.whole)) (rw (one j) at s)

  pub gate_reached : (j : ℕ) → n ≤ j → j < n + m → member (suc j) (reached rs) ≡ true → Names (λ k. member k (reached rs) ≡ true) (record_at rs j)
  gate_reached j p q s = named_reached j (omega arith) (rw (formed.gates j p q).0 s)

  pub output_reached : (j : ℕ) → n + m ≤ j → j < n + m + o → Names (λ k. member k (reached rs) ≡ true) (record_at rs j)
  output_reached j p q = named_reached j q (rw (formed.outputs j p q).0)

  pub reached_closed : Closed (λ k. member k (reached rs) ≡ true) n m o rs
  reached_closed = record { outputs = λ j p q. (output_reached j p q).0; gates = gate_reached }

  -- an output's record has zeros beside its edge, and so names the constant too
  pub reached_least : (P : ℕ → Type 0) → P 0 → Closed P n m o rs → (k : ℕ) → member k (reached rs) ≡ true → P k
  reached_least P constant closed =
      from_least P 1 rs (λ j l e. output j l e (dec_lt j n) (dec_lt j (n + m))) (λ j l e p. gate j l e p (dec_lt j n) (dec_lt j (n + m)))
    where
      of_input : (j : ℕ) → j < n → (record_at rs j).kind ≡ 1
      of_input j p = ap (λ (r : Record). r.kind) (formed.inputs j p)

      output : (j : ℕ) → j < length rs → 3 ≤ (record_at rs j).kind → Dec (j < n) → Dec (j < n + m) → Names P (record_at rs j)
      output j l e (yes p) _ = absurd (omega (arith, of_input j p))
      output j l e (no p) (yes q) = absurd (omega (arith, (formed.gates j (omega arith) q).0))
      output j l e (no p) (no q) =
          let inside : j < n + m + o = omega (arith, formed.whole) in
          let is = (formed.outputs j (omega arith) inside).0 in (
            closed.outputs j (omega arith) inside,
            subst (λ (x : ℕ). P (node_of x)) (sym (ap (λ (r : Record). r.e2) is)) constant,
            subst (λ (x : ℕ). P (node_of x)) (sym (ap (λ (r : Record). r.e3) is)) constant,
          )

      gate : (j : ℕ) → j < length rs → (record_at rs j).kind ≡ 2 → P (1 + j) → Dec (j < n) → Dec (j < n + m) → Names P (record_at rs j)
      gate j l e p (yes a) _ = absurd (omega (arith, of_input j a))
      gate j l e p (no a) (yes b) = let one : 1 + j ≡ suc j = omega arith in closed.gates j (omega arith) b (rw one at p)
      gate j l e p (no a) (no b) =
          let k : (record_at rs j).kind ≡ 3 = ap (λ (r : Record). r.kind) (formed.outputs j (omega arith) (omega (arith, formed.whole))).0 in
          absurd (omega arith)

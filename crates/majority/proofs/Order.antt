-- Where no kind is bad, the records are inputs, then gates, then outputs, as many as the counts say; and the other way round.
use Prim.Native.Nat.{ℕ, zero, suc, ◌+◌, ◌-◌, ◌≤◌, ◌<◌}
use mathlib.Core.Path.{◌≡◌, refl, sym, ◌∙◌, ap}
use mathlib.Core.Bool.{false, ◌||◌}
use mathlib.Core.Logic.{⊎_elim}
use mathlib.Core.List.{List, [], ◌∷◌}
use native.Mathlib.Nat.{eq-or-lt_of_le}
use native.Mathlib.Omega.{arith}
use native.Mathlib.Decide.{dec_lt}
use borrow.Author.Tests.{ltb-false, le-ltb, eq-eqb, ne_eqb}
use lib.Dec.{ltb}
use lib.ListN.{length}
use Rattle.majority.specs.Table.{record_at}
use Rattle.majority.specs.Check.{bad_kind, kind_before, bad_kind_at, count}
use Rattle.majority.specs.declared.Record.{Record}
use Rattle.majority.proofs.Logic.{neither}

-- the first records are n inputs, then m gates, then o outputs
pub record InOrder (n m o : ℕ) (rs : List Record) : Type 0 where
  pub inputs : (j : ℕ) → j < n → (record_at rs j).kind ≡ 1
  pub gates : (j : ℕ) → n ≤ j → j < n + m → (record_at rs j).kind ≡ 2
  pub outputs : (j : ℕ) → n + m ≤ j → j < n + m + o → (record_at rs j).kind ≡ 3

-- what a kind that is not bad is
good_kind : (before kind : ℕ) → bad_kind before kind ≡ false → (1 ≤ kind) × (kind ≤ 3) × (before ≤ kind)
good_kind before kind e =
    let p = neither (ltb kind 1 || ltb 3 kind) (ltb kind before) e in
    let q = neither (ltb kind 1) (ltb 3 kind) p.0 in
    (ltb-false _ _ q.0, ltb-false _ _ q.1, ltb-false _ _ p.1)

kind_good : (before kind : ℕ) → 1 ≤ kind → kind ≤ 3 → before ≤ kind → bad_kind before kind ≡ false
kind_good before kind a b c = rw (le-ltb kind 1 a, le-ltb 3 kind b, le-ltb kind before c)

-- one more record in front
counted : (k : ℕ) (r : Record) (rs : List Record) → r.kind ≡ k → count k (r ∷ rs) ≡ suc (count k rs)
unfolding count
counted k r rs e = rw (eq-eqb _ _ e) (omega arith)

passed_over : (k : ℕ) (r : Record) (rs : List Record) → (r.kind ≡ k → ⊥) → count k (r ∷ rs) ≡ count k rs
unfolding count
passed_over k r rs e = rw (ne_eqb _ _ e) (omega arith)

-- counts with one record more in front, and without it
record OneMore (n m o n' m' o' : ℕ) : Type 0 where
  input_low : n ≤ suc n'
  input_high : n' ≤ n - 1
  gate_low : n + m ≤ suc (n' + m')
  gate_high : n' + m' ≤ n + m - 1
  all : n + m + o ≡ suc (n' + m' + o')

input_more : {n m o : ℕ} → OneMore (suc n) m o n m o
input_more = record { input_low = omega arith; input_high = omega arith; gate_low = omega arith; gate_high = omega arith; all = omega arith }

gate_more : {m o : ℕ} → OneMore 0 (suc m) o 0 m o
gate_more = record { input_low = omega arith; input_high = omega arith; gate_low = omega arith; gate_high = omega arith; all = omega arith }

output_more : {o : ℕ} → OneMore 0 0 (suc o) 0 0 o
output_more = record { input_low = omega arith; input_high = omega arith; gate_low = omega arith; gate_high = omega arith; all = omega arith }

-- what holds of the first record and, one further on, of the rest
in_front : (P : ℕ → Type 0) → P 0 → ((j : ℕ) → P (suc j)) → (j : ℕ) → P j
in_front P here there zero = here
in_front P here there (suc j) = there j

module _ (r : Record) (rs : List Record) where
  kinds_from : ℕ → ℕ → ℕ → ℕ → Type 0
  kinds_from k a b j = a ≤ j → j < b → (record_at (r ∷ rs) j).kind ≡ k

  module _ {n m o n' m' o' : ℕ} (more : OneMore n m o n' m' o') where
    front : (0 < n → r.kind ≡ 1) → (n ≤ 0 → 0 < n + m → r.kind ≡ 2) → (n + m ≤ 0 → r.kind ≡ 3) → InOrder n' m' o' rs → InOrder n m o (r ∷ rs)
    unfolding kinds_from
    front e1 e2 e3 s = record {
      inputs = λ j. in_front (kinds_from 1 0 n) (λ p. e1) (λ i p q. s.inputs i (omega arith)) j (omega arith);
      gates = in_front (kinds_from 2 n (n + m)) e2 (λ i p q. s.gates i (omega arith) (omega arith));
      outputs = in_front (kinds_from 3 (n + m) (n + m + o)) (λ p q. e3 p) (λ i p q. s.outputs i (omega arith) (omega arith));
    }

    rest : InOrder n m o (r ∷ rs) → InOrder n' m' o' rs
    rest s = record {
      inputs = λ j h. s.inputs (suc j) (omega arith);
      gates = λ j p q. s.gates (suc j) (omega arith) (omega arith);
      outputs = λ j p q. s.outputs (suc j) (omega arith) (omega arith);
    }

  -- the kinds of the rest are good, and none is lower than that of r
  module _ (good : (j : ℕ) → j < length (r ∷ rs) → bad_kind_at (r ∷ rs) j ≡ false) where
    first_kind : (1 ≤ r.kind) × (r.kind ≤ 3)
    unfolding bad_kind_at kind_before
    first_kind = let w = good_kind 0 r.kind (good 0 (omega arith)) in (w.0, w.1)

    rest_good : (j : ℕ) → j < length rs → bad_kind_at rs j ≡ false
    unfolding bad_kind_at kind_before
    rest_good zero h = let w = good_kind r.kind (record_at rs 0).kind (good 1 (omega arith)) in kind_good 0 _ w.0 w.1 (omega arith)
    rest_good (suc j) h = good (suc (suc j)) (omega arith)

    next_kind : 0 < length rs → r.kind ≤ (record_at rs 0).kind
    unfolding bad_kind_at kind_before
    next_kind h = (good_kind r.kind (record_at rs 0).kind (good 1 (omega arith))).2

    -- the counts with r in front, by its kind
    count_more : (P : ℕ → ℕ → ℕ → Type 0)
        → (r.kind ≡ 1 → P (suc (count 1 rs)) (count 2 rs) (count 3 rs))
        → (r.kind ≡ 2 → P (count 1 rs) (suc (count 2 rs)) (count 3 rs))
        → (r.kind ≡ 3 → P (count 1 rs) (count 2 rs) (suc (count 3 rs)))
        → P (count 1 (r ∷ rs)) (count 2 (r ∷ rs)) (count 3 (r ∷ rs))
    count_more P i g o =
        ⊎_elim
        (λ e. rw (counted 1 r rs (sym e), passed_over 2 r rs (λ q. omega arith), passed_over 3 r rs (λ q. omega arith)) (i (sym e)))
        (λ l. ⊎_elim
        (λ e. rw (passed_over 1 r rs (λ q. omega arith), counted 2 r rs (sym e), passed_over 3 r rs (λ q. omega arith)) (g (sym e)))
        (λ l. let e : r.kind ≡ 3 = omega (arith, first_kind.1) in
        rw (passed_over 1 r rs (λ q. omega arith), passed_over 2 r rs (λ q. omega arith), counted 3 r rs e) (o e))
        (eq-or-lt_of_le l))
        (eq-or-lt_of_le first_kind.0)

    -- r before n inputs, m gates and o outputs: after a gate comes no input, after an output no gate either
    module _ (n m o : ℕ) (whole : length rs ≡ n + m + o) (s : InOrder n m o rs) where
      none : (k c : ℕ) → k < r.kind → (0 < c → (record_at rs 0).kind ≡ k) → c ≤ n + m → c ≡ 0
      none k zero h is some = refl
      none k (suc c) h is some = let e = is (omega arith) in absurd (omega (arith, next_kind (omega arith)))

      before_gate : r.kind ≡ 2 → n ≡ 0
      before_gate e = none 1 n (omega arith) (s.inputs 0) (omega arith)

      before_output : r.kind ≡ 3 → (n ≡ 0) × (m ≡ 0)
      before_output e =
          let z : n ≡ 0 = none 1 n (omega arith) (s.inputs 0) (omega arith) in
          (z, none 2 m (omega arith) (λ h. s.gates 0 (omega arith) (omega arith)) (omega arith))

      input_front : r.kind ≡ 1 → InOrder (suc n) m o (r ∷ rs)
      input_front e = front input_more (λ h. e) (λ p q. absurd (omega arith)) (λ p. absurd (omega arith)) s

      gate_front : r.kind ≡ 2 → InOrder n (suc m) o (r ∷ rs)
      gate_front e =
          let z = before_gate e in
          rw z (front gate_more (λ h. absurd (omega arith)) (λ p q. e) (λ p. absurd (omega arith)) (rw z at s))

      output_front : r.kind ≡ 3 → InOrder n m (suc o) (r ∷ rs)
      output_front e =
          let z = before_output e in
          rw (z.0, z.1) (front output_more (λ h. absurd (omega arith)) (λ p q. absurd (omega arith)) (λ p. e) (rw (z.0, z.1) at s))

-- good kinds are all counted
pub all_counted : (rs : List Record) → ((j : ℕ) → j < length rs → bad_kind_at rs j ≡ false) → length rs ≡ count 1 rs + count 2 rs + count 3 rs
unfolding count
all_counted [] good = refl
all_counted (r ∷ rs) good =
    let e = all_counted rs (rest_good r rs good) in
    count_more r rs good (λ n m o. suc (length rs) ≡ n + m + o) (λ k. omega arith) (λ k. omega arith) (λ k. omega arith)

-- and in order
pub in_order : (rs : List Record) → ((j : ℕ) → j < length rs → bad_kind_at rs j ≡ false) → InOrder (count 1 rs) (count 2 rs) (count 3 rs) rs
unfolding count
in_order [] good = record { inputs = λ j h. absurd (omega arith); gates = λ j p q. absurd (omega arith); outputs = λ j p q. absurd (omega arith) }
in_order (r ∷ rs) good =
    let all = all_counted rs (rest_good r rs good) in
    let s = in_order rs (rest_good r rs good) in
    count_more r rs good (λ n m o. InOrder n m o (r ∷ rs))
    (input_front r rs good _ _ _ all s)
    (gate_front r rs good _ _ _ all s)
    (output_front r rs good _ _ _ all s)

-- the kinds of a table in order are good
module _ {n m o : ℕ} {rs : List Record} (s : InOrder n m o rs) where
  kind_at : (j : ℕ) → j < n + m + o → (1 ≤ (record_at rs j).kind) × ((record_at rs j).kind ≤ 3)
  kind_at j h = go (dec_lt j n) (dec_lt j (n + m))
    where
      go : Dec (j < n) → Dec (j < n + m) → (1 ≤ (record_at rs j).kind) × ((record_at rs j).kind ≤ 3)
      go (yes p) _ = let e = s.inputs j p in (omega arith, omega arith)
      go (no p) (yes q) = let e = s.gates j (omega arith) q in (omega arith, omega arith)
      go (no p) (no q) = let e = s.outputs j (omega arith) h in (omega arith, omega arith)

  kind_rises : (i : ℕ) → suc i < n + m + o → (record_at rs i).kind ≤ (record_at rs (suc i)).kind
  kind_rises i h = go (dec_lt (suc i) n) (dec_lt (suc i) (n + m))
    where
      go : Dec (suc i < n) → Dec (suc i < n + m) → (record_at rs i).kind ≤ (record_at rs (suc i)).kind
      go (yes p) _ = omega (arith, s.inputs i (omega arith), s.inputs (suc i) p)
      go (no p) (yes q) = let e = s.gates (suc i) (omega arith) q in early (dec_lt i n) e
        where
          early : Dec (i < n) → (record_at rs (suc i)).kind ≡ 2 → (record_at rs i).kind ≤ (record_at rs (suc i)).kind
          early (yes l) e = omega (arith, s.inputs i l)
          early (no l) e = omega (arith, s.gates i (omega arith) (omega arith))
      go (no p) (no q) = omega (arith, s.outputs (suc i) (omega arith) h, (kind_at i (omega arith)).1)

  pub order_good : (j : ℕ) → j < n + m + o → bad_kind_at rs j ≡ false
  unfolding bad_kind_at kind_before
  order_good zero h = kind_good 0 _ (kind_at 0 h).0 (kind_at 0 h).1 (omega arith)
  order_good (suc j) h = kind_good _ _ (kind_at (suc j) h).0 (kind_at (suc j) h).1 (kind_rises j h)

-- and its counts are these
pub order_counts : (rs : List Record) (n m o : ℕ) → length rs ≡ n + m + o → InOrder n m o rs → (count 1 rs ≡ n) × (count 2 rs ≡ m) × (count 3 rs ≡ o)
unfolding count
order_counts [] n m o all s = (omega arith, omega arith, omega arith)
order_counts (r ∷ rs) (suc n) m o all s =
    let e = s.inputs 0 (omega arith) in
    let w = order_counts rs n m o (omega arith) (rest r rs input_more s) in
    (counted 1 r rs e ∙ ap suc w.0, passed_over 2 r rs (λ q. omega arith) ∙ w.1, passed_over 3 r rs (λ q. omega arith) ∙ w.2)
order_counts (r ∷ rs) zero (suc m) o all s =
    let e = s.gates 0 (omega arith) (omega arith) in
    let w = order_counts rs 0 m o (omega arith) (rest r rs gate_more s) in
    (passed_over 1 r rs (λ q. omega arith) ∙ w.0, counted 2 r rs e ∙ ap suc w.1, passed_over 3 r rs (λ q. omega arith) ∙ w.2)
order_counts (r ∷ rs) zero zero (suc o) all s =
    let e = s.outputs 0 (omega arith) (omega arith) in
    let w = order_counts rs 0 0 o (omega arith) (rest r rs output_more s) in
    (passed_over 1 r rs (λ q. omega arith) ∙ w.0, passed_over 2 r rs (λ q. omega arith) ∙ w.1, counted 3 r rs e ∙ ap suc w.2)
order_counts (r ∷ rs) zero zero zero all s = absurd (omega arith)

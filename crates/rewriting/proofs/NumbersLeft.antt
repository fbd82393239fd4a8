-- The numbers of the nodes that sweep leaves, 0 for each gate that it drops, and what becomes of the edge of a followed gate by them.
use Rattle.std.proofs.Common.{◌≡◌, ℕ, zero, suc, ◌+◌, ◌<◌, ◌≤◌, Bool, true, false, eqb, List, get_or, set, sym, refl, ap, ◌∙◌, arith, ne_eqb}
use native.Mathlib.Decide.{ℕ_discrete}
use Rattle.std.specs.Prelude.{if◌then◌else◌}
use Rattle.majority.specs.Edge.{node_of}
use Rattle.majority.specs.Table.{WellFormed}
use Rattle.majority.specs.declared.Record.{Record}
use Rattle.rules.specs.Sweep.{stays, renumber}
use Rattle.rules.proofs.KeptNodes.{renumber_zero}
use Rattle.rules.proofs.Sweep.{input_stays}
use Rattle.rewriting.specs.inner.ClosedUp.{new_number, Numbered, renumber_by}
use Rattle.rewriting.specs.inner.Places.{Placed, number_left, left_by}
use Rattle.rewriting.proofs.NewNumbers.{numbered_more, number_in, number_out, number_input, number_lower, renumbered_by}

module _ {n m o : ℕ} {t : List Record} (formed : WellFormed n m o t) where
  stays_numbered : (k : ℕ) → stays t k ≡ true → number_left t k ≡ new_number t k
  unfolding number_left
  stays_numbered k h = rw h

  dropped_numbered : (k : ℕ) → stays t k ≡ false → number_left t k ≡ 0
  unfolding number_left
  dropped_numbered k h = rw h

  -- the inputs stay
  low_stays : (k : ℕ) → k ≤ n → stays t k ≡ true
  unfolding stays
  low_stays zero h = refl
  low_stays (suc j) h = input_stays formed j (omega arith)

  pub left_inputs : {ns : List ℕ} → Numbered (λ k. k) n ns → Numbered (number_left t) n ns
  left_inputs is = record { room = is.room; lower = is.lower; numbers = λ k h. is.numbers k h ∙ sym (stays_numbered k (low_stays k h) ∙ number_input formed k h) }

  -- one gate further: it stays, or is dropped
  module _ {ns : List ℕ} (i last : ℕ) (few : i < 1056) (is : Numbered (number_left t) i ns) (at : last ≡ new_number t i) where
    pub left_kept : stays t (suc i) ≡ true → (last + 1 ≡ new_number t (i + 1)) × Numbered (number_left t) (i + 1) (set ns (i + 1) (last + 1))
    left_kept h =
        let next : last + 1 ≡ new_number t (i + 1) = omega (arith, number_in t i h) in
        let e : i + 1 ≡ suc i = omega arith in
        let number : last + 1 ≡ number_left t (i + 1) = next ∙ sym (stays_numbered (i + 1) (rw e h)) in
        (next, numbered_more (last + 1) few number (omega (arith, number_lower t i)) is)

    pub left_dropped : stays t (suc i) ≡ false → (last ≡ new_number t (i + 1)) × Numbered (number_left t) (i + 1) (set ns (i + 1) 0)
    left_dropped h =
        let e : i + 1 ≡ suc i = omega arith in
        let number : 0 ≡ number_left t (i + 1) = sym (dropped_numbered (i + 1) (rw e h)) in
        (omega (arith, number_out t i h), numbered_more 0 few number (omega arith) is)

  -- the edge of a followed gate
  pub left_edge : {ns : List ℕ} → Numbered (number_left t) (n + m) ns → (e : ℕ) → Placed n m e → left_by ns e ≡ (if stays t (node_of e) then renumber (stays t) e else 0)
  unfolding left_by
  left_edge {ns} is e placed = go (node_of e) refl (stays t (node_of e)) refl
    where
      own : get_or ns (node_of e) 0 ≡ number_left t (node_of e)
      own = is.numbers (node_of e) placed.upto

      only : node_of e ≡ 0 → e ≡ 0
      only at = none (ℕ_discrete e 0)
        where
          none : Dec (e ≡ 0) → e ≡ 0
          none (yes h) = h
          none (no h) = absurd (omega (arith, placed.from (omega arith)))

      go : (k : ℕ) → node_of e ≡ k → (b : Bool) → stays t (node_of e) ≡ b → (if eqb (get_or ns (node_of e) 0) 0 then 0 else renumber_by ns e) ≡ (if b then renumber (stays t) e else 0)
      go k at false gone = rw (own, dropped_numbered (node_of e) gone)
      go zero at true there =
          let none : e ≡ 0 = only at in
          let first : new_number t 0 ≡ 0 = number_input formed 0 (omega arith) in
          rw (own, stays_numbered (node_of e) there, at, first) (sym (ap (renumber (stays t)) none ∙ renumber_zero (stays t)))
      go (suc j) at true there =
          let number : get_or ns (node_of e) 0 ≡ new_number t (node_of e) = own ∙ stays_numbered (node_of e) there in
          let here : node_of e ≡ j + 1 = omega arith in
          let some : new_number t (node_of e) ≡ 0 → ⊥ = λ q. omega (arith, ap (new_number t) here, number_in t j (rw at at there)) in
          ap (λ (k : ℕ). if eqb k 0 then 0 else renumber_by ns e) number ∙ rw (ne_eqb (new_number t (node_of e)) 0 some) (renumbered_by t ns e number)

-- The numbers that sweep gives the nodes, and the edges and records that it renumbers by them.
use Rattle.std.proofs.Common.{◌≡◌, ℕ, suc, ◌+◌, ◌<◌, ◌≤◌, true, false, List, get_or, set, sym, ◌∙◌, ⊎_elim, eq-or-lt_of_le, arith, length-set, get_or-set_other, get_or-set_same}
use native.Mathlib.Decide.{ℕ_discrete}
use Rattle.majority.specs.Edge.{node_of}
use Rattle.majority.specs.Table.{record_at, Below, WellFormed}
use Rattle.majority.specs.Edit.{edges}
use Rattle.rules.specs.Sweep.{stays, renumber, sweep}
use Rattle.majority.specs.declared.Record.{Record}
use Rattle.rules.proofs.KeptNodes.{kept_in, kept_out, kept_lower}
use Rattle.rules.proofs.CloseUp.{inputs_stay, outputs_move, closed_at}
use Rattle.rules.proofs.Sweep.{left, keepable}
use Rattle.rewriting.specs.inner.ClosedUp.{new_number, Numbered, renumber_by}

-- one node more
pub numbered_more : {number : ℕ → ℕ} {i : ℕ} {ns : List ℕ} (x : ℕ) → i < 1056 → x ≡ number (i + 1) → x ≤ i + 1 → Numbered number i ns → Numbered number (i + 1) (set ns (i + 1) x)
numbered_more {number} {i} {ns} x h e small is = record {
  room = length-set ns (i + 1) x ∙ is.room;
  lower = λ k. go k (ℕ_discrete k (i + 1));
  numbers = λ k l. ⊎_elim
      (λ q. rw q (same ∙ e))
      (λ q. get_or-set_other ns (i + 1) k x 0 (omega arith) ∙ is.numbers k (omega arith))
      (eq-or-lt_of_le l);
}
  where
    same : get_or (set ns (i + 1) x) (i + 1) 0 ≡ x
    same = get_or-set_same ns (i + 1) x 0 (omega (arith, is.room))

    go : (k : ℕ) → Dec (k ≡ i + 1) → get_or (set ns (i + 1) x) k 0 ≤ k
    go k (yes q) = rw q (omega (arith, same))
    go k (no q) = rw (get_or-set_other ns (i + 1) k x 0 q) (is.lower k)

-- the new numbers of a table, node by node
module _ (t : List Record) where
  pub number_in : (i : ℕ) → stays t (suc i) ≡ true → new_number t (i + 1) ≡ new_number t i + 1
  unfolding new_number
  number_in i h = let e : i + 1 ≡ suc i = omega arith in rw e (omega (arith, kept_in (stays t) i h))

  pub number_out : (i : ℕ) → stays t (suc i) ≡ false → new_number t (i + 1) ≡ new_number t i
  unfolding new_number
  number_out i h = let e : i + 1 ≡ suc i = omega arith in rw e (kept_out (stays t) i h)

  pub number_lower : (i : ℕ) → new_number t i ≤ i
  unfolding new_number
  number_lower i = kept_lower (stays t) i

  -- an edge and a record, where the nodes that they name are numbered
  pub renumbered_by : (ns : List ℕ) (x : ℕ) → get_or ns (node_of x) 0 ≡ new_number t (node_of x) → renumber_by ns x ≡ renumber (stays t) x
  unfolding renumber_by renumber new_number
  renumbered_by ns x e = rw e

  module _ {i : ℕ} {ns : List ℕ} (is : Numbered (new_number t) i ns) where
    renumbered_edge : (x : ℕ) → node_of x < suc i → renumber_by ns x ≡ renumber (stays t) x
    renumbered_edge x h = renumbered_by ns x (is.numbers (node_of x) (omega arith))

    pub renumbered_edges : (r : Record) → Below (suc i) r → edges (renumber_by ns) r ≡ edges (renumber (stays t)) r
    renumbered_edges r low =
        let p1 = renumbered_edge r.e1 low.first in
        let p2 = renumbered_edge r.e2 low.second in
        let p3 = renumbered_edge r.e3 low.third in
        λ d. record { kind = r.kind; block = r.block; e1 = p1 d; e2 = p2 d; e3 = p3 d }

-- those of a well-formed table
module _ {n m o : ℕ} {t : List Record} (formed : WellFormed n m o t) where
  pub number_input : (k : ℕ) → k ≤ n → new_number t k ≡ k
  unfolding new_number
  number_input k h = inputs_stay (keepable formed) k h

  pub numbered_inputs : {ns : List ℕ} → Numbered (λ k. k) n ns → Numbered (new_number t) n ns
  numbered_inputs is = record { room = is.room; lower = is.lower; numbers = λ k h. is.numbers k h ∙ sym (number_input k h) }

  -- so many nodes are left, and the outputs' records follow
  pub number_gates : new_number t (n + m) ≡ n + left n m t
  unfolding new_number
  number_gates = (keepable formed).gates

  pub number_outputs : (j : ℕ) → j ≤ o → new_number t (n + m + j) ≡ new_number t (n + m) + j
  unfolding new_number
  number_outputs j h = omega (arith, outputs_move (keepable formed) j h, (keepable formed).gates)

  -- a record that stays, where it stands in the swept table
  pub swept_at : (j : ℕ) → j < n + m + o → stays t (suc j) ≡ true → record_at (sweep t) (new_number t j) ≡ edges (renumber (stays t)) (record_at t j)
  unfolding new_number sweep
  swept_at j h s = closed_at (keepable formed) j h s

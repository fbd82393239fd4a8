-- Closing up the gates, record by record: what stays goes to its new place renumbered, and what is behind stands as it was.
use Rattle.std.proofs.Common.{◌≡◌, ℕ, suc, ◌+◌, ◌*◌, ◌/◌, ◌<◌, ◌≤◌, Bool, true, false, List, length, get_or, set, sym, refl, ap, ◌∙◌, arith}
use native.Mathlib.Decide.{ℕ_discrete}
use Rattle.majority.specs.Table.{record_at, Below, WellFormed, WithinLimits}
use Rattle.majority.specs.Edit.{edges}
use Rattle.rules.specs.Sweep.{reached, stays, renumber, sweep}
use Rattle.majority.specs.declared.Record.{Record}
use Rattle.majority.specs.declared.Counts.{Counts}
use Rattle.majority.proofs.Formed.{reads_lower}
use Rattle.rules.proofs.KeptNodes.{renumber_zero}
use Rattle.rules.proofs.Sweep.{input_stays, gate_stays}
use Rattle.tables.specs.Bytes.{record_in, table_of, put_record}
use Rattle.tables.specs.Sound.{Sound, table_in}
use Rattle.tables.proofs.Put.{put_length, put_same, put_other, put_rest}
use Rattle.tables.proofs.Sound.{sound_accepted, sound_record}
use Rattle.editing.proofs.Loops.{read}
use Rattle.rewriting.specs.inner.Marks.{Marked}
use Rattle.rewriting.specs.inner.ClosedUp.{new_number, Numbered, renumber_by, Closed, ClosedUp}
use Rattle.rewriting.proofs.SameRest.{same_record, same_later}
use Rattle.rewriting.proofs.NewNumbers.{numbered_more, numbered_inputs, number_in, number_out, number_lower, number_input, renumbered_edges, swept_at}

-- a gate stays where it is marked
pub mark_stays : {n m o : ℕ} {t : List Record} → WellFormed n m o t → WithinLimits n m o → {marks : List Bool} → Marked (reached t) marks → (i : ℕ) → n ≤ i → i < n + m
    → get_or marks (i + 1) false ≡ stays t (suc i)
mark_stays formed limits marked i p q =
    let e : i + 1 ≡ suc i = omega arith in
    rw e (marked.marked (suc i) (omega arith) (omega (arith, limits.inputs, limits.gates)) ∙ sym (gate_stays formed i p q))

module _ {xs : List ℕ} {c : Counts} (sound : Sound xs c) where
  open c use {inputs as n, gates as m, outputs as o}

  abbrev t : List Record
  t = table_in xs c

  formed : WellFormed n m o t
  formed = (sound_accepted sound).formed

  -- the inputs stay where they are
  input_closed : (j : ℕ) → j < n → record_in xs j ≡ record_at (sweep t) j
  input_closed j h =
      sym
      (ap (record_at (sweep t)) (sym (number_input formed j (omega arith)))
      ∙ swept_at formed j (omega arith) (input_stays formed j h)
      ∙ rw (formed.inputs j h, renumber_zero (stays t)) refl
      ∙ sound_record sound j (omega arith))

  closed_start : Closed xs c n xs
  closed_start = record { long = refl; rest = refl; closed = λ j h. input_closed j (omega (arith, number_input formed n (omega arith))) }

  -- one record further
  module _ {ys : List ℕ} (i : ℕ) (inside : i < n + m + o) (is : Closed xs c i ys) where
    closed_read : (r : Record) → r ≡ record_at (table_of ys (length ys / 8)) i → r ≡ record_at t i
    closed_read r e = e ∙ read ys i (omega (arith, sound.fits, is.long)) ∙ same_record xs ys i is.rest ∙ sym (sound_record sound i inside)

    closed_keep : (r : Record) → stays t (suc i) ≡ true → r ≡ edges (renumber (stays t)) (record_at t i) → Closed xs c (i + 1) (put_record ys (new_number t i) r)
    closed_keep r s e =
        let low = number_lower t i in
        let room : 8 * new_number t i + 8 ≤ length ys = omega (arith, is.long, sound.fits) in
        record {
          long = put_length ys _ r room ∙ is.long;
          rest = put_rest ys _ r room (8 * (i + 1)) (omega arith) ∙ same_later xs ys i is.rest (i + 1) (omega arith);
          closed = λ j h. go j (omega (arith, number_in t i s)) (ℕ_discrete j (new_number t i)) room;
        }
      where
        go : (j : ℕ) → j < new_number t i + 1 → Dec (j ≡ new_number t i) → 8 * new_number t i + 8 ≤ length ys → record_in (put_record ys (new_number t i) r) j ≡ record_at (sweep t) j
        go j h (yes q) room = rw q (put_same ys _ r room ∙ e ∙ sym (swept_at formed i inside s))
        go j h (no q) room = put_other ys _ r room j q ∙ is.closed j (omega arith)

    closed_drop : stays t (suc i) ≡ false → Closed xs c (i + 1) ys
    closed_drop s = record {
      long = is.long;
      rest = same_later xs ys i is.rest (i + 1) (omega arith);
      closed = λ j h. is.closed j (omega (arith, number_out t i s));
    }

  -- the gates begin behind the inputs
  pub close_start : {ns : List ℕ} → Numbered (λ k. k) n ns → ClosedUp xs c n n xs ns
  close_start numbers = record { place = sym (number_input formed n (omega arith)); numbers = numbered_inputs formed numbers; bytes = closed_start }

  -- one gate further
  module _ {ys ns : List ℕ} (i to : ℕ) (p : n ≤ i) (q : i < n + m) (is : ClosedUp xs c i to ys ns) where
    pub close_below : (r : Record) → r ≡ record_at (table_of ys (length ys / 8)) i → Below (suc i) r
    close_below r e = rw (closed_read i (omega arith) is.bytes r e) (reads_lower formed i (omega (arith, formed.whole)))

    pub close_place : to ≤ i
    close_place = omega (arith, is.place, number_lower t i)

    module _ {marks : List Bool} (marked : Marked (reached t) marks) where
      pub close_keep : get_or marks (i + 1) false ≡ true → (r r' : Record) → r ≡ record_at (table_of ys (length ys / 8)) i → r' ≡ edges (renumber_by ns) r
          → ClosedUp xs c (i + 1) (to + 1) (put_record ys to r') (set ns (i + 1) (to + 1))
      close_keep on r r' e e' =
          let limits = (sound_accepted sound).limits in
          let s = sym (mark_stays formed limits marked i p q) ∙ on in
          let next : to + 1 ≡ new_number t (i + 1) = omega (arith, is.place, number_in t i s) in
          let low = close_below r e in
          let whole : r' ≡ edges (renumber (stays t)) (record_at t i) =
          e' ∙ renumbered_edges t is.numbers r low ∙ ap (edges (renumber (stays t))) (closed_read i (omega arith) is.bytes r e)
          in
          record {
            place = next;
            numbers = numbered_more (to + 1) (omega arith) next (omega (arith, close_place)) is.numbers;
            bytes = rw is.place (closed_keep i (omega arith) is.bytes r' s whole);
          }

      pub close_drop : get_or marks (i + 1) false ≡ false → ClosedUp xs c (i + 1) to ys (set ns (i + 1) to)
      close_drop off =
          let limits = (sound_accepted sound).limits in
          let s = sym (mark_stays formed limits marked i p q) ∙ off in
          let next : to ≡ new_number t (i + 1) = omega (arith, is.place, number_out t i s) in
          record {
            place = next;
            numbers = numbered_more to (omega arith) next (omega (arith, close_place)) is.numbers;
            bytes = closed_drop i (omega arith) is.bytes s;
          }

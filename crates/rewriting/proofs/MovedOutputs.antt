-- Moving the outputs down behind the gates that stay closes up the whole table.
use Rattle.std.proofs.Common.{◌≡◌, ℕ, suc, ◌+◌, ◌-◌, ◌*◌, ◌/◌, ◌<◌, ◌≤◌, List, length, sym, ap, ◌∙◌, arith}
use native.Mathlib.Decide.{dec_lt, ℕ_discrete}
use Rattle.majority.specs.Table.{record_at, Below, WellFormed}
use Rattle.majority.specs.Edit.{edges}
use Rattle.rules.specs.Sweep.{sweep}
use Rattle.majority.specs.declared.Record.{Record}
use Rattle.majority.specs.declared.Counts.{Counts}
use Rattle.majority.proofs.Formed.{below_more, reads_nodes}
use Rattle.rules.proofs.Sweep.{output_stays}
use Rattle.tables.specs.Bytes.{record_in, table_of, put_record}
use Rattle.tables.specs.Sound.{Sound, table_in}
use Rattle.tables.proofs.Put.{put_length, put_same, put_other, put_rest}
use Rattle.tables.proofs.Sound.{sound_accepted, sound_record}
use Rattle.editing.proofs.Loops.{read}
use Rattle.rewriting.specs.inner.ClosedUp.{new_number, renumber_by, Closed, ClosedUp, Movable, Moved}
use Rattle.rewriting.proofs.SameRest.{same_record, same_later}
use Rattle.rewriting.proofs.NewNumbers.{number_lower, number_outputs, renumbered_edges, swept_at}

module _ (f : ℕ → ℕ) (from to : ℕ) (ys : List ℕ) where
  -- one record more
  module _ {zs : List ℕ} (j : ℕ) (down : to ≤ from) (room : 8 * (from + j) + 8 ≤ length ys) (is : Moved f from to j ys zs) (r : Record) (reads : r ≡ record_at (table_of zs (length zs / 8)) (from + j)) where
    pub moved_read : r ≡ record_in ys (from + j)
    moved_read = reads ∙ read zs (from + j) (omega (arith, is.long)) ∙ same_record ys zs (from + j) is.rest

    pub moved_next : (r' : Record) → r' ≡ edges f r → Moved f from to (j + 1) ys (put_record zs (to + j) r')
    moved_next r' e =
        let fits : 8 * (to + j) + 8 ≤ length zs = omega (arith, is.long) in
        record {
          long = put_length zs _ r' fits ∙ is.long;
          rest = put_rest zs _ r' fits (8 * (from + (j + 1))) (omega arith) ∙ same_later ys zs (from + j) is.rest (from + (j + 1)) (omega arith);
          before = λ k h. put_other zs _ r' fits k (omega arith) ∙ is.before k h;
          moved = λ k h. go k h (ℕ_discrete k j) fits;
        }
      where
        go : (k : ℕ) → k < j + 1 → Dec (k ≡ j) → 8 * (to + j) + 8 ≤ length zs → record_in (put_record zs (to + j) r') (to + k) ≡ edges f (record_in ys (from + k))
        go k h (yes q) fits = rw q (put_same zs _ r' fits ∙ e ∙ ap (edges f) moved_read)
        go k h (no q) fits = put_other zs _ r' fits (to + k) (omega arith) ∙ is.moved k (omega arith)

-- behind the gates that are closed up
module _ {xs ys ns : List ℕ} {c : Counts} {to : ℕ} (sound : Sound xs c) (is : ClosedUp xs c (c.inputs + c.gates) to ys ns) where
  open c use {inputs as n, gates as m, outputs as o}

  abbrev t : List Record
  t = table_in xs c

  formed : WellFormed n m o t
  formed = (sound_accepted sound).formed

  -- the outputs' records are as they were, and name nodes of the table
  output_same : (j : ℕ) → j < o → record_in ys (n + m + j) ≡ record_at t (n + m + j)
  output_same j h =
      same_record xs ys (n + m + j) (same_later xs ys (n + m) is.bytes.rest (n + m + j) (omega arith))
      ∙ sym (sound_record sound (n + m + j) (omega arith))

  output_below : (j : ℕ) → j < o → Below (suc (n + m)) (record_at t (n + m + j))
  output_below j h = reads_nodes formed (n + m + j) (omega (arith, formed.whole))

  pub movable : Movable ys c to ns
  movable =
      let limits = (sound_accepted sound).limits in
      record {
        fits = omega (arith, sound.fits, is.bytes.long);
        down = omega (arith, is.place, number_lower t (n + m));
        named = λ j h. rw (output_same j h) (below_more _ _ _ (omega arith) (output_below j h));
        lower = is.numbers.lower;
      }

  module _ {zs : List ℕ} (moved : Moved (renumber_by ns) (n + m) to o ys zs) where
    -- an output, where it stands now
    output_closed : (k : ℕ) → k < o → record_in zs (to + k) ≡ record_at (sweep t) (to + k)
    output_closed k h =
        let e : to + k ≡ new_number t (n + m + k) = omega (arith, is.place, number_outputs formed k (omega arith)) in
        moved.moved k h
        ∙ ap (edges (renumber_by ns)) (output_same k h)
        ∙ renumbered_edges t is.numbers _ (output_below k h)
        ∙ sym (swept_at formed (n + m + k) (omega arith) (output_stays formed (n + m + k) (omega arith) (omega arith)))
        ∙ ap (record_at (sweep t)) (sym e)

    pub outputs_closed : Closed xs c (n + m + o) zs
    outputs_closed = record {
      long = moved.long ∙ is.bytes.long;
      rest = moved.rest ∙ same_later xs ys (n + m) is.bytes.rest (n + m + o) (omega arith);
      closed = λ j h. go j (omega (arith, is.place, number_outputs formed o (omega arith))) (dec_lt j to);
    }
      where
        go : (j : ℕ) → j < to + o → Dec (j < to) → record_in zs j ≡ record_at (sweep t) j
        go j h (yes l) = moved.before j l ∙ is.bytes.closed j (omega (arith, is.place))
        go j h (no l) = let e : to + (j - to) ≡ j = omega arith in rw e at (output_closed (j - to) (omega arith))

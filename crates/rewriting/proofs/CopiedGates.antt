-- Copying gates: how the code changes an edge is what the copy asks, and from the last down the records from where the loop stands on are copied,
-- and the others as they were.
use Rattle.std.proofs.Common.{◌≡◌, ℕ, suc, ◌+◌, ◌-◌, ◌*◌, ◌%◌, ◌<◌, ◌≤◌, eqb, ltb, List, length, sym, ap, ◌∙◌, arith, le-ltb, lt-ltb, eq-eqb, ne_eqb}
use native.Mathlib.Decide.{dec_lt, ℕ_discrete}
use Rattle.std.specs.Prelude.{if◌then◌else◌}
use Rattle.majority.specs.Edge.{node_of, is_inverted, flip, redirect, raise}
use Rattle.majority.specs.Table.{record_at}
use Rattle.majority.specs.Edit.{edges}
use Rattle.rules.specs.Voter.{in_block}
use Rattle.majority.specs.declared.Record.{Record}
use Rattle.tables.specs.Bytes.{record_in, records_of, put_record}
use Rattle.tables.proofs.HoldsFirst.{HoldsFirst, mixed, mixed_low, mixed_high, first_same, first_down}
use Rattle.editing.specs.Edited.{raise16}
use Rattle.editing.proofs.Loops.{read}
use Rattle.rewriting.specs.inner.Copied.{above, copy_edge, copying_of, replaced_by, rise_by, copied_by, Copied}
use Rattle.rewriting.proofs.Edits.{same_edges}

-- an edge, by two comparisons
replaced_is : (n g before k e x : ℕ) → replaced_by (copying_of n g before k e) x ≡ redirect k e x
unfolding replaced_by redirect
replaced_is n g before k e x = go (ℕ_discrete x (2 * k)) (ℕ_discrete x (2 * k + 1))
  where
    go : Dec (x ≡ 2 * k) → Dec (x ≡ 2 * k + 1)
        → (if eqb x (2 * k) then e else if eqb x (2 * k + 1) then flip e else x) ≡ (if eqb (node_of x) k then (if is_inverted x then flip e else e) else x)
    go (yes p) _ = rw (eq-eqb x (2 * k) p, eq-eqb (node_of x) k (omega arith), ne_eqb (x % 2) 1 (λ q. omega arith))
    go (no p) (yes q) = rw (ne_eqb x (2 * k) p, eq-eqb x (2 * k + 1) q, eq-eqb (node_of x) k (omega arith), eq-eqb (x % 2) 1 (omega arith))
    go (no p) (no q) = rw (ne_eqb x (2 * k) p, ne_eqb x (2 * k + 1) q, ne_eqb (node_of x) k (λ r. omega arith))

pub copied_is : (n g before k e x : ℕ) → copied_by (copying_of n g before k e) x ≡ copy_edge n g before k e x
unfolding copied_by rise_by raise16 raise
copied_is n g before k e x = rw (replaced_is n g before k e x) (go (redirect k e x) (dec_lt (redirect k e x) (2 * suc n)))
  where
    go : (y : ℕ) → Dec (y < 2 * suc n)
        → (y + (if ltb y (2 * suc n) then 0 else 2 * above n g before)) % 65536 ≡ (if ltb (node_of y) (suc n) then y else y + 2 * above n g before) % 65536
    go y (yes l) = rw (lt-ltb y (2 * suc n) l, lt-ltb (node_of y) (suc n) (omega arith)) (omega arith)
    go y (no l) = rw (le-ltb y (2 * suc n) (omega arith), le-ltb (node_of y) (suc n) (omega arith))

record_copied : (n g before k e : ℕ) (r : Record) → edges (copied_by (copying_of n g before k e)) r ≡ edges (copy_edge n g before k e) r
record_copied n g before k e r =
    same_edges (copied_by (copying_of n g before k e)) (copy_edge n g before k e) r (copied_is n g before k e r.e1, copied_is n g before k e r.e2, copied_is n g before k e r.e3)

-- f of the records below g, so many places up
module _ (f : Record → Record) (g up : ℕ) (xs : List ℕ) where
  -- of record i and of those after it
  abbrev pub Copying : ℕ → List ℕ → Type 0
  Copying i ys = HoldsFirst xs (g + up) (mixed (i + up) (record_in xs) (λ j. f (record_in xs (j - up)))) ys

  pub copying_start : Copying g xs
  copying_start = first_same xs (g + up) _ (λ j h. sym (mixed_low (g + up) _ _ j h))

  pub copying_next : 8 * (g + up) ≤ length xs → (ys : List ℕ) (i : ℕ) → i < g → Copying (i + 1) ys → Copying i (put_record ys (i + up) (f (record_at (records_of ys) i)))
  copying_next room ys i h s =
      let e : i + 1 + up ≡ i + up + 1 = omega arith in
      let back : i + up - up ≡ i = omega arith in
      let same = read ys i (omega (arith, s.long)) ∙ s.records i (omega arith) ∙ mixed_low (i + 1 + up) _ _ i (omega arith) in
      first_down room (record_in xs) (λ j. f (record_in xs (j - up))) (i + up) _ (omega arith) (ap f same ∙ rw back) (rw e at s)

pub copying_end : (n g before k e b : ℕ) (xs ys : List ℕ) → Copying (λ r. in_block b (edges (copied_by (copying_of n g before k e)) r)) g (above n g before) xs n ys
    → Copied n g before k e b xs ys
copying_end n g before k e b xs ys s = record { long = s.long; rest = s.rest; records = λ j h. s.records j h ∙ go j (dec_lt j (n + up)) }
  where
    up : ℕ
    up = above n g before

    go : (j : ℕ) → Dec (j < n + up)
        → mixed (n + up) (record_in xs) (λ i. in_block b (edges (copied_by (copying_of n g before k e)) (record_in xs (i - up)))) j
        ≡ (if ltb j (n + up) then record_in xs j else in_block b (edges (copy_edge n g before k e) (record_in xs (j - up))))
    go j (yes l) = mixed_low (n + up) _ _ j l ∙ sym (rw (lt-ltb j (n + up) l))
    go j (no l) = mixed_high (n + up) _ _ j (omega arith) ∙ ap (in_block b) (record_copied n g before k e (record_in xs (j - up))) ∙ sym (rw (le-ltb j (n + up) (omega arith)))

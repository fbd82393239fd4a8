-- On an accepted table the edits of lent records are those of the rules: redirect, insert, and a gate that becomes another.
use Rattle.std.proofs.Common.{◌≡◌, ℕ, ◌+◌, ◌-◌, ◌*◌, ◌%◌, ◌<◌, ◌≤◌, List, map, length, sym, ◌∙◌, arith, ext_get_or, ne_eqb}
use native.Mathlib.Decide.{dec_lt}
use lib.ListN.{length-map}
use Rattle.majority.specs.Edge.{node_of, redirect, raised, raise}
use Rattle.majority.specs.Table.{record_of, blank, record_at, WellFormed}
use Rattle.majority.specs.Edit.{edges, redirect_all, insert}
use Rattle.majority.specs.declared.Record.{Record}
use Rattle.majority.proofs.Formed.{reads_lower}
use Rattle.rules.proofs.KeptByNodes.{Each}
use Rattle.rules.proofs.Raise.{raised_cases}
use Rattle.rules.proofs.Insert.{insert_length, insert_cases, raise_lower, raise_within}
use Rattle.editing.specs.Edited.{changed_from, raise16, grown}
use Rattle.editing.proofs.Changed.{map_at, changed_length, changed_low, changed_high, grown_length, grown_low, grown_new, grown_high}

-- the record with each of its edges changed alike
pub same_edges : (f h : ℕ → ℕ) (r : Record) → Each (λ x. f x ≡ h x) r → edges f r ≡ edges h r
same_edges f h r e = λ d. record_of r.kind r.block (e.0 d) (e.1 d) (e.2 d)

redirect_other : (g e x : ℕ) → node_of x < g → redirect g e x ≡ x
unfolding redirect
redirect_other g e x h = let n : node_of x ≡ g → ⊥ = λ q. omega arith in rw (ne_eqb (node_of x) g n)

-- a gate g of a well-formed table
module _ {n m o g : ℕ} {t : List Record} (formed : WellFormed n m o t) (some : 1 ≤ g) (upto : g ≤ n + m) where
  inside : g ≤ length t
  inside = omega (arith, formed.whole)

  -- no record up to that of g names g
  unnamed : (e j : ℕ) → j < g → edges (redirect g e) (record_at t j) ≡ record_at t j
  unnamed e j l =
      let low = reads_lower formed j (omega (arith, inside)) in
      same_edges (redirect g e) (λ x. x) (record_at t j)
      (redirect_other g e _ (omega (arith, low.first)), redirect_other g e _ (omega (arith, low.second)), redirect_other g e _ (omega (arith, low.third)))

  pub redirect_edit : (e : ℕ) → changed_from (edges (redirect g e)) g t ≡ redirect_all g e t
  unfolding redirect_all
  redirect_edit e =
      let len = changed_length (edges (redirect g e)) g t inside in
      ext_get_or blank _ _ (len ∙ sym (length-map t (edges (redirect g e)))) (λ j h. go j (omega (arith, len)) (dec_lt j g))
    where
      go : (j : ℕ) → j < length t → Dec (j < g) → record_at (changed_from (edges (redirect g e)) g t) j ≡ record_at (map (edges (redirect g e)) t) j
      go j h (yes l) = changed_low (edges (redirect g e)) g t inside j l ∙ sym (unnamed e j l) ∙ sym (map_at (edges (redirect g e)) t j h)
      go j h (no l) = changed_high (edges (redirect g e)) g t inside j (omega arith) h ∙ sym (map_at (edges (redirect g e)) t j h)

  module _ (news : List Record) (few : n + m + length news ≤ 32767) where
    -- within 16 bits
    raise_short : (j : ℕ) → j < length t → edges (raise16 g (length news)) (record_at t j) ≡ edges (raise g (length news)) (record_at t j)
    unfolding raise16
    raise_short j h =
        let w = raise_within formed g news (length news) j h in
        same_edges (raise16 g (length news)) (raise g (length news)) (record_at t j) (short _ w.0, short _ w.1, short _ w.2)
      where
        short : (x : ℕ) → raise g (length news) x ≤ 2 * (n + m + length news) + 1 → raise g (length news) x % 65536 ≡ raise g (length news) x
        short x l = omega arith

    pub insert_edit : grown g news t ≡ insert g news t
    insert_edit =
        let low : g - 1 ≤ length t = omega (arith, inside) in
        let len = grown_length g news t low in
        ext_get_or blank _ _ (len ∙ sym (insert_length g news t (omega arith) low))
        (λ j h. insert_cases g news t (omega arith) low (λ k r. record_at (grown g news t) k ≡ r) (old low) (grown_new g news t low) j (omega (arith, len)))
      where
        old : g - 1 ≤ length t → (j : ℕ) → j < length t → record_at (grown g news t) (raised (g - 1) (length news) j) ≡ edges (raise g (length news)) (record_at t j)
        old low j h =
            raised_cases (g - 1) (length news) (λ k. record_at (grown g news t) k ≡ edges (raise g (length news)) (record_at t j)) j
            (λ l. grown_low g news t low j l ∙ sym (raise_lower formed g news j h (omega arith)))
            (λ l. grown_high g news t low j l h ∙ raise_short j h)

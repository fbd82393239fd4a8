-- Tables laid in bytes: a record more at the end of the table or of the outputs, and the whole as an encoding.
use Prim.Native.Nat.{ℕ, zero, suc, ◌+◌, ◌-◌, ◌*◌, ◌≤◌, ◌<◌}
use mathlib.Core.Path.{◌≡◌, refl, sym, ap, ◌∙◌}
use mathlib.Core.List.{List, [], ◌∷◌, ◌++◌}
use native.Mathlib.Omega.{arith}
use native.Mathlib.Decide.{dec_lt, ℕ_discrete}
use borrow.Author.Tests.{eq-eqb, ne_eqb}
use lib.ListN.{length, get_or, take, drop, set, length-set, length-append, get_or-append}
use lib.Seq.{take-suc, length-take-le, get_or-set_same, get_or-set_other, drop-drop, ext_get_or, get_or-append-add}
use Rattle.majority.specs.Table.{blank, input, output, record_at}
use Rattle.translation.specs.Translate.{Draft, more, after, noted, Placed}
use Rattle.majority.specs.declared.Record.{Record}
use Rattle.translation.specs.declared.Mode.{Mode}
use Rattle.translation.proofs.Begins.{all_more, length_more}
use Rattle.tables.specs.Bytes.{record_in, table_of, encode, put_record}
use Rattle.tables.proofs.Decoded.{length_table, table_at}
use Rattle.tables.proofs.Encoded.{Bytes, as_encoded}
use Rattle.tables.proofs.Put.{put_length, put_same, put_other, put_rest}
use Rattle.rm3.specs.inner.Laid.{Laid, Grows, helper_in, Drafted, Writes, Places, outputs_put}

-- a record more, of records that are read from the bytes at `from` on
more_read : (from : ℕ) (ts : List Record) (r : Record) (xs xs' : List ℕ)
    → ((i : ℕ) → i < length ts → record_in xs (from + i) ≡ record_at ts i)
    → ((i : ℕ) → i < length ts → record_in xs' (from + i) ≡ record_in xs (from + i)) → record_in xs' (from + length ts) ≡ r
    → (i : ℕ) → i < length (ts ++ r ∷ []) → record_in xs' (from + i) ≡ record_at (ts ++ r ∷ []) i
more_read from ts r xs xs' so keeps new = (all_more {d = blank} {P = λ i q. record_in xs' (from + i) ≡ q} {xs = ts} r (record { each = λ i h. keeps i h ∙ so i h }) new).each

pub grows_same : (ts : List Record) (xs : List ℕ) → Grows ts ts xs xs
grows_same ts xs = record { laid = λ ys first os h room so. so }

pub grows_then : {ts ts' ts'' : List Record} {xs xs' xs'' : List ℕ} → length ts' ≤ length ts'' → Grows ts ts' xs xs' → Grows ts' ts'' xs' xs'' → Grows ts ts'' xs xs''
grows_then l p q = record { laid = λ ys first os h room so. q.laid ys first os h room (p.laid ys first os (omega arith) room so) }

-- an input or operation more
pub grows_put : (ts : List Record) (r : Record) (xs : List ℕ) → Grows ts (ts ++ r ∷ []) xs (put_record xs (length ts) r)
grows_put ts r xs = record { laid = put }
  where
    put : (ys : List ℕ) (first : ℕ) (os : List Record) → length (ts ++ r ∷ []) ≤ first → 8 * (first + length os) ≤ length ys
        → Laid ys first ts os xs → Laid ys first (ts ++ r ∷ []) os (put_record xs (length ts) r)
    put ys first os h room so =
        let below : length ts < first = omega (arith, length_more ts r) in
        let fits : 8 * length ts + 8 ≤ length xs = omega (arith, so.size) in
        let zero_on : (i : ℕ) → 0 + i ≡ i = λ i. omega arith in
        record {
          size = put_length xs (length ts) r fits ∙ so.size;
          table = λ i l. rw zero_on at (more_read 0 ts r xs _ (λ k q. rw zero_on (so.table k q)) (λ k q. put_other xs (length ts) r fits (0 + k) (omega arith)) (rw zero_on (put_same xs (length ts) r fits)) i l);
          outputs = λ i l. put_other xs (length ts) r fits (first + i) (omega arith) ∙ so.outputs i l;
          rest = put_rest xs (length ts) r fits (8 * (first + length os)) (omega arith) ∙ so.rest;
        }

-- an output more
pub laid_output : {ys xs : List ℕ} {first : ℕ} {ts os : List Record} (r : Record) → length ts ≤ first → 8 * (first + length os + 1) ≤ length ys
    → Laid ys first ts os xs → Laid ys first ts (os ++ r ∷ []) (put_record xs (first + length os) r)
laid_output {ys} {xs} {first} {ts} {os} r h room so =
    let fits : 8 * (first + length os) + 8 ≤ length xs = omega (arith, so.size) in
    let longer : 8 * (first + length (os ++ r ∷ [])) ≡ 8 * (first + length os) + 8 = omega (arith, length_more os r) in
    record {
      size = put_length xs (first + length os) r fits ∙ so.size;
      table = λ i l. put_other xs (first + length os) r fits i (omega arith) ∙ so.table i l;
      outputs = more_read first os r xs _ so.outputs (λ k q. put_other xs (first + length os) r fits (first + k) (omega arith)) (put_same xs (first + length os) r fits);
      rest = rw longer (put_rest xs (first + length os) r fits (8 * (first + length os) + 8) (omega arith) ∙ sym (drop-drop 8 (8 * (first + length os)) xs) ∙ ap (drop 8) so.rest ∙ drop-drop 8 (8 * (first + length os)) ys);
    }

-- where the outputs follow the table, the bytes are the encoding of both, and the rest
pub laid_whole : {ys xs : List ℕ} {first : ℕ} {ts os : List Record} → Bytes xs → length ts ≡ first → 8 * (first + length os) ≤ length ys
    → Laid ys first ts os xs → xs ≡ encode (ts ++ os) ++ drop (8 * length (ts ++ os)) ys
laid_whole {ys} {xs} {first} {ts} {os} bytes here room so =
    let whole : length (ts ++ os) ≡ first + length os = rw here at (length-append ts os) in
    let n = length (ts ++ os) in
    let table : table_of xs n ≡ ts ++ os = ext_get_or blank (table_of xs n) (ts ++ os) (length_table xs n) (λ i h. table_at xs n i (omega (arith, length_table xs n)) ∙ at i (dec_lt i (length ts)) (omega (arith, length_table xs n))) in
    let rest : drop (8 * n) xs ≡ drop (8 * n) ys = rw whole so.rest in
    as_encoded xs bytes n (omega (arith, so.size)) ∙ rw (table, rest)
  where
    at : (i : ℕ) → Dec (i < length ts) → i < length (ts ++ os) → record_in xs i ≡ record_at (ts ++ os) i
    at i (yes l) h = so.table i l ∙ sym (get_or-append ts os blank i l)
    at i (no l) h =
        let k = i - length ts in
        let there : first + k ≡ i = omega arith in
        let past : length ts + k ≡ i = omega arith in
        let is = so.outputs k (omega (arith, length-append ts os)) in
        rw there at is ∙ sym (rw past at (get_or-append-add ts os k blank))

-- nothing more, one record more, and the same as another way to make it
pub writes_none : (at : ℕ) (hs xs : List ℕ) → Writes (λ d. d) at at hs hs xs xs
writes_none at hs xs = record { drafts = λ d so. so; grows = λ d so. grows_same d.table xs }

drafted_more : {at : ℕ} {hs : List ℕ} (d : Draft) (r : Record) → Drafted at hs d → Drafted (at + 1) hs (more d r)
drafted_more d r so = record { here = rw (length_more d.table r, so.here) (omega arith); room = so.room; helpers = so.helpers }

pub writes_put : (r : Record) (at : ℕ) (hs xs : List ℕ) → Writes (λ d. more d r) at (at + 1) hs hs xs (put_record xs at r)
writes_put r at hs xs = record { drafts = λ d so. drafted_more d r so; grows = λ d so. rw (← so.here) (grows_put d.table r xs) }

pub writes_same : {f g : Draft → Draft} {at after : ℕ} {hs hs' xs xs' : List ℕ} → ((d : Draft) → Drafted at hs d → g d ≡ f d) → Writes f at after hs hs' xs xs' → Writes g at after hs hs' xs xs'
writes_same is w = record { drafts = λ d so. rw (is d so) (w.drafts d so); grows = λ d so. rw (is d so) (w.grows d so) }

-- what stands for an input
pub input_writes : (mode : Mode) (operands : List ℕ) (r : Record) {at : ℕ} {hs xs : List ℕ} → r.kind ≡ 1
    → Writes (λ d. after mode operands d r) at (at + 1) hs hs xs (put_record xs at input)
input_writes mode operands r {at} {hs} {xs} e = writes_same (λ d so. rw e) (writes_put input at hs xs)

-- an edge that needs no helper made, and one that does
pub places_same : {p : Draft → Placed} {x at : ℕ} {hs xs : List ℕ} → ((d : Draft) → Drafted at hs d → p d ≡ record { operand = x; draft = d }) → Places p at x at hs hs xs xs
places_same {p} {x} {at} {hs} {xs} is = record {
  near = omega arith;
  operand = λ d so. sym (ap (λ (q : Placed). q.operand) (is d so));
  writes = writes_same (λ d so. ap (λ (q : Placed). q.draft) (is d so)) (writes_none at hs xs);
}

pub places_more : {p : Draft → Placed} {at k : ℕ} {r : Record} {hs xs : List ℕ} → k < 1057
    → ((d : Draft) → Drafted at hs d → p d ≡ record { operand = length d.table + 2; draft = record { table = d.table ++ r ∷ []; helpers = noted k (length d.table + 2) d.helpers } })
    → Places p at (at + 2) (at + 1) hs (set hs k (at + 2)) xs (put_record xs at r)
places_more {p} {at} {k} {r} {hs} {xs} low is = record {
  near = omega arith;
  operand = λ d so. rw (is d so, so.here);
  writes = record {
    drafts = λ d so. rw (is d so) (record {
      here = rw (length_more d.table r, so.here) (omega arith);
      room = length-set hs k (at + 2) ∙ so.room;
      helpers = λ i. helpers d so i (ℕ_discrete i k);
    });
    grows = λ d so. rw (is d so, ← so.here) (grows_put d.table r xs);
  };
}
  where
    helpers : (d : Draft) → Drafted at hs d → (i : ℕ) → Dec (i ≡ k) → helper_in (set hs k (at + 2)) i ≡ noted k (length d.table + 2) d.helpers i
    helpers d so i (yes q) = rw (q, eq-eqb k k refl, so.here) (get_or-set_same hs k (at + 2) 0 (omega (arith, so.room)))
    helpers d so i (no q) = rw (ne_eqb i k q) (get_or-set_other hs k i (at + 2) 0 q ∙ so.helpers i)

-- the bytes with the first k of the outputs os
pub laid_outputs : {ys xs : List ℕ} {first : ℕ} {ts : List Record} (named : List ℕ) (os : List Record) → length ts ≤ first → 8 * (first + length os) ≤ length ys
    → Laid ys first ts [] xs → (k : ℕ) → k ≤ length os → ((j : ℕ) → j < k → record_at os j ≡ output (get_or named j 0)) → Laid ys first ts (take k os) (outputs_put named first k xs)
unfolding outputs_put
laid_outputs named os h room so zero l names = so
laid_outputs {ys} {xs} {first} {ts} named os h room so (suc k) l names =
    let less : length (take k os) ≡ k = length-take-le k os (omega arith) in
    let rest : Laid ys first ts (take k os) (outputs_put named first k xs) = laid_outputs named os h room so k (omega arith) (λ j q. names j (omega arith)) in
    rw (take-suc os k blank (omega arith), names k (omega arith))
    (rw less at (laid_output (output (get_or named k 0)) h (omega arith) rest))

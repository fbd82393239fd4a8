-- What stands in the RM3 table for each input and gate, as the translation goes from record to record.
use Prim.Native.Nat.{ℕ, suc, ◌+◌, ◌-◌, ◌≤◌, ◌<◌}
use mathlib.Core.Path.{◌≡◌, refl, sym, ap, ◌∙◌, subst}
use mathlib.Core.List.{List, [], ◌∷◌, ◌++◌}
use native.Mathlib.Omega.{arith}
use native.Mathlib.Decide.{dec_lt}
use lib.ListN.{length, get_or}
use Rattle.majority.specs.Table.{blank, input, record_at, Below}
use Rattle.translation.specs.Translate.{Draft, more, after, gate3, nodes3, start}
use Rattle.translation.specs.Block3.{OfBlock}
use Rattle.majority.specs.declared.Record.{Record}
use Rattle.translation.specs.declared.Mode.{Mode}
use Rattle.translation.proofs.Begins.{Begins, All, begins_then, begins_append, begins_last, all_more, length_more}
use Rattle.majority.proofs.Formed.{kind_two}
use Rattle.translation.proofs.Rm3Place.{Helper, helper_more, Fits, Blocked, blocked_none, Known}
use Rattle.translation.proofs.Rm3Gate.{Made, gate_begins, gate_blocks, gate_longer, gate_fits_lem, gate_helpers, gate_made}
use Rattle.translation.proofs.Rm3Nodes.{named, nodes_begin, nodes_induction}

-- what stands for record j, of n inputs and then gates: input j is operand j + 2, and a gate is its operation; all that was made for it has its block
pub record Stands (n : ℕ) (operands : List ℕ) (ts : List Record) (j : ℕ) (r : Record) : Type 0 where
  pub an_input : j < n → get_or operands (suc j) 0 ≡ j + 2
  pub a_gate : n ≤ j → Made operands ts r (get_or operands (suc j) 0)
  pub block : OfBlock ts (get_or operands j 0 - 1) (get_or operands (suc j) 0 - 1) r.block

-- the first j of the records rs are translated, where the operands and the table become `final` and `whole`
pub record Translated (n : ℕ) (final : List ℕ) (whole rs : List Record) (j : ℕ) (operands : List ℕ) (d : Draft) : Type 0 where
  pub count : length operands ≡ suc j
  pub here : get_or final j 0 - 1 ≡ length d.table
  pub low : (k : ℕ) → k < length operands → get_or final k 0 < length d.table + 2
  pub helpers : (k : ℕ) → (d.helpers k ≡ 0 → ⊥) → Helper final d.table k (d.helpers k)
  pub inputs : j ≤ n → length d.table ≡ j
  pub late : n ≤ j → n ≤ length d.table
  pub fits : All blank (Fits n) d.table
  pub stands : (i : ℕ) → i < j → Stands n final whole i (record_at rs i)

module _ (mode : Mode) (n : ℕ) (final : List ℕ) (whole rs : List Record)
    (inputs : (j : ℕ) → j < n → record_at rs j ≡ input)
    (gates : (j : ℕ) → n ≤ j → j < length rs → ((record_at rs j).kind ≡ 2) × Below (suc j) (record_at rs j)) where
  -- the operand of the next node
  next_operand : (j : ℕ) (operands : List ℕ) (d next : Draft) → Translated n final whole rs j operands d → Begins 0 (named operands next) final
      → get_or final (suc j) 0 ≡ length next.table + 1
  next_operand j operands d next so c = rw (← so.count) (begins_last operands (length next.table + 1) c)

  -- the block of what was made for it
  next_block : (j : ℕ) (operands : List ℕ) (d next : Draft) → Translated n final whole rs j operands d → Begins 0 (named operands next) final → Begins blank next.table whole
      → length d.table < length next.table → All blank (Blocked (length d.table) (record_at rs j).block) next.table
      → OfBlock whole (get_or final j 0 - 1) (get_or final (suc j) 0 - 1) (record_at rs j).block
  next_block j operands d next so c w longer all =
      let end : get_or final (suc j) 0 - 1 ≡ length next.table = omega (arith, next_operand j operands d next so c) in
      rw (so.here, end) (record { some = longer; each = λ i p q. ap (λ (r : Record). r.block) (w.same i q) ∙ all.each i q p })

  -- one record more
  one_more : (j : ℕ) (operands : List ℕ) (d next : Draft) → Translated n final whole rs j operands d → Begins blank d.table next.table → Begins 0 (named operands next) final
      → ((k : ℕ) → (next.helpers k ≡ 0 → ⊥) → Helper final next.table k (next.helpers k))
      → (suc j ≤ n → length next.table ≡ suc j) → (n ≤ suc j → n ≤ length next.table) → All blank (Fits n) next.table → Stands n final whole j (record_at rs j)
      → Translated n final whole rs (suc j) (named operands next) next
  one_more j operands d next so b c helpers early late all this = record {
    count = omega (arith, length_more operands (length next.table + 1), so.count);
    here = omega (arith, next_operand j operands d next so c);
    low = λ k h. low k h (dec_lt k (length operands));
    helpers = helpers;
    inputs = early;
    late = late;
    fits = all;
    stands = λ i h. stands i h (dec_lt i j);
  }
    where
      low : (k : ℕ) → k < length (named operands next) → Dec (k < length operands) → get_or final k 0 < length next.table + 2
      low k h (yes l) = omega (arith, so.low k l, b.longer)
      low k h (no l) =
          let e : k ≡ length operands = omega (arith, length_more operands (length next.table + 1)) in
          rw (e, begins_last operands (length next.table + 1) c) (omega arith)

      stands : (i : ℕ) → i < suc j → Dec (i < j) → Stands n final whole i (record_at rs i)
      stands i h (yes l) = so.stands i l
      stands i h (no l) = let e : i ≡ j = omega arith in rw e this

  input_more : (j : ℕ) (operands : List ℕ) (d : Draft) → j < n → Translated n final whole rs j operands d
      → let next = more d input in
      Begins 0 (named operands next) final → Begins blank next.table whole → Translated n final whole rs (suc j) (named operands next) next
  input_more j operands d h so c w =
      let size : length d.table ≡ j = so.inputs (omega arith) in
      let grown : length (d.table ++ input ∷ []) ≡ suc j = rw (length_more d.table input, size) in
      let b = begins_append d.table (input ∷ []) in
      one_more j operands d (more d input) so b c (λ k q. helper_more b (so.helpers k q)) (λ l. grown) (λ l. omega arith)
      (all_more input so.fits (record { an_input = λ q. refl; an_operation = λ q. absurd (omega arith) }))
      (record {
        an_input = λ l. next_operand j operands d (more d input) so c ∙ rw grown (omega arith);
        a_gate = λ l. absurd (omega arith);
        block = next_block j operands d (more d input) so c w (omega (arith, length_more d.table input)) (rw (inputs j h) (all_more input (blocked_none d.table 0) (λ l. refl)));
      })

  gate_more : (j : ℕ) (operands : List ℕ) (d : Draft) → n ≤ j → j < length rs → Translated n final whole rs j operands d
      → let next = gate3 mode operands (record_at rs j) d in
      Begins 0 (named operands next) final → Begins blank next.table whole → Translated n final whole rs (suc j) (named operands next) next
  gate_more j operands d l h so c w =
      let r = record_at rs j in
      let next = gate3 mode operands r d in
      let b = gate_begins mode operands r d in
      let known : Known final operands d = record { begins = begins_then (begins_append operands _) c; low = so.low; helpers = so.helpers } in
      let reads : Below (length operands) r = rw so.count (gates j l h).1 in
      let is = next_operand j operands d next so c in
      let late = so.late l in
      one_more j operands d next so b c (gate_helpers mode r known late reads) (λ q. absurd (omega arith)) (λ q. omega (arith, b.longer))
      (gate_fits_lem mode r known late reads so.fits)
      (record {
        an_input = λ q. absurd (omega arith);
        a_gate = λ q. rw is (gate_made mode r known late reads whole w);
        block = next_block j operands d next so c w (gate_longer mode operands r d) (gate_blocks mode operands r d);
      })

  -- record j, as `after` has it
  abbrev Step : ℕ → List ℕ → Draft → Draft → Type 0
  Step j operands d next =
      Begins 0 (named operands next) final → Begins blank next.table whole → Translated n final whole rs j operands d → Translated n final whole rs (suc j) (named operands next) next

  step : (j : ℕ) (operands : List ℕ) (d : Draft) → j < length rs → Dec (j < n) → Step j operands d (after mode operands d (record_at rs j))
  step j operands d h (yes l) =
      subst (Step j operands d) (sym (ap (after mode operands d) (inputs j l)))
      (λ c w so. input_more j operands d l so c w)
  step j operands d h (no l) =
      subst (Step j operands d) (sym (kind_two (record_at rs j).kind _ _ _ _ (gates j (omega arith) h).0))
      (λ c w so. gate_more j operands d (omega arith) h so c w)

  -- all records
  pub nodes_translated : let done = nodes3 mode (0 ∷ []) start rs in Begins 0 done.operands final → Begins blank done.draft.table whole
      → Translated n final whole rs (length rs) done.operands done.draft
  nodes_translated b c =
      let first : get_or final 0 0 ≡ 0 = (begins_then (nodes_begin mode (0 ∷ []) start rs).0 b).same 0 (omega arith) in
      nodes_induction mode (Translated n final whole rs) final whole rs (λ j operands d h. step j operands d h (dec_lt j n)) (0 ∷ []) start b c
      (record {
        count = refl;
        here = rw first;
        low = λ k h. let e : k ≡ 0 = omega arith in rw (e, first) (omega arith);
        helpers = λ k h. absurd (h refl);
        inputs = λ h. refl;
        late = λ h. h;
        fits = record { each = λ i h. absurd (omega arith) };
        stands = λ i h. absurd (omega arith);
      })

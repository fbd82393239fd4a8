-- One step of a script that is converted: where it met opposite edges, rule 10 does now what rule 2 did; and else the step does what it did.
use Prim.Native.Nat.{ℕ, ◌+◌, ◌*◌, ◌/◌, ◌≤◌}
use mathlib.Core.Path.{◌≡◌, refl, sym, ◌∙◌, ap}
use mathlib.Core.Bool.{Bool, true, false, ◌&&◌}
use mathlib.Core.List.{List}
use native.Mathlib.Omega.{arith}
use borrow.Author.Tests.{eqb-true, ne_eqb, le-ltb}
use lib.Dec.{eqb}
use lib.ListN.{length}
use Rattle.std.specs.Prelude.{if◌then◌else◌, Result, Ok, Err}
use Rattle.majority.specs.Edge.{flip}
use Rattle.majority.specs.Edit.{node_record}
use Rattle.majority.specs.declared.Record.{Record}
use Rattle.majority.specs.declared.Counts.{Counts}
use Rattle.majority.proofs.Logic.{both}
use Rattle.majority.proofs.Accepted.{acceptance}
use Rattle.rules.specs.Rules.{majority_form, majority_rule, opposite_form, opposite}
use Rattle.rules.specs.Step.{step_with, rule_of, fields_fit, has_form, inserted, rewritten, step_by, step}
use Rattle.rules.specs.declared.Step.{Step}
use Rattle.rules.specs.declared.Rule.TheVariants.{Majority, Opposite}
use Rattle.tables.specs.Bytes.{table_of}
use Rattle.tables.specs.Calls.{check_of}
use Rattle.tables.proofs.Decoded.{length_table}
use Rattle.tables.proofs.Encoded.{accepted_records}
use Rattle.rewriting.specs.Calls.{step_table, step_of, step_bytes}
use Rattle.demands.specs.Converted.{majority_step_before, step_before, step_table_before, step_of_before, step_bytes_before, meets_opposite}
use Rattle.refusals.specs.declared.Refusal.{Refusal}
use Rattle.refusals.specs.Reply.{◌>>=◌}

-- a refusal that stands after something was made of what was accepted was there before
not_taken : {A B : Type 0} (r : Result A Refusal) (f : A → B) (w : Refusal) → Err w ≡ ◌>>=◌ r (λ x. Ok (f x)) → r ≡ Err w
not_taken (Ok x) f w e = let z : ◌≡◌ {A = ℕ} 0 1 = cc in absurd (omega arith)
not_taken (Err v) f w e = let same : v ≡ w = cc in ap Err same

-- the step as it is converted
abbrev pub converted_step : List Record → Step → Step
converted_step rs s = if meets_opposite rs s then step_with 10 s.gate s.a s.b else s

-- no edge is its own opposite
flip_other : (e : ℕ) → flip e ≡ e → ⊥
unfolding flip
flip_other e h = omega arith

module _ (bytes n m : ℕ) (rs : List Record) (g a b : ℕ) where
  abbrev r : Record
  r = node_record rs g

  unequal : opposite_form r ≡ true → eqb r.e2 r.e1 ≡ false
  unfolding opposite_form
  unequal form = let against : r.e2 ≡ flip r.e1 = eqb-true _ _ form in ne_eqb _ _ (λ e. flip_other r.e1 (sym against ∙ e))

  -- on opposite edges rule 10 does what rule 2 did
  as_opposite : opposite_form r ≡ true → step_by bytes n m rs Opposite g a b ≡ majority_step_before bytes n m rs g a b
  unfolding step_by fields_fit has_form rewritten opposite_form opposite majority_step_before
  as_opposite form = rw (unequal form, form)

  -- on others rule 2 does
  as_majority : opposite_form r ≡ false → step_by bytes n m rs Majority g a b ≡ majority_step_before bytes n m rs g a b
  unfolding step_by has_form rewritten majority_form majority_rule opposite_form majority_step_before
  as_majority form = go (eqb r.e2 r.e1) refl
    where
      go : (t : Bool) → eqb r.e2 r.e1 ≡ t → step_by bytes n m rs Majority g a b ≡ majority_step_before bytes n m rs g a b
      go true e = rw e
      go false e = rw (e, form)

  -- on opposite edges rule 2 was refused for its fields alone, and so it is now
  still_refused : m ≤ 1024 → 8 * length rs ≤ bytes → opposite_form r ≡ true → (w : Refusal) → majority_step_before bytes n m rs g a b ≡ Err w → step_by bytes n m rs Majority g a b ≡ Err w
  unfolding step_by majority_step_before opposite_form
  still_refused few room form w e = go (fields_fit n m Majority g a b) refl
    where
      go : (t : Bool) → fields_fit n m Majority g a b ≡ t → step_by bytes n m rs Majority g a b ≡ Err w
      go false fields = rw fields (rw fields at e)
      go true fields =
          let few' : m + inserted n Majority g ≤ 1024 = omega arith in
          let room' : 8 * (length rs + inserted n Majority g) ≤ bytes = omega arith in
          let taken = rw (fields, unequal form, form, le-ltb _ _ few', le-ltb _ _ room') at e in
          let z : ◌≡◌ {A = ℕ} 0 1 = cc in
          absurd (omega arith)

module _ (bytes n m : ℕ) (rs : List Record) (s : Step) where
  is_10 : step bytes n m rs (step_with 10 s.gate s.a s.b) ≡ step_by bytes n m rs Opposite s.gate s.a s.b
  unfolding step rule_of
  is_10 = refl

  is_2 : s.rule ≡ 2 → step bytes n m rs s ≡ step_by bytes n m rs Majority s.gate s.a s.b
  unfolding step rule_of
  is_2 e = rw e

  was_2 : s.rule ≡ 2 → step_before bytes n m rs s ≡ majority_step_before bytes n m rs s.gate s.a s.b
  unfolding step_before
  was_2 e = rw e

  -- what a step that met opposite edges is
  met : meets_opposite rs s ≡ true → (s.rule ≡ 2) × (opposite_form (node_record rs s.gate) ≡ true)
  met is = let w = both (eqb s.rule 2) (opposite_form (node_record rs s.gate)) is in (eqb-true _ _ w.0, w.1)

  module _ (known : s.rule ≡ 10 → ⊥) where
    -- one that did not does what it did
    unmet : meets_opposite rs s ≡ false → step bytes n m rs s ≡ step_before bytes n m rs s
    unfolding step_before
    unmet = go (eqb s.rule 2) refl
      where
        go : (t : Bool) → eqb s.rule 2 ≡ t → (t && opposite_form (node_record rs s.gate)) ≡ false → step bytes n m rs s ≡ step_before bytes n m rs s
        go true is form = let e = eqb-true _ _ is in is_2 e ∙ as_majority bytes n m rs s.gate s.a s.b form ∙ sym (was_2 e)
        go false is form = rw (ne_eqb s.rule 10 known, is)

    step_converted : step bytes n m rs (converted_step rs s) ≡ step_before bytes n m rs s
    step_converted = go (meets_opposite rs s) refl
      where
        go : (t : Bool) → meets_opposite rs s ≡ t → step bytes n m rs (if t then step_with 10 s.gate s.a s.b else s) ≡ step_before bytes n m rs s
        go true is = is_10 ∙ as_opposite bytes n m rs s.gate s.a s.b (met is).1 ∙ sym (was_2 (met is).0)
        go false is = unmet is

    -- a step that was refused stays as it is
    step_refused : m ≤ 1024 → 8 * length rs ≤ bytes → (w : Refusal) → step_before bytes n m rs s ≡ Err w → step bytes n m rs s ≡ Err w
    step_refused few room w e = go (meets_opposite rs s) refl
      where
        go : (t : Bool) → meets_opposite rs s ≡ t → step bytes n m rs s ≡ Err w
        go true is = is_2 (met is).0 ∙ still_refused bytes n m rs s.gate s.a s.b few room (met is).1 w (sym (was_2 (met is).0) ∙ e)
        go false is = unmet is ∙ e

-- on the table in the first `used` bytes of xs
module _ (xs : List ℕ) (used : ℕ) (s : Step) (known : s.rule ≡ 10 → ⊥) where
  abbrev rs : List Record
  rs = table_of xs (used / 8)

  table_converted : step_table xs used (converted_step rs s) ≡ step_table_before xs used s
  unfolding step_table step_table_before
  table_converted = go (check_of xs used)
    where
      go : (c : Result Counts Refusal) → ◌>>=◌ c (λ c. step (length xs) c.inputs c.gates rs (converted_step rs s)) ≡ ◌>>=◌ c (λ c. step_before (length xs) c.inputs c.gates rs s)
      go (Ok c) = step_converted (length xs) c.inputs c.gates rs s known
      go (Err w) = refl

  pub reply_converted : step_of xs used (converted_step rs s) ≡ step_of_before xs used s
  unfolding step_of step_of_before
  reply_converted = rw table_converted

  pub bytes_converted : step_bytes xs used (converted_step rs s) ≡ step_bytes_before xs used s
  unfolding step_bytes step_bytes_before
  bytes_converted = rw table_converted

  table_refused : (w : Refusal) → step_table_before xs used s ≡ Err w → step_table xs used s ≡ Err w
  unfolding step_table step_table_before
  table_refused w e = go (check_of xs used) refl e
    where
      go : (c : Result Counts Refusal) → check_of xs used ≡ c → ◌>>=◌ c (λ c. step_before (length xs) c.inputs c.gates rs s) ≡ Err w
          → ◌>>=◌ c (λ c. step (length xs) c.inputs c.gates rs s) ≡ Err w
      go (Err v) is e = e
      go (Ok c) is e =
          let held = accepted_records xs used c is in
          let limits = (acceptance c.inputs c.gates c.outputs rs held.2).limits in
          step_refused (length xs) c.inputs c.gates rs s known limits.gates (omega (arith, held.1, length_table xs (used / 8))) w e

  pub reply_refused : (w : Refusal) → step_of_before xs used s ≡ Err w → step_of xs used s ≡ Err w
  unfolding step_of step_of_before
  reply_refused w e = rw (table_refused w (not_taken (step_table_before xs used s) (λ t. 8 * length t) w (sym e)))

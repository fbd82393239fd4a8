-- A step on a table that was checked: what it replies and leaves, refused or taken.
use Rattle.std.proofs.Common.{◌≡◌, ℕ, ◌+◌, ◌-◌, ◌*◌, ◌<◌, ◌≤◌, true, false, List, length, sym, refl, ap, ◌∙◌, true≢false, arith, le-ltb, lt-ltb}
use Rattle.majority.specs.Table.{WellFormed}
use Rattle.majority.specs.Check.{count}
use Rattle.rules.specs.Sweep.{sweep}
use Rattle.rules.specs.Step.{is_sweep, fields_fit, has_form, inserted, rewritten, step_by}
use Rattle.rules.specs.declared.Rule.{Rule}
use Rattle.rules.specs.declared.Rule.TheVariants.{Exchange, Majority, Associativity, Outward, Inward, Inversion, Share, Sweep, Voter, Opposite}
use Rattle.majority.specs.declared.Record.{Record}
use Rattle.majority.specs.declared.Counts.{Counts}
use Rattle.rules.proofs.AcceptedStep.{gates_after, Taken, taken_step}
use Rattle.majority.proofs.Order.{order_counts}
use Rattle.majority.proofs.Accepted.{order_of}
use Rattle.rules.proofs.Sweep.{left_fewer, sweep_kept}
use Rattle.rules.proofs.Steps.{taken_count, taken_nodes}
use Rattle.tables.specs.Sound.{Sound, table_in}
use Rattle.tables.proofs.Decoded.{length_table}
use Rattle.tables.proofs.Sound.{sound_accepted}
use Rattle.tables.specs.Bytes.{holding}
use Rattle.rewriting.specs.inner.Fitting.{Fitting}
use Rattle.rewriting.specs.inner.Swept.{Swept}
use Rattle.rewriting.specs.inner.Applied.{used_by, changed, Rewritten, change_in}
use Rattle.rewriting.specs.declared.applying.Change.{Change}
use Rattle.rewriting.proofs.HoldingInstead.{instead_long, instead_short}
use Rattle.std.specs.Prelude.{Ok, Err}
use Rattle.refusals.specs.declared.Refusal.TheVariants as refusal

-- the table that sweep makes
pub swept_made : (n : ℕ) (rs : List Record) (rule : Rule) (g a b : ℕ) → is_sweep rule ≡ true → rewritten n rs rule g a b ≡ sweep rs
unfolding rewritten
swept_made n rs Exchange g a b e = absurd (true≢false (sym e))
swept_made n rs Majority g a b e = absurd (true≢false (sym e))
swept_made n rs Associativity g a b e = absurd (true≢false (sym e))
swept_made n rs Outward g a b e = absurd (true≢false (sym e))
swept_made n rs Inward g a b e = absurd (true≢false (sym e))
swept_made n rs Inversion g a b e = absurd (true≢false (sym e))
swept_made n rs Share g a b e = absurd (true≢false (sym e))
swept_made n rs Sweep g a b e = refl
swept_made n rs Voter g a b e = absurd (true≢false (sym e))
swept_made n rs Opposite g a b e = absurd (true≢false (sym e))

-- sweep leaves no more gates than there were
pub swept_fewer : {xs ys : List ℕ} {c : Counts} {r : ℕ} → Sound xs c → Swept xs c r ys → r ≤ c.gates
swept_fewer {xs} {c = c} sound swept =
    let formed = (sound_accepted sound).formed in
    let kept = (sweep_kept formed).formed in
    let counted = (order_counts (sweep (table_in xs c)) _ _ _ kept.whole (order_of _ _ _ _ kept)).1 in
    omega (arith, swept.left, counted, left_fewer formed)

module _ {xs : List ℕ} {c : Counts} {h : Change} (fit : Fitting xs c h) where
  abbrev table : List Record
  table = table_in xs c

  abbrev after : List Record
  after = changed xs c h

  -- the step is taken
  fit_taken : Taken (length xs) c.inputs c.gates table h.rule h.gate h.a h.b after
  fit_taken = record {
    fields = fit.fields;
    form = fit.form;
    few = fit.few;
    room = rw (length_table xs (c.inputs + c.gates + c.outputs)) fit.room;
    result = refl;
  }

  fit_step : change_in xs c h ≡ Ok after
  fit_step = taken_step (length xs) c.inputs c.gates table h.rule h.gate h.a h.b after fit_taken

  formed : WellFormed c.inputs c.gates c.outputs table
  formed = (sound_accepted fit.sound).formed

  fit_count : count 2 after ≡ gates_after c.inputs c.gates table h.rule h.gate
  fit_count = taken_count formed fit_taken

  fit_length : length after ≡ c.inputs + count 2 after + c.outputs
  fit_length = (taken_nodes formed fit_taken).formed.whole

  -- by a rule other than sweep
  module _ (other : is_sweep h.rule ≡ false) where
    grown : count 2 after ≡ c.gates + inserted c.inputs h.rule h.gate
    grown = fit_count ∙ rw other

    pub rewritten_holding : {ys : List ℕ} (used : ℕ) → used ≡ 8 * (c.inputs + (c.gates + inserted c.inputs h.rule h.gate) + c.outputs) → ys ≡ holding after xs → Rewritten xs c h used ys
    rewritten_holding used long holds = record {
      reply = rw fit_step (ap Ok (omega (arith, long, fit_length, grown)));
      bytes = rw fit_step (holds ∙ sym (instead_long after (used_by c) xs (omega (arith, fit_length, grown))));
    }

  -- by sweep
  pub rewritten_swept : {ys : List ℕ} (used r : ℕ) → is_sweep h.rule ≡ true → used ≡ 8 * (c.inputs + r + c.outputs) → Swept xs c r ys → Rewritten xs c h used ys
  rewritten_swept used r sweeps long swept =
      let is : after ≡ sweep table = swept_made c.inputs table h.rule h.gate h.a h.b sweeps in
      let gates : r ≡ count 2 after = swept.left ∙ ap (count 2) (sym is) in
      let fewer = swept_fewer fit.sound swept in
      record {
        reply = rw fit_step (ap Ok (omega (arith, long, gates, fit_length)));
        bytes = rw fit_step (swept.bytes ∙ rw (← is) (sym (instead_short after (c.gates - r) (used_by c) xs (omega (arith, fit_length)))));
      }

-- the refusals of a step of a rule, in their order
module _ (bytes n m : ℕ) (rs : List Record) (rule : Rule) (g a b : ℕ) where
  pub refuse_8 : fields_fit n m rule g a b ≡ false → step_by bytes n m rs rule g a b ≡ Err refusal.Field
  unfolding step_by
  refuse_8 h = rw h

  module _ (fields : fields_fit n m rule g a b ≡ true) where
    pub refuse_9 : has_form n rs rule g a b ≡ false → step_by bytes n m rs rule g a b ≡ Err refusal.Form
    unfolding step_by
    refuse_9 h = rw (fields, h)

    module _ (form : has_form n rs rule g a b ≡ true) where
      pub refuse_10 : 1024 < m + inserted n rule g → step_by bytes n m rs rule g a b ≡ Err refusal.Gates
      unfolding step_by
      refuse_10 h = rw (fields, form, lt-ltb 1024 (m + inserted n rule g) h)

      pub refuse_11 : m + inserted n rule g ≤ 1024 → bytes < 8 * (length rs + inserted n rule g) → step_by bytes n m rs rule g a b ≡ Err refusal.Room
      unfolding step_by
      refuse_11 few h = rw (fields, form, le-ltb 1024 (m + inserted n rule g) few, lt-ltb bytes (8 * (length rs + inserted n rule g)) h)

-- a rule inserts at most thrice as many gates as its number says, and two
pub few_more : (n : ℕ) (rule : Rule) (g : ℕ) → inserted n rule g ≤ 3 * g + 2
few_more n Exchange g = omega arith
few_more n Majority g = omega arith
few_more n Associativity g = omega arith
few_more n Outward g = omega arith
few_more n Inward g = omega arith
few_more n Inversion g = omega arith
few_more n Share g = omega arith
few_more n Sweep g = omega arith
few_more n Voter g = omega arith
few_more n Opposite g = omega arith

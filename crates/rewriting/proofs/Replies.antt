-- What a step replies and leaves, from the check and from what its change makes.
use Rattle.std.proofs.Common.{◌≡◌, ℕ, ◌*◌, ◌+◌, ◌/◌, List, length, sym, refl, ap, ◌∙◌, arith}
use Rattle.rules.specs.Step.{rule_of, step_by, step}
use Rattle.rules.specs.declared.Rule.{Rule}
use Rattle.rules.specs.declared.Step.{Step}
use Rattle.majority.specs.declared.Record.{Record}
use Rattle.majority.specs.declared.Counts.{Counts}
use Rattle.tables.specs.Calls.{check_of}
use Rattle.tables.specs.Sound.{Sound, table_in}
use Rattle.tables.proofs.Encoded.{records_checked}
use Rattle.tables.proofs.AfterCheck.{checked_length}
use Rattle.rewriting.specs.inner.Applied.{used_by, change_of, change_in, step_in, length_of}
use Rattle.rewriting.specs.Calls.{after_reply, step_table, step_of, step_bytes}
use Rattle.rewriting.specs.declared.applying.Change.{Change}
use Rattle.std.specs.Prelude.{Result, Ok, Err}
use Rattle.refusals.specs.declared.Refusal.{Refusal}
use Rattle.refusals.specs.Reply.{◌>>=◌}

-- a refused step leaves every byte
pub refused_step : (xs : List ℕ) (used : ℕ) (s : Step) (w : Refusal) → step_of xs used s ≡ Err w → step_bytes xs used s ≡ xs
unfolding step_of step_bytes
refused_step xs used s w e = go (step_table xs used s) e
  where
    go : (r : Result (List Record) Refusal) → ◌>>=◌ r (λ t. Ok (8 * length t)) ≡ Err w → after_reply r used xs ≡ xs
    go (Ok t) e = let z : ◌≡◌ {A = ℕ} 0 1 = cc in absurd (omega arith)
    go (Err v) e = refl

-- a sound table is accepted at its own length
pub sound_checked : {xs : List ℕ} {c : Counts} → Sound xs c → check_of xs (used_by c) ≡ Ok c
sound_checked {xs} {c} sound =
    let count : used_by c / 8 ≡ c.inputs + c.gates + c.outputs = omega arith in
    records_checked xs (used_by c) (omega arith) sound.fits ∙ rw count sound.sound

module _ {xs : List ℕ} {c : Counts} (sound : Sound xs c) (s : Step) where
  pub table_same : step_table xs (used_by c) s ≡ step_in xs c s
  unfolding step_table
  table_same = let count : used_by c / 8 ≡ c.inputs + c.gates + c.outputs = omega arith in rw (sound_checked sound, count)

  -- a step is the change by the rule that has its number
  by_change : step_in xs c s ≡ ◌>>=◌ (change_of s) (change_in xs c)
  unfolding step change_of
  by_change = go (rule_of s.rule)
    where
      go : (r : Result Rule Refusal) → ◌>>=◌ r (λ rule. step_by (length xs) c.inputs c.gates (table_in xs c) rule s.gate s.a s.b)
          ≡ ◌>>=◌ (◌>>=◌ r (λ rule. Ok (record { rule = rule; gate = s.gate; a = s.a; b = s.b }))) (change_in xs c)
      go (Ok rule) = refl
      go (Err w) = refl

  module _ {h : Change} (is : change_of s ≡ Ok h) where
    known_table : step_table xs (used_by c) s ≡ change_in xs c h
    known_table = table_same ∙ by_change ∙ rw is

    pub known_replies : length_of (change_in xs c h) ≡ step_of xs (used_by c) s
    unfolding step_of
    known_replies = rw known_table

    pub known_leaves : after_reply (change_in xs c h) (used_by c) xs ≡ step_bytes xs (used_by c) s
    unfolding step_bytes
    known_leaves = rw known_table

  module _ {w : Refusal} (is : change_of s ≡ Err w) where
    unknown_table : step_table xs (used_by c) s ≡ Err w
    unknown_table = table_same ∙ by_change ∙ rw is

    pub unknown_replies : step_of xs (used_by c) s ≡ Err w
    unfolding step_of
    unknown_replies = rw unknown_table

    pub unknown_leaves : step_bytes xs (used_by c) s ≡ xs
    unfolding step_bytes
    unknown_leaves = rw unknown_table

-- where the table is accepted, at its own length
module _ (xs : List ℕ) (used : ℕ) (c : Counts) (is : check_of xs used ≡ Ok c) (s : Step) where
  same : used_by c ≡ used
  same = sym (checked_length xs used c is)

  pub accepted_replies : step_of xs (used_by c) s ≡ step_of xs used s
  accepted_replies = ap (λ (u : ℕ). step_of xs u s) same

  pub accepted_leaves : step_bytes xs (used_by c) s ≡ step_bytes xs used s
  accepted_leaves = ap (λ (u : ℕ). step_bytes xs u s) same

-- and where it is refused
module _ (xs : List ℕ) (used : ℕ) (w : Refusal) (is : check_of xs used ≡ Err w) (s : Step) where
  pub refused_replies : step_of xs used s ≡ Err w
  unfolding step_of step_table
  refused_replies = rw is

  pub refused_leaves : step_bytes xs used s ≡ xs
  unfolding step_bytes step_table
  refused_leaves = rw is

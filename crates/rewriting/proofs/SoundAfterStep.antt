-- After a step that was taken the buffer holds a sound table of the used length that the step replied.
use Rattle.std.proofs.Common.{◌≡◌, ℕ, ◌+◌, ◌-◌, ◌*◌, ◌/◌, ◌≤◌, List, ◌++◌, length, drop, replicate, sym, refl, ◌∙◌, arith, length-append, length-drop}
use lib.ListN.{length-replicate}
use Rattle.majority.specs.Check.{count}
use Rattle.rules.specs.declared.Step.{Step}
use Rattle.majority.specs.declared.Record.{Record}
use Rattle.majority.specs.declared.Counts.{Counts}
use Rattle.majority.proofs.Accepted.{accepts}
use Rattle.rules.proofs.Steps.{step_fits, step_accepted}
use Rattle.tables.specs.Bytes.{table_of}
use Rattle.tables.specs.Sound.{Sound}
use Rattle.tables.proofs.Encoded.{holding_length, holding_table}
use Rattle.tables.proofs.Sound.{sound_accepted}
use Rattle.rewriting.specs.inner.Applied.{used_by, step_in}
use Rattle.rewriting.specs.Calls.{holding_instead, step_of, step_bytes}
use Rattle.rewriting.specs.Script.{counts_at, counts_after}
use Rattle.rewriting.proofs.Replies.{table_same, refused_step}
use Rattle.std.specs.Prelude.{Result, Ok, Err}
use Rattle.refusals.specs.declared.Refusal.{Refusal}
use Rattle.refusals.specs.Reply.{◌>>=◌}

-- a table put in place of another is the one that its buffer holds
module _ (t : List Record) (used : ℕ) (xs : List ℕ) where
  pub instead_length : used ≤ length xs → 8 * length t ≤ length xs → length (holding_instead t used xs) ≡ length xs
  unfolding holding_instead
  instead_length h l =
      let same : length (replicate used 0 ++ drop used xs) ≡ length xs = simp (length-append, length-replicate, length-drop) (omega arith) in
      holding_length t (replicate used 0 ++ drop used xs) (omega (arith, same)) ∙ same

  pub instead_table : table_of (holding_instead t used xs) (length t) ≡ t
  unfolding holding_instead
  instead_table = holding_table t _

module _ {xs : List ℕ} {c : Counts} (sound : Sound xs c) (s : Step) (used : ℕ) (taken : step_of xs (used_by c) s ≡ Ok used) where
  pub record SoundNext : Type 0 where
    pub next : Sound (step_bytes xs (used_by c) s) (counts_at c used)
    pub length_is : used_by (counts_at c used) ≡ used

  pub sound_next : SoundNext
  unfolding step_of step_bytes
  sound_next = go (step_in xs c s) refl (sym (rw (table_same sound s)) ∙ taken)
    where
      go : (r : Result (List Record) Refusal) → step_in xs c s ≡ r → ◌>>=◌ r (λ t. Ok (8 * length t)) ≡ Ok used → SoundNext
      go (Err w) is e = let z : ◌≡◌ {A = ℕ} 0 1 = cc in absurd (omega arith)
      go (Ok t) is e =
          let len : 8 * length t ≡ used = cc in
          let was = sound_accepted sound in
          let now = step_accepted was (length xs) s t is in
          let whole : length t ≡ c.inputs + count 2 t + c.outputs = now.formed.whole in
          let gates : used / 8 - c.inputs - c.outputs ≡ count 2 t = omega arith in
          let all : c.inputs + (used / 8 - c.inputs - c.outputs) + c.outputs ≡ length t = omega arith in
          let room = step_fits was.formed (length xs) s t is in
          let long = instead_length t (used_by c) xs sound.fits room in
          record {
            next = rw (table_same sound s, is)
                (record {
                  fits = omega arith;
                  sound = rw (all, instead_table t (used_by c) xs, gates) (accepts c.inputs (count 2 t) c.outputs t now);
                });
            length_is = omega arith;
          }

-- and so after any step
pub sound_after : {xs ys : List ℕ} {c : Counts} → Sound xs c → (s : Step) (r : Result ℕ Refusal) → r ≡ step_of xs (used_by c) s → ys ≡ step_bytes xs (used_by c) s → Sound ys (counts_after c r)
sound_after {xs} {ys} {c} sound s (Ok used) reply bytes = rw bytes (sound_next sound s used (sym reply)).next
sound_after {xs} {ys} {c} sound s (Err w) reply bytes = rw (bytes ∙ refused_step xs (used_by c) s w (sym reply)) sound

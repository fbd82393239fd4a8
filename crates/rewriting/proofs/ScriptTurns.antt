-- A script, one turn at a time: a step that is taken, one that stops it, and the end.
use Rattle.std.proofs.Common.{◌≡◌, ℕ, suc, ◌+◌, ◌-◌, ◌<◌, ◌≤◌, List, ◌∷◌, sym, refl, ap, ◌∙◌, add-one, true, false, true≢false, arith}
use Rattle.rules.specs.declared.Step.{Step}
use Rattle.rewriting.specs.Calls.{step_of, step_bytes}
use Rattle.rewriting.specs.inner.Applied.{used_by}
use Rattle.rewriting.specs.inner.Stepped.{Stepped}
use Rattle.rewriting.proofs.Replies.{refused_step}
use Rattle.rewriting.proofs.SoundAfterStep.{sound_next}
use Rattle.majority.specs.declared.Counts.{Counts}
use Rattle.tables.specs.Sound.{Sound}
use Rattle.rewriting.specs.Script.{step_at, steps_from, run_by, run_from, run_of, progress_after, counts_at, counts_after}
use Rattle.rewriting.specs.declared.Progress.{Progress}
use Rattle.std.specs.Prelude.{Result, Ok, Err, None, is_some}
use Rattle.refusals.specs.declared.Refusal.{Refusal}

-- a step on an accepted table, and the progress before and after it
module _ {xs ys : List ℕ} {c d : Counts} {s : Step} {r : Result ℕ Refusal} (sound : Sound xs c) (done : Stepped xs c s r ys d) (p p' : Progress) (after : p' ≡ progress_after p r) (at : p.used ≡ used_by c) where
  reply : (u : Result ℕ Refusal) → r ≡ u → step_of xs p.used s ≡ u
  reply u is = ap (λ (k : ℕ). step_of xs k s) at ∙ sym done.reply ∙ is

  bytes : ys ≡ step_bytes xs p.used s
  bytes = done.bytes ∙ ap (λ (k : ℕ). step_bytes xs k s) (sym at)

  -- a turn that goes on
  pub record On : Type 0 where
    pub taken : step_of xs p.used s ≡ Ok p'.used
    pub more : p'.taken ≡ p.taken + 1
    pub unstopped : p'.refusal ≡ None
    pub used : p'.used ≡ used_by d
    pub inputs : d.inputs ≡ c.inputs
    pub onward : (rest : List Step) → run_from p.taken xs p.used (s ∷ rest) ≡ run_from p'.taken ys p'.used rest

  pub turn_on : is_some p'.refusal ≡ false → On
  unfolding run_by
  turn_on going = go r refl
    where
      go : (u : Result ℕ Refusal) → r ≡ u → On
      go (Ok n) is =
          let next : p' ≡ progress_after p (Ok n) = after ∙ ap (progress_after p) is in
          let taken = reply (Ok n) is in
          let counts : d ≡ counts_at c n = done.counts ∙ ap (counts_after c) is in
          record {
            taken = rw next taken;
            more = rw next;
            unstopped = rw next;
            used = rw (next, counts) (sym (sound_next sound s n (sym done.reply ∙ is)).length_is);
            inputs = rw counts;
            onward = λ rest. rw (next, bytes, taken);
          }
      go (Err x) is = absurd (true≢false (ap (λ (q : Progress). is_some q.refusal) (sym (after ∙ ap (progress_after p) is)) ∙ going))

  -- a turn that stops
  pub record Off : Type 0 where
    pub refusal : Refusal
    pub refused : step_of xs p.used s ≡ Err refusal
    pub ended : (rest : List Step) → run_of p' ys ≡ run_from p.taken xs p.used (s ∷ rest)

  pub turn_off : is_some p'.refusal ≡ true → Off
  unfolding run_by
  turn_off shut = go r refl
    where
      go : (u : Result ℕ Refusal) → r ≡ u → Off
      go (Ok n) is = absurd (true≢false (sym shut ∙ ap (λ (q : Progress). is_some q.refusal) (after ∙ ap (progress_after p) is)))
      go (Err x) is =
          let next : p' ≡ progress_after p (Err x) = after ∙ ap (progress_after p) is in
          let refused = reply (Err x) is in
          let still : ys ≡ xs = bytes ∙ refused_step xs p.used s x refused in
          record { refusal = x; refused = refused; ended = λ rest. rw (next, still, refused) }

-- the steps from step i on, of n
pub step_next : (steps : List ℕ) (n i : ℕ) → i < n → steps_from steps i (n - i) ≡ step_at steps i ∷ steps_from steps (i + 1) (n - (i + 1))
unfolding steps_from
step_next steps n i h = let e : n - i ≡ suc (n - (i + 1)) = omega arith in rw (e, add-one)

pub steps_end : (steps : List ℕ) (taken used n i : ℕ) (xs : List ℕ) → n ≤ i
    → run_from taken xs used (steps_from steps i (n - i)) ≡ record { taken = taken; end = None; used = used; bytes = xs }
unfolding run_by steps_from
steps_end steps taken used n i xs h = let e : n - i ≡ 0 = omega arith in rw e

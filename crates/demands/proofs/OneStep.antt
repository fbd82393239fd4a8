-- One step takes a buffer that holds an accepted table to another such buffer, and keeps what it must between the two tables; sweep keeps depth itself, every other rule what stood below g, and what a step inserts
-- has its gate's block.
use Prim.Native.Nat.{ℕ, suc, ◌+◌, ◌*◌, ◌/◌, ◌≤◌, ◌<◌}
use mathlib.Core.Path.{◌≡◌, refl, sym, ap, ◌∙◌}
use mathlib.Core.List.{List}
use native.Mathlib.Omega.{arith}
use lib.ListN.{length}
use Rattle.rules.specs.Kept.{Kept}
use Rattle.rules.specs.Followed.{Probe, followed, followed_edge, Shows}
use Rattle.rules.specs.Voter.{block_of}
use Rattle.rules.specs.Step.{step, deepens_by, voters_by, inserted_by}
use Rattle.rules.specs.declared.Step.{Step}
use Rattle.majority.specs.Table.{record_at}
use Rattle.majority.specs.Check.{counts, check_records, count}
use Rattle.majority.specs.declared.Record.{Record}
use Rattle.majority.proofs.Accepted.{Accepted, acceptance, accepts}
use Rattle.rules.proofs.Kept.{kept_same}
use Rattle.rules.proofs.Followed.{step_shows}
use Rattle.rules.proofs.Steps.{step_kept, step_blocks, sweep_step_depth, step_lower, step_fits, step_accepted}
use Rattle.tables.specs.Bytes.{table_of}
use Rattle.tables.specs.Calls.{check_of}
use Rattle.tables.proofs.Encoded.{accepted_records, records_checked}
use Rattle.rewriting.specs.Calls.{holding_instead, after_reply, step_table, step_of, step_bytes}
use Rattle.rewriting.proofs.SoundAfterStep.{instead_length, instead_table}
use Rattle.demands.specs.Demand3.{KeepsDepth, SweepKeepsDepth}
use Rattle.std.specs.Prelude.{Result, Ok, Err}
use Rattle.refusals.specs.declared.Refusal.{Refusal}
use Rattle.refusals.specs.Reply.{◌>>=◌}

-- from the buffer xs, whose table has m gates, to the buffer ys: ys holds an accepted table, depth has risen by at most δ, and probes and their edges have become what `probe` and `edge` say
pub record Between (δ : ℕ) (probe : Probe → Probe) (edge : ℕ → ℕ) (n m o : ℕ) (xs : List ℕ) (used : ℕ) (ys : List ℕ) (end : ℕ) : Type 0 where
  pub gates : ℕ
  pub holds : check_of ys end ≡ Ok (counts n gates o)
  pub kept : Kept δ n m gates o (table_of xs (used / 8)) (table_of ys (end / 8))
  pub shows : (first : List Record) (g : ℕ) (p : Probe) (x : ℕ)
      → Shows n m first (table_of xs (used / 8)) g p x → Shows n gates first (table_of ys (end / 8)) g (probe p) (edge x)

-- a table put in place of another is the one that the buffer holds up to the length replied
module _ (t : List Record) (used : ℕ) (xs : List ℕ) where
  last_table : table_of (holding_instead t used xs) (8 * length t / 8) ≡ t
  last_table = let e : 8 * length t / 8 ≡ length t = omega arith in rw e (instead_table t used xs)

  -- and is checked as its records are
  instead_check : used ≤ length xs → 8 * length t ≤ length xs → check_of (holding_instead t used xs) (8 * length t) ≡ check_records t
  instead_check h fits =
      records_checked _ (8 * length t) (omega arith) (omega (arith, instead_length t used xs h fits)) ∙ ap check_records last_table

-- the table that the step s makes of that of n inputs and m gates in xs, or the refusal
abbrev outcome : List ℕ → ℕ → ℕ → ℕ → Step → Result (List Record) Refusal
outcome xs used n m s = step (length xs) n m (table_of xs (used / 8)) s

module _ (xs : List ℕ) (used n m o : ℕ) (is : check_of xs used ≡ Ok (counts n m o)) where
  was : Accepted n m o (table_of xs (used / 8))
  was = acceptance n m o _ (accepted_records xs used _ is).2

  -- no step at all
  pub between_same : Between 0 (λ p. p) (λ x. x) n m o xs used xs used
  between_same = record { gates = m; holds = is; kept = kept_same was.formed; shows = λ first g p x w. w }

  module _ (s : Step) where
    table_is : step_table xs used s ≡ outcome xs used n m s
    unfolding step_table
    table_is = rw is

    reply_is : step_of xs used s ≡ ◌>>=◌ (outcome xs used n m s) (λ t. Ok (8 * length t))
    unfolding step_of
    reply_is = rw table_is

    bytes_are : step_bytes xs used s ≡ after_reply (outcome xs used n m s) used xs
    unfolding step_bytes
    bytes_are = rw table_is

    -- a step that is accepted leaves a table
    record Leaves (next : ℕ) : Type 0 where
      table : List Record
      made : outcome xs used n m s ≡ Ok table
      holds : check_of (step_bytes xs used s) next ≡ Ok (counts n (count 2 table) o)
      there : table_of (step_bytes xs used s) (next / 8) ≡ table

    leaves : (next : ℕ) → step_of xs used s ≡ Ok next → Leaves next
    leaves next e = go (outcome xs used n m s) refl
      where
        go : (reply : Result (List Record) Refusal) → outcome xs used n m s ≡ reply → Leaves next
        go (Ok t) is' =
            let same : 8 * length t ≡ next = let p : Ok (8 * length t) ≡ Ok next = sym (reply_is ∙ rw is') ∙ e in cc in
            let h : used ≤ length xs = (accepted_records xs used _ is).1 in
            let fits : 8 * length t ≤ length xs = step_fits was.formed _ _ t is' in
            record {
              table = t;
              made = is';
              holds = rw (bytes_are, is', ← same) (instead_check t used xs h fits ∙ accepts n (count 2 t) o t (step_accepted was _ _ t is'));
              there = rw (bytes_are, is', ← same) (last_table t used xs);
            }
        go (Err w) is' =
            let p : Err w ≡ Ok next = sym (reply_is ∙ rw is') ∙ e in
            let z : ◌≡◌ {A = ℕ} 0 1 = cc in
            absurd (omega arith)

    pub between_step : (next : ℕ) → step_of xs used s ≡ Ok next
        → Between (deepens_by s + voters_by s) (followed n (table_of xs (used / 8)) s) (followed_edge n (table_of xs (used / 8)) s) n m o xs used (step_bytes xs used s) next
    between_step next e =
        let w = leaves next e in
        record {
          gates = count 2 w.table;
          holds = w.holds;
          kept = rw w.there (step_kept was.formed _ _ w.table w.made);
          shows = λ first g p x before. rw w.there (step_shows was.formed _ _ w.table w.made first g p x before);
        }

    sweep_between : (next : ℕ) → s.rule ≡ 8 → step_of xs used s ≡ Ok next → KeepsDepth n m o (table_of xs (used / 8)) (step_bytes xs used s) next
    sweep_between next eight e =
        let w = leaves next e in
        record { gates = count 2 w.table; holds = w.holds; same = rw w.there (sweep_step_depth was.formed _ _ w.table w.made eight) }

    -- a step of any other rule leaves the records of the nodes below its gate as they were
    pub lower_between : (next : ℕ) → (s.rule ≡ 8 → ⊥) → step_of xs used s ≡ Ok next
        → (j : ℕ) → suc j < s.gate → record_at (table_of (step_bytes xs used s) (next / 8)) j ≡ record_at (table_of xs (used / 8)) j
    lower_between next other e j h = let w = leaves next e in rw w.there (step_lower was.formed _ _ w.table w.made other j h)

    -- the gates that a step inserts are gates of the block of its own
    pub inserted_between : (next : ℕ) (e : step_of xs used s ≡ Ok next) (k : ℕ) → s.gate ≤ k → k < s.gate + inserted_by n s
        → (n < k) × (k ≤ n + (between_step next e).gates) × (block_of (table_of (step_bytes xs used s) (next / 8)) k ≡ block_of (table_of xs (used / 8)) s.gate)
    unfolding between_step
    inserted_between next e k p q = let w = leaves next e in rw w.there ((step_blocks was.formed _ _ w.table w.made).new k p q)

pub sweep_keeps_depth : SweepKeepsDepth
unfolding SweepKeepsDepth
sweep_keeps_depth xs used s n m o next is eight e = sweep_between xs used n m o is s next eight e

-- The places of followed gates after a step, by its rule; each then holds 0 or an edge to a gate of the table that the step leaves.
use Rattle.std.proofs.Common.{◌≡◌, ℕ, suc, ◌+◌, ◌*◌, ◌/◌, ◌<◌, ◌≤◌, Bool, true, false, ltb, List, [], length, get_or, sym, refl, ap, ◌∙◌, arith}
use Rattle.std.specs.Prelude.{if◌then◌else◌, Result, Ok, Err}
use Rattle.majority.specs.Edge.{node_of}
use Rattle.majority.specs.Check.{count}
use Rattle.majority.specs.declared.Record.{Record}
use Rattle.majority.specs.declared.Counts.{Counts}
use Rattle.rules.specs.Rules.{plain}
use Rattle.rules.specs.Kept.{moves_by}
use Rattle.rules.specs.Step.{rule_of, is_sweep, is_inversion, inserted}
use Rattle.rules.specs.Followed.{followed_edge}
use Rattle.rules.specs.declared.Rule.{Rule}
use Rattle.rules.specs.declared.Step.{Step}
use Rattle.rules.proofs.AcceptedStep.{Taken, ruled, gate_field}
use Rattle.rules.proofs.MovedEdge.{moved_cases, followed_edit, followed_sweep}
use Rattle.rules.proofs.Pair.{edge_to_node}
use Rattle.rules.proofs.Steps.{step_nodes}
use Rattle.tables.specs.Sound.{Sound, table_in}
use Rattle.tables.proofs.Sound.{sound_accepted}
use Rattle.rewriting.specs.Calls.{step_of}
use Rattle.rewriting.specs.Script.{counts_at, counts_after}
use Rattle.rewriting.specs.Through.{through_steps}
use Rattle.rewriting.specs.Follow.{first_places, followed_place, followed_places}
use Rattle.tables.specs.Places.{in_places}
use Rattle.rewriting.specs.inner.Applied.{used_by, change_of, step_in}
use Rattle.rewriting.specs.inner.ClosedUp.{Numbered}
use Rattle.rewriting.specs.inner.Stepped.{Stepped}
use Rattle.rewriting.specs.inner.Places.{Placed, Places, past_step, edited_edge, number_left, left_by}
use Rattle.rewriting.proofs.Replies.{table_same, unknown_replies, unknown_leaves}
use Rattle.rewriting.proofs.ThroughSteps.{through_off}
use Rattle.tables.proofs.InPlaces.{places_none, places_length, place_changed, places_same}
use Rattle.rewriting.proofs.NumbersLeft.{left_edge}
use Rattle.refusals.specs.declared.Refusal.{Refusal}
use Rattle.refusals.specs.Reply.{◌>>=◌}

-- no gate is inserted, and none inverted
pub edited_none : (g e : ℕ) → edited_edge g 0 false e ≡ e
unfolding edited_edge
edited_none g e = go (ltb (node_of e) g)
  where
    go : (b : Bool) → (if b then e else e + 2 * 0) ≡ e
    go true = refl
    go false = omega arith

-- among more gates, and before any step
pub places_within : {n m k : ℕ} {ps : List ℕ} → n + m ≤ 1056 → Places n m k ps → Places 0 1056 k ps
places_within few is = record { room = is.room; each = λ j h. record { from = λ some. omega (arith, (is.each j h).from some); upto = omega (arith, (is.each j h).upto) } }

pub places_first : (n m : ℕ) (ps : List ℕ) → m ≤ length ps → Places n m m (first_places n m ps)
places_first n m ps room = record {
  room = rw (places_length (λ g e. plain g) (suc n) m ps) room;
  each = λ j h. rw (place_changed (λ g e. plain g) (suc n) m ps j h (omega arith)) (record { from = λ some. omega arith; upto = omega arith });
}

module _ (xs : List ℕ) (c : Counts) (s : Step) (k : ℕ) (ps : List ℕ) where
  open c use {inputs as n, gates as m, outputs as o}

  pub past_taken : (next : ℕ) → step_of xs (used_by c) s ≡ Ok next → past_step xs c s k ps ≡ followed_places n k (table_in xs c) s ps
  unfolding through_steps
  past_taken next e = let all : used_by c / 8 ≡ n + m + o = omega arith in rw (e, all)

  pub past_refused : (w : Refusal) → step_of xs (used_by c) s ≡ Err w → past_step xs c s k ps ≡ ps
  past_refused w e = through_off (followed_places n k) xs (used_by c) s [] w ps e

-- where no gate is followed
pub past_none : (xs : List ℕ) (c : Counts) (s : Step) (ps : List ℕ) → past_step xs c s 0 ps ≡ ps
past_none xs c s ps = go (step_of xs (used_by c) s) refl
  where
    go : (r : Result ℕ Refusal) → step_of xs (used_by c) s ≡ r → past_step xs c s 0 ps ≡ ps
    go (Ok next) e = past_taken xs c s 0 ps next e ∙ places_none _ (suc c.inputs) ps
    go (Err w) e = past_refused xs c s 0 ps w e

-- where the step has no rule
module _ {xs : List ℕ} {c : Counts} (sound : Sound xs c) (s : Step) (w : Refusal) (is : rule_of s.rule ≡ Err w) where
  no_change : change_of s ≡ Err w
  unfolding change_of
  no_change = rw is

  pub no_rule : (r : Result ℕ Refusal) → r ≡ Err w → Stepped xs c s r xs c
  no_rule r e = record { reply = e ∙ sym (unknown_replies sound s no_change); bytes = sym (unknown_leaves sound s no_change); counts = rw e }

  pub no_rule_past : (k : ℕ) (ps : List ℕ) → past_step xs c s k ps ≡ ps
  no_rule_past k ps = past_refused xs c s k ps w (unknown_replies sound s no_change)

module _ {xs : List ℕ} {c : Counts} (sound : Sound xs c) (s : Step) (next : ℕ) (e : step_of xs (used_by c) s ≡ Ok next) where
  open c use {inputs as n, gates as m, outputs as o}

  abbrev t : List Record
  t = table_in xs c

  -- what the step made
  record Makes : Type 0 where
    table : List Record
    is : step_in xs c s ≡ Ok table
    long : 8 * length table ≡ next

  makes : Makes
  unfolding step_of
  makes = go (step_in xs c s) refl (sym (rw (table_same sound s)) ∙ e)
    where
      go : (r : Result (List Record) Refusal) → step_in xs c s ≡ r → ◌>>=◌ r (λ t. Ok (8 * length t)) ≡ Ok next → Makes
      go (Ok t) is e = record { table = t; is = is; long = cc }
      go (Err w) is e = let z : ◌≡◌ {A = ℕ} 0 1 = cc in absurd (omega arith)

  -- each place then holds what it must
  moved_placed : (x : ℕ) → Placed n m x → Placed n (counts_at c next).gates (followed_edge n t s x)
  moved_placed x was =
      let formed = (sound_accepted sound).formed in
      let kept = step_nodes formed (length xs) s makes.table makes.is in
      let gates : count 2 makes.table ≡ (counts_at c next).gates = omega (arith, kept.formed.whole, makes.long) in
      moved_cases (moves_by n t s) (λ (y : ℕ). Placed n (counts_at c next).gates y) x
      (record { from = λ some. absurd (omega arith); upto = omega arith })
      (λ p some there.
      let at = edge_to_node p ((moves_by n t s).place (node_of x)) in
      record {
        from = λ more. omega (arith, at, kept.gates (node_of x) (was.from (omega arith)) there);
        upto = omega (arith, at, kept.nodes (node_of x) was.upto);
      })

  pub places_next : {k : ℕ} {ps : List ℕ} → Places n m k ps → Places n (counts_at c next).gates k (followed_places n k t s ps)
  places_next {k} {ps} was = record {
    room = rw (places_length (followed_place n t s) (suc n) k ps) was.room;
    each = λ j h. rw (place_changed (followed_place n t s) (suc n) k ps j h (omega (arith, was.room))) (moved_placed (get_or ps j 0) (was.each j h));
  }

  -- of a known rule
  module _ (rule : Rule) (known : rule_of s.rule ≡ Ok rule) where
    taken : Taken (length xs) n m t rule s.gate s.a s.b makes.table
    taken =
        let by = ruled (length xs) n m t s makes.table makes.is in
        let same : Ok by.rule ≡ Ok rule = sym by.known ∙ known in
        let one : by.rule ≡ rule = cc in
        rw one at by.taken

    pub few_inserted : inserted n rule s.gate ≤ 1024
    few_inserted = omega (arith, taken.few)

    pub edited_places : is_sweep rule ≡ false → (k : ℕ) (ps : List ℕ) → in_places (λ g x. edited_edge s.gate (inserted n rule s.gate) (is_inversion rule) x) 0 k ps ≡ followed_places n k t s ps
    unfolding edited_edge
    edited_places other k ps =
        let some : 0 < s.gate = omega (arith, (gate_field n m s.gate s.a s.b rule other taken.fields).0) in
        places_same _ _ 0 (suc n) k ps (λ j h l. sym (followed_edit n t s rule known (get_or ps j 0) other some))

  -- and of sweep
  pub swept_places : (rule : Rule) → rule_of s.rule ≡ Ok rule → is_sweep rule ≡ true → {ns : List ℕ} → Numbered (number_left t) (n + m) ns → (k : ℕ) (ps : List ℕ) → Places n m k ps
      → in_places (λ g x. left_by ns x) 0 k ps ≡ followed_places n k t s ps
  swept_places rule known is numbers k ps was =
      places_same _ _ 0 (suc n) k ps
      (λ j h l. left_edge (sound_accepted sound).formed numbers (get_or ps j 0) (was.each j h) ∙ sym (followed_sweep n t s rule known (get_or ps j 0) is))

-- after a step, taken or refused, the places hold what they must
pub places_stepped : {xs ys : List ℕ} {c d : Counts} {s : Step} {r : Result ℕ Refusal} {k : ℕ} {ps qs : List ℕ} → Sound xs c → Stepped xs c s r ys d → Places c.inputs c.gates k ps
    → qs ≡ past_step xs c s k ps → Places d.inputs d.gates k qs
places_stepped {xs} {ys} {c} {d} {s} {r} {k} {ps} {qs} sound done was past = go r refl
  where
    go : (u : Result ℕ Refusal) → r ≡ u → Places d.inputs d.gates k qs
    go (Ok next) is =
        let e : step_of xs (used_by c) s ≡ Ok next = sym done.reply ∙ is in
        let counts : d ≡ counts_at c next = done.counts ∙ ap (counts_after c) is in
        rw (past ∙ past_taken xs c s k ps next e, counts) (places_next sound s next e was)
    go (Err w) is =
        let e : step_of xs (used_by c) s ≡ Err w = sym done.reply ∙ is in
        let counts : d ≡ c = done.counts ∙ ap (counts_after c) is in
        rw (past ∙ past_refused xs c s k ps w e, counts) was

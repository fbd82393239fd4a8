-- What becomes of the edge that is kept for a gate, by how the nodes move: it rises, is inverted, or closes up.
use Prim.Native.Nat.{ℕ, ◌+◌, ◌-◌, ◌*◌, ◌/◌, ◌%◌, ◌≤◌, ◌<◌}
use mathlib.Core.Path.{◌≡◌, refl, sym, ap, ◌∙◌}
use mathlib.Core.Bool.{Bool, true, false, not, true≢false, ◌&&◌}
use mathlib.Core.List.{List}
use native.Mathlib.Omega.{arith}
use native.Mathlib.Decide.{dec_lt, ℕ_discrete}
use borrow.Author.Tests.{eq-eqb, ne_eqb, lt-ltb, le-ltb}
use lib.Dec.{ltb, eqb}
use Rattle.std.specs.Prelude.{if◌then◌else◌, Result, Ok}
use Rattle.majority.specs.Edge.{node_of, is_inverted, flip, raised}
use Rattle.majority.specs.declared.Record.{Record}
use Rattle.majority.proofs.Logic.{both}
use Rattle.rules.specs.Voter.{edge_to}
use Rattle.rules.specs.Sweep.{stays, kept, renumber}
use Rattle.rules.specs.Step.{rule_of, is_sweep, is_inversion, inserted}
use Rattle.rules.specs.Kept.{Moves, in_place, raising, inverting, closing_up, moves_of, moves_as, turned}
use Rattle.rules.specs.Followed.{moved_edge, followed_edge}
use Rattle.rules.specs.declared.Step.{Step}
use Rattle.rules.specs.declared.Rule.{Rule}
use Rattle.rules.specs.declared.Rule.TheVariants.{Exchange, Majority, Associativity, Outward, Inward, Inversion, Share, Sweep, Voter, Opposite}
use Rattle.rules.proofs.Numbered.{sweep_known}
use Rattle.rules.proofs.Raise.{raised_below, raised_from, raised_none}
use Rattle.refusals.specs.declared.Refusal.{Refusal}

-- the edge to node k in the polarity of e, and in the other
edge_same : (e k : ℕ) → edge_to (is_inverted e) k ≡ 2 * k + e % 2
unfolding flip
edge_same e k = go (dec_lt (e % 2) 1)
  where
    go : Dec (e % 2 < 1) → edge_to (is_inverted e) k ≡ 2 * k + e % 2
    go (yes h) = rw (ne_eqb (e % 2) 1 (λ q. omega arith)) (omega arith)
    go (no h) = rw (eq-eqb (e % 2) 1 (omega arith)) (omega arith)

edge_other : (e k : ℕ) → edge_to (not (is_inverted e)) k ≡ 2 * k + (1 - e % 2)
unfolding flip
edge_other e k = go (dec_lt (e % 2) 1)
  where
    go : Dec (e % 2 < 1) → edge_to (not (is_inverted e)) k ≡ 2 * k + (1 - e % 2)
    go (yes h) = rw (ne_eqb (e % 2) 1 (λ q. omega arith)) (omega arith)
    go (no h) = rw (eq-eqb (e % 2) 1 (omega arith)) (omega arith)

module _ (moves : Moves) where
  pub moved_none : moved_edge moves 0 ≡ 0
  unfolding moved_edge
  moved_none = refl

  moved_some : (e : ℕ) → (e ≡ 0 → ⊥) → moved_edge moves e ≡ (if moves.stays (node_of e) then edge_to (turned (moves.inverted (node_of e)) (is_inverted e)) (moves.place (node_of e)) else 0)
  unfolding moved_edge
  moved_some e some = rw (ne_eqb e 0 some)

  -- it is 0, or to the place of a node that stays
  pub moved_cases : (P : ℕ → Type 0) (e : ℕ) → P 0 → ((p : Bool) → (e ≡ 0 → ⊥) → moves.stays (node_of e) ≡ true → P (edge_to p (moves.place (node_of e)))) → P (moved_edge moves e)
  moved_cases P e none there = go (ℕ_discrete e 0)
    where
      by : (e ≡ 0 → ⊥) → (t : Bool) → moves.stays (node_of e) ≡ t → P (if t then edge_to (turned (moves.inverted (node_of e)) (is_inverted e)) (moves.place (node_of e)) else 0)
      by some true is = there (turned (moves.inverted (node_of e)) (is_inverted e)) some is
      by some false is = none

      go : Dec (e ≡ 0) → P (moved_edge moves e)
      go (yes h) = rw (h, moved_none) none
      go (no h) = rw (moved_some e h) (by h (moves.stays (node_of e)) refl)

-- c gates are put before node g, or where t is true node g is inverted
record Edits (moves : Moves) (g c : ℕ) (t : Bool) : Type 0 where
  stay : (k : ℕ) → moves.stays k ≡ true
  places : (k : ℕ) → moves.place k ≡ raised g c k
  inverts : (k : ℕ) → moves.inverted k ≡ (t && eqb k g)
  one : t ≡ true → c ≡ 0

edits_none : (g : ℕ) → Edits in_place g 0 false
edits_none g = record { stay = λ k. refl; places = λ k. sym (raised_none g k); inverts = λ k. refl; one = λ h. refl }

edits_raise : (g c : ℕ) → Edits (raising g c) g c false
edits_raise g c = record { stay = λ k. refl; places = λ k. refl; inverts = λ k. refl; one = λ h. absurd (true≢false (sym h)) }

edits_invert : (g : ℕ) → Edits (inverting g) g 0 true
edits_invert g = record { stay = λ k. refl; places = λ k. sym (raised_none g k); inverts = λ k. refl; one = λ h. refl }

-- every rule but sweep does so
edits : (n : ℕ) (rs : List Record) (g : ℕ) (rule : Rule) → is_sweep rule ≡ false → Edits (moves_of n rs rule g) g (inserted n rule g) (is_inversion rule)
edits n rs g Exchange other = edits_none g
edits n rs g Majority other = edits_none g
edits n rs g Associativity other = edits_raise g _
edits n rs g Outward other = edits_raise g _
edits n rs g Inward other = edits_raise g _
edits n rs g Inversion other = edits_invert g
edits n rs g Share other = edits_none g
edits n rs g Sweep other = absurd (true≢false other)
edits n rs g Voter other = edits_raise g _
edits n rs g Opposite other = edits_none g

-- so an edge below g stays, the edge to an inverted gate is inverted, and every other one rises
edited_edge_lem : {moves : Moves} {g c : ℕ} {t : Bool} → Edits moves g c t → 0 < g → (e : ℕ) → moved_edge moves e ≡ (if ltb (node_of e) g then e else if t && eqb (node_of e) g then flip e else e + 2 * c)
unfolding flip
edited_edge_lem {moves} {g} {c} {t} by some e = go (ℕ_discrete e 0) (dec_lt (node_of e) g)
  where
    low : node_of e < g → (t && eqb (node_of e) g) ≡ false
    low h = rw (ne_eqb (node_of e) g (λ q. omega arith)) (either t)
      where
        either : (b : Bool) → (b && false) ≡ false
        either true = refl
        either false = refl

    above : g ≤ node_of e → (b : Bool) → (t && eqb (node_of e) g) ≡ b → edge_to (turned b (is_inverted e)) (node_of e + c) ≡ (if b then 2 * (e / 2) + (1 - e % 2) else e + 2 * c)
    above h true is =
        let none = by.one (both t (eqb (node_of e) g) is).0 in
        edge_other e (node_of e + c) ∙ omega arith
    above h false is = edge_same e (node_of e + c) ∙ omega arith

    go : Dec (e ≡ 0) → Dec (node_of e < g) → moved_edge moves e ≡ (if ltb (node_of e) g then e else if t && eqb (node_of e) g then 2 * (e / 2) + (1 - e % 2) else e + 2 * c)
    go (yes h) _ = rw (h, lt-ltb 0 g some) (moved_none moves)
    go (no h) (yes l) = moved_some moves e h ∙ rw (by.stay (node_of e), by.inverts (node_of e), by.places (node_of e), low l, raised_below g c (node_of e) l, lt-ltb (node_of e) g l) (edge_same e (node_of e) ∙ omega arith)
    go (no h) (no l) = let m : g ≤ node_of e = omega arith in
        moved_some moves e h ∙ rw (by.stay (node_of e), by.inverts (node_of e), by.places (node_of e), raised_from g c (node_of e) m, le-ltb (node_of e) g m) (above m (t && eqb (node_of e) g) refl)

-- closing up renumbers an edge, or leaves 0 where its node is dropped
closed_edge : (keep : ℕ → Bool) (e : ℕ) → moved_edge (closing_up keep) e ≡ (if keep (node_of e) then renumber keep e else 0)
unfolding renumber
closed_edge keep e = go (ℕ_discrete e 0)
  where
    zero_either : (b : Bool) → ◌≡◌ {A = ℕ} 0 (if b then 0 else 0)
    zero_either true = refl
    zero_either false = refl

    go : Dec (e ≡ 0) → moved_edge (closing_up keep) e ≡ (if keep (node_of e) then 2 * kept keep 0 (node_of e) + e % 2 else 0)
    go (yes h) = rw h (moved_none (closing_up keep) ∙ zero_either (keep 0))
    go (no h) = moved_some (closing_up keep) e h ∙ rw (edge_same e (kept keep 0 (node_of e)))

-- the edge of a followed gate after a step, by its rule
module _ (n : ℕ) (rs : List Record) (s : Step) (rule : Rule) (known : rule_of s.rule ≡ Ok rule) (e : ℕ) where
  pub followed_edit : is_sweep rule ≡ false → 0 < s.gate
      → followed_edge n rs s e ≡ (if ltb (node_of e) s.gate then e else if is_inversion rule && eqb (node_of e) s.gate then flip e else e + 2 * inserted n rule s.gate)
  followed_edit other some = ap (λ (r : Result Rule Refusal). moved_edge (moves_as r n rs s.gate) e) known ∙ edited_edge_lem (edits n rs s.gate rule other) some e

  pub followed_sweep : is_sweep rule ≡ true → followed_edge n rs s e ≡ (if stays rs (node_of e) then renumber (stays rs) e else 0)
  followed_sweep is = ap (λ (r : Result Rule Refusal). moved_edge (moves_as r n rs s.gate) e) (sweep_known s.rule rule known is) ∙ closed_edge (stays rs) e

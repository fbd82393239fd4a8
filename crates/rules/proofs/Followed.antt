-- What a probe shows after an accepted step: a gate that stays is a gate of its first block, with its first value or, where an odd number of inversion steps named
-- it, the inverse.
use Prim.Native.Nat.{ℕ, ◌+◌, ◌%◌, ◌≤◌, ◌<◌}
use mathlib.Core.Path.{◌≡◌, refl, sym, ap, ◌∙◌}
use mathlib.Core.Bool.{Bool, true, false, not, ◌&&◌}
use mathlib.Core.List.{List}
use native.Mathlib.Omega.{arith}
use native.Mathlib.Nat.{add-zero}
use native.Mathlib.Decide.{dec_lt}
use borrow.Author.Tests.{eq-eqb, ne_eqb}
use lib.Dec.{eqb}
use Rattle.std.specs.Prelude.{if◌then◌else◌, Result, Ok}
use Rattle.majority.specs.Table.{WellFormed}
use Rattle.majority.specs.Value.{value}
use Rattle.majority.specs.Check.{count}
use Rattle.majority.specs.declared.Record.{Record}
use Rattle.majority.proofs.Meanings.{not_twice}
use Rattle.rules.specs.Rules.{plain}
use Rattle.rules.specs.Voter.{edge_to, block_of}
use Rattle.rules.specs.Kept.{Moves, moves_as, moves_by, turned, NodesKept}
use Rattle.rules.specs.Step.{step, deepens_by, voters_by}
use Rattle.rules.specs.Followed.{Probe, stands, swept, inverts, followed, odd, moved_edge, followed_edge, Present, Shows}
use Rattle.rules.specs.declared.Step.{Step}
use Rattle.rules.specs.declared.Rule.{Rule}
use Rattle.rules.proofs.Kept.{turned_twice}
use Rattle.rules.proofs.Pair.{edge_to_node, edge_to_polarity, edge_to_value}
use Rattle.rules.proofs.Numbered.{rule_number, number_of_inversion}
use Rattle.rules.proofs.AcceptedStep.{ruled}
use Rattle.rules.proofs.Steps.{step_nodes, step_blocks}
use Rattle.refusals.specs.declared.Refusal.{Refusal}

turned_back : (t v : Bool) → turned t (turned t v) ≡ v
turned_back true v = not_twice v
turned_back false v = refl

module _ {n m : ℕ} {first rs : List Record} {g : ℕ} where
  -- the edge follows from the rest
  made_present : {k named : ℕ} → n < k → k ≤ n + m → ((a : ℕ) → value a rs k ≡ turned (odd named) (value a first g)) → block_of rs k ≡ block_of first g
      → Present n m first rs g k named
  made_present {k} {named} from upto same block = record {
    from = from;
    upto = upto;
    same = same;
    edge = λ a. edge_to_value a (value a rs) (odd named) k ∙ ap (turned (odd named)) (same a) ∙ turned_back (odd named) _;
    block = block;
  }

  -- a gate that is present, and one that was swept away
  shows_present : {k named : ℕ} → Present n m first rs g k named → Shows n m first rs g (stands k named) (edge_to (odd named) k)
  shows_present {k} {named} is = record { present = λ i j same. let at : k ≡ i = cc in let times : named ≡ j = cc in rw (← at, ← times) is; edge = refl }

  shows_swept : Shows n m first rs g swept 0
  shows_swept = record { present = λ k named is. let z : ◌≡◌ {A = ℕ} 0 1 = cc in absurd (omega arith); edge = refl }

-- before any step
pub shows_first : {n m g : ℕ} (first : List Record) → n < g → g ≤ n + m → Shows n m first first g (stands g 0) (plain g)
shows_first first from upto = shows_present (made_present from upto (λ a. refl) refl)

-- one more makes an even number odd, and an odd one even
odd_more : (t : ℕ) (b : Bool) → odd (t + (if b then 1 else 0)) ≡ turned b (odd t)
odd_more t false = rw (add-zero t)
odd_more t true = go (dec_lt (t % 2) 1)
  where
    go : Dec (t % 2 < 1) → odd (t + 1) ≡ not (odd t)
    go (yes h) = rw (eq-eqb ((t + 1) % 2) 1 (omega arith), ne_eqb (t % 2) 1 (λ q. omega arith))
    go (no h) = rw (ne_eqb ((t + 1) % 2) 1 (λ q. omega arith), eq-eqb (t % 2) 1 (omega arith))

module _ {n m o : ℕ} {rs : List Record} (formed : WellFormed n m o rs) (bytes : ℕ) (s : Step) (rs' : List Record) (e : step bytes n m rs s ≡ Ok rs') where
  abbrev moves : Moves
  moves = moves_by n rs s

  kept : NodesKept (deepens_by s + voters_by s) n m (count 2 rs') o moves rs rs'
  kept = step_nodes formed bytes s rs' e

  -- a step inverts the node that it names as an inversion step
  parity : (k named : ℕ) → odd (named + inverts s k) ≡ turned (moves.inverted k) (odd named)
  parity k named =
      let by = ruled bytes n m rs s rs' e in
      odd_more named (eqb s.rule 6 && eqb k s.gate)
      ∙ ap (λ (i : ℕ). turned (eqb i 6 && eqb k s.gate) (odd named)) (rule_number s.rule by.rule by.known)
      ∙ ap (λ (b : Bool). turned b (odd named)) (number_of_inversion n rs by.rule s.gate k)
      ∙ ap (λ (r : Result Rule Refusal). turned ((moves_as r n rs s.gate).inverted k) (odd named)) (sym by.known)

  module _ (first : List Record) (g : ℕ) where
    still_present : (k named : ℕ) → Present n m first rs g k named → moves.stays k ≡ true → Present n (count 2 rs') first rs' g (moves.place k) (named + inverts s k)
    still_present k named was there =
        made_present (kept.gates k was.from there) (kept.nodes k was.upto)
        (λ a.
        kept.values a k (omega (arith, was.upto)) there
        ∙ ap (turned (moves.inverted k)) (was.same a)
        ∙ turned_twice (odd named) (moves.inverted k) (value a first g)
        ∙ ap (λ (t : Bool). turned t (value a first g)) (sym (parity k named)))
        ((step_blocks formed bytes s rs' e).stayed k (omega (arith, was.from)) (omega (arith, was.upto)) there ∙ was.block)

    pub step_shows : (p : Probe) (x : ℕ) → Shows n m first rs g p x → Shows n (count 2 rs') first rs' g (followed n rs s p) (followed_edge n rs s x)
    unfolding moved_edge
    step_shows swept x was = rw was.edge shows_swept
    step_shows (stands k named) x was =
        let here : Present n m first rs g k named = was.present k named refl in
        let some : eqb (edge_to (odd named) k) 0 ≡ false = ne_eqb (edge_to (odd named) k) 0 (λ q. omega (arith, edge_to_node (odd named) k, here.from)) in
        rw (was.edge, some, edge_to_node (odd named) k, edge_to_polarity (odd named) k) (go (moves.stays k) refl here)
      where
        go : (t : Bool) → moves.stays k ≡ t → Present n m first rs g k named
            → Shows n (count 2 rs') first rs' g (if t then stands (moves.place k) (named + inverts s k) else swept) (if t then edge_to (turned (moves.inverted k) (odd named)) (moves.place k) else 0)
        go true there here = rw (← (parity k named)) (shows_present (still_present k named here there))
        go false gone here = shows_swept

-- Every rule keeps the block of each record that stays, and gives its gate's to those that it inserts.
use Prim.Native.Nat.{ℕ, zero, suc, ◌+◌, ◌-◌, ◌*◌, ◌≤◌, ◌<◌}
use mathlib.Core.Path.{◌≡◌, refl, sym, ap, ◌∙◌, subst}
use mathlib.Core.Bool.{Bool, true, false}
use mathlib.Core.List.{List, [], ◌∷◌}
use native.Mathlib.Omega.{arith}
use lib.Dec.{eqb}
use lib.ListN.{length, get_or, get_or-map}
use lib.Seq.{map-set_same}
use Rattle.std.specs.Prelude.{if◌then◌else◌}
use Rattle.majority.specs.Edge.{redirect}
use Rattle.majority.specs.Table.{blank, gate, record_at, WellFormed}
use Rattle.majority.specs.Edit.{node_record, redirect_all, insert, become}
use Rattle.majority.specs.declared.Record.{Record}
use Rattle.rules.specs.Rules.{exchanged, exchange, majority_rule, associativity, outward, inward, inversion, share, opposite}
use Rattle.rules.specs.Sweep.{stays, kept, sweep}
use Rattle.rules.specs.Voter.{block_of, voter_form, copies, votes, voter}
use Rattle.rules.specs.Kept.{Moves, in_place, raising, inverting, closing_up, moves_of, BlocksKept}
use Rattle.rules.specs.Step.{fields_fit, has_form, inserted, rewritten}
use Rattle.rules.specs.declared.Rule.{Rule}
use Rattle.rules.specs.declared.Rule.TheVariants.{Exchange, Majority, Associativity, Outward, Inward, Inversion, Share, Sweep, Voter, Opposite}
use Rattle.rules.proofs.Placed.{edges_at}
use Rattle.rules.proofs.Edges.{redirect_zero}
use Rattle.rules.proofs.GateNodes.{GateOf}
use Rattle.rules.proofs.Raise.{raised_from, raised_next}
use Rattle.rules.proofs.Insert.{insert_old, insert_new}
use Rattle.rules.proofs.InsertAndBecome.{one_new, two_new}
use Rattle.rules.proofs.KeptNodes.{kept_in}
use Rattle.rules.proofs.CloseUp.{closed_at}
use Rattle.rules.proofs.Sweep.{keepable}
use Rattle.rules.proofs.Copies.{there}
use Rattle.rules.proofs.AcceptedStep.{gates_after, gate_of_lem, voter_field}
use Rattle.rules.proofs.Voter.{first_in, second_in, third_in, thrice, by_copy}

abbrev block : Record → ℕ
block r = r.block

node_block : (rs : List Record) (j : ℕ) → block_of rs (suc j) ≡ (record_at rs j).block
node_block rs j = let e : suc j - 1 ≡ j = omega arith in ap (λ (i : ℕ). (record_at rs i).block) e

exchanged_block : (a : ℕ) (r : Record) → (exchanged a r).block ≡ r.block
exchanged_block a r = go (eqb a 1)
  where
    go : (t : Bool) → (if t then gate r.block r.e2 r.e1 r.e3 else gate r.block r.e3 r.e2 r.e1).block ≡ r.block
    go true = refl
    go false = refl

-- a record that becomes another of its block
become_block : (g : ℕ) (s : Record) (rs : List Record) → s.block ≡ block_of rs g → (j : ℕ) → (record_at (become g s rs) j).block ≡ (record_at rs j).block
unfolding become
become_block g s rs same j =
    sym (get_or-map block (become g s rs) j blank) ∙ ap (λ (l : List ℕ). get_or l j 0) (map-set_same block rs (g - 1) s blank same) ∙ get_or-map block rs j blank

redirect_block : (g e : ℕ) (rs : List Record) → 0 < g → (j : ℕ) → (record_at (redirect_all g e rs) j).block ≡ (record_at rs j).block
unfolding redirect_all
redirect_block g e rs some j = ap block (edges_at (redirect g e) (redirect_zero g e some) rs j)

-- where no record moves, and none is new
in_place_lem : {n m m' o g : ℕ} {rs rs' : List Record} (moves : Moves) → ((k : ℕ) → moves.place k ≡ k) → ((j : ℕ) → (record_at rs' j).block ≡ (record_at rs j).block)
    → BlocksKept n m m' o g 0 moves rs rs'
in_place_lem {rs' = rs'} moves stands same = record { stayed = λ k p q s. ap (block_of rs') (stands k) ∙ same (k - 1); new = λ k p q. absurd (omega arith) }

module _ {n m o g : ℕ} {rs : List Record} (is : GateOf n m o g rs) where
  some : 0 < g
  some = omega (arith, is.from)

  fits : g - 1 ≤ length rs
  fits = omega (arith, is.formed.whole, is.upto)

  -- of g's block
  abbrev OfBlock : Record → Type 0
  OfBlock r = r.block ≡ block_of rs g

  -- gates of g's block are inserted before it, and it becomes another of its block
  module _ (news : List Record) (s : Record) (own : OfBlock s) (each : (t : ℕ) → t < length news → OfBlock (record_at news t)) where
    abbrev c : ℕ
    c = length news

    moved : (j : ℕ) → block_of (insert g news rs) ((raising g c).place (suc j)) ≡ (record_at rs j).block
    moved j = rw (raised_next g c j some) (node_block (insert g news rs) _ ∙ ap block (insert_old g news rs some fits j))

    stays_own : s.block ≡ block_of (insert g news rs) (g + c)
    stays_own =
        let e : suc (g - 1) ≡ g = omega (arith, some) in
        own ∙ sym (moved (g - 1)) ∙ ap (block_of (insert g news rs)) (ap (raising g c).place e ∙ raised_from g c g (omega arith))

    became : (j : ℕ) → (record_at (become (g + c) s (insert g news rs)) j).block ≡ (record_at (insert g news rs) j).block
    became = become_block (g + c) s (insert g news rs) stays_own

    grown_blocks : BlocksKept n m (m + c) o g c (raising g c) rs (become (g + c) s (insert g news rs))
    grown_blocks = record {
      stayed = λ k p q s.
          let e : suc (k - 1) ≡ k = omega arith in
          became ((raising g c).place k - 1) ∙ ap (λ (i : ℕ). block_of (insert g news rs) ((raising g c).place i)) (sym e) ∙ moved (k - 1);
      new = λ k p q.
          let e : k - 1 ≡ g - 1 + (k - g) = omega (arith, some) in (
            omega (arith, is.from),
            omega (arith, is.upto),
            became (k - 1) ∙ ap (λ (i : ℕ). (record_at (insert g news rs) i).block) e ∙ ap block (insert_new g news rs some fits (k - g) (omega arith)) ∙ each (k - g) (omega arith),
          );
    }

  -- a gate of its block
  abbrev own_gate : ℕ → ℕ → ℕ → Record
  own_gate x y z = gate (block_of rs g) x y z

  -- one such gate is inserted, and two
  one_block : (x y z u v w : ℕ) → BlocksKept n m (m + 1) o g 1 (raising g 1) rs (become (g + 1) (own_gate u v w) (insert g (own_gate x y z ∷ []) rs))
  one_block x y z u v w = grown_blocks (own_gate x y z ∷ []) (own_gate u v w) refl (one_new OfBlock (own_gate x y z) refl)

  two_block : (x y z x' y' z' u v w : ℕ) → BlocksKept n m (m + 2) o g 2 (raising g 2) rs (become (g + 2) (own_gate u v w) (insert g (own_gate x y z ∷ own_gate x' y' z' ∷ []) rs))
  two_block x y z x' y' z' u v w = grown_blocks (own_gate x y z ∷ own_gate x' y' z' ∷ []) (own_gate u v w) refl (two_new OfBlock (own_gate x y z) (own_gate x' y' z') refl refl)

  -- the copies of a voter
  voter_blocks : (a b : ℕ) → a < b → voter_form n g a b rs ≡ true → BlocksKept n m (m + 3 * (g - n)) o g (3 * (g - n)) (raising g (3 * (g - n))) rs (voter n g a b rs)
  unfolding voter
  voter_blocks a b order form =
      let news = copies n g a b rs in
      subst (λ (c : ℕ). BlocksKept n m (m + c) o g c (raising g c) rs (become (g + c) (votes n g a b rs) (insert g news rs))) (thrice is a b order form)
      (grown_blocks news (votes n g a b rs) refl
      (by_copy is a b order form (λ t. (record_at news t).block ≡ block_of rs g)
      (λ i h. ap block (there is (first_in is a b order form) i h))
      (λ i h. ap block (there is (second_in is a b order form) i h))
      (λ i h. ap block (there is (third_in is a b order form) i h))))

-- a sweep
sweep_blocks : {n m m' o : ℕ} {rs : List Record} → WellFormed n m o rs → (g : ℕ) → BlocksKept n m m' o g 0 (closing_up (stays rs)) rs (sweep rs)
unfolding sweep
sweep_blocks {n} {m} {o = o} {rs} formed g = record { stayed = go; new = λ k p q. absurd (omega arith) }
  where
    go : (k : ℕ) → 0 < k → k ≤ n + m + o → stays rs k ≡ true → block_of (sweep rs) (kept (stays rs) 0 k) ≡ block_of rs k
    go zero p q s = absurd (omega arith)
    go (suc j) p q s =
        rw (kept_in (stays rs) j s) (node_block (sweep rs) _ ∙ ap block (closed_at (keepable formed) j (omega arith) s) ∙ sym (node_block rs j))

-- a step of each rule on node g
module _ {n m o : ℕ} {rs : List Record} (formed : WellFormed n m o rs) (g a b : ℕ) where
  abbrev After : Rule → Type 0
  After rule = fields_fit n m rule g a b ≡ true → has_form n rs rule g a b ≡ true → BlocksKept n m (gates_after n m rs rule g) o g (inserted n rule g) (moves_of n rs rule g) rs (rewritten n rs rule g a b)

  -- of those that redirect g
  redirected : {m' : ℕ} (e : ℕ) → n < g → BlocksKept n m m' o g 0 in_place rs (redirect_all g e rs)
  redirected e from = in_place_lem in_place (λ k. refl) (redirect_block g e rs (omega arith))

  pub rule_blocks : (rule : Rule) → After rule
  unfolding rewritten has_form exchange majority_rule associativity outward inward inversion share opposite
  rule_blocks Exchange fields form = in_place_lem in_place (λ k. refl) (become_block g _ rs (exchanged_block a (node_record rs g)))
  rule_blocks Majority fields form = redirected _ (gate_of_lem formed g a b Majority refl fields).from
  rule_blocks Associativity fields form = one_block (gate_of_lem formed g a b Associativity refl fields) _ _ _ _ _ _
  rule_blocks Outward fields form = two_block (gate_of_lem formed g a b Outward refl fields) _ _ _ _ _ _ _ _ _
  rule_blocks Inward fields form = one_block (gate_of_lem formed g a b Inward refl fields) _ _ _ _ _ _
  rule_blocks Inversion fields form =
      let some : 0 < g = omega (arith, (gate_of_lem formed g a b Inversion refl fields).from) in
      in_place_lem (inverting g) (λ k. refl) (λ j. become_block g _ _ (sym (redirect_block g _ rs some (g - 1))) j ∙ redirect_block g _ rs some j)
  rule_blocks Share fields form = redirected _ (gate_of_lem formed g a b Share refl fields).from
  rule_blocks Sweep fields form = sweep_blocks formed g
  rule_blocks Voter fields form = voter_blocks (gate_of_lem formed g a b Voter refl fields) a b (voter_field n m g a b fields).1 form
  rule_blocks Opposite fields form = redirected _ (gate_of_lem formed g a b Opposite refl fields).from

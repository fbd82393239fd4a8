-- What an accepted step keeps, whatever its rule, of blocks too, that its table stays within the gates' limit and the buffer, and that it leaves what stood
-- below its gate.
use Prim.Native.Nat.{ℕ, suc, ◌+◌, ◌*◌, ◌≤◌, ◌<◌}
use mathlib.Core.Path.{◌≡◌, refl, sym, ap, ◌∙◌}
use mathlib.Core.Bool.{Bool, true, false}
use mathlib.Core.List.{List}
use native.Mathlib.Omega.{arith}
use native.Mathlib.Nat.{add-zero}
use borrow.Author.Tests.{ne_eqb}
use lib.Dec.{eqb}
use lib.ListN.{length}
use Rattle.std.specs.Prelude.{if◌then◌else◌, Ok}
use Rattle.majority.specs.Table.{record_at, WellFormed}
use Rattle.majority.specs.Level.{depth}
use Rattle.majority.specs.Check.{count}
use Rattle.majority.specs.declared.Record.{Record}
use Rattle.majority.proofs.Order.{order_counts}
use Rattle.majority.proofs.Accepted.{Accepted, order_of}
use Rattle.rules.specs.Kept.{moves_of, moves_by, NodesKept, Kept, BlocksKept}
use Rattle.rules.specs.Step.{rule_of, is_sweep, fields_fit, has_form, inserted, rewritten, step, deepens, deepens_by, voters, voters_by, inserted_by}
use Rattle.rules.specs.declared.Step.{Step}
use Rattle.rules.specs.declared.Rule.{Rule}
use Rattle.rules.specs.declared.Rule.TheVariants.{Exchange, Majority, Associativity, Outward, Inward, Inversion, Share, Sweep, Voter, Opposite}
use Rattle.rules.proofs.KeptByNodes.{kept_by_nodes}
use Rattle.rules.proofs.Exchange.{exchange_kept}
use Rattle.rules.proofs.MajorityShare.{majority_kept, opposite_kept, share_kept}
use Rattle.rules.proofs.Associativity.{associativity_kept}
use Rattle.rules.proofs.Outward.{outward_kept}
use Rattle.rules.proofs.Inward.{inward_kept}
use Rattle.rules.proofs.Inversion.{inversion_kept}
use Rattle.rules.proofs.Sweep.{left, left_fewer, sweep_kept, sweep_depth}
use Rattle.rules.proofs.Voter.{voter_kept}
use Rattle.rules.proofs.LowerStay.{lower_stays}
use Rattle.rules.proofs.Blocks.{rule_blocks}
use Rattle.rules.proofs.Numbered.{rule_number, number_of_sweep}
use Rattle.rules.proofs.AcceptedStep.{gates_after, Taken, Ruled, ruled, gate_of_lem, share_field, voter_field}

-- by how much it may raise depth
abbrev pub rises : Rule → ℕ
rises rule = deepens rule + voters rule

module _ {n m o : ℕ} {rs : List Record} (formed : WellFormed n m o rs) (g a b : ℕ) where
  -- the rules, one after another
  by_rule : (rule : Rule) → fields_fit n m rule g a b ≡ true → has_form n rs rule g a b ≡ true
      → NodesKept (rises rule) n m (gates_after n m rs rule g) o (moves_of n rs rule g) rs (rewritten n rs rule g a b)
  unfolding has_form rewritten
  by_rule Exchange fields form = rw (add-zero m) (exchange_kept (gate_of_lem formed g a b Exchange refl fields) a)
  by_rule Majority fields form = rw (add-zero m) (majority_kept (gate_of_lem formed g a b Majority refl fields) form)
  by_rule Associativity fields form = associativity_kept (gate_of_lem formed g a b Associativity refl fields) form
  by_rule Outward fields form = outward_kept (gate_of_lem formed g a b Outward refl fields) form
  by_rule Inward fields form = inward_kept (gate_of_lem formed g a b Inward refl fields) form
  by_rule Inversion fields form = rw (add-zero m) (inversion_kept (gate_of_lem formed g a b Inversion refl fields))
  by_rule Share fields form =
      let w = share_field n m g a b fields in
      rw (add-zero m) (share_kept (gate_of_lem formed g a b Share refl fields) a w.0 w.1 form)
  by_rule Sweep fields form = sweep_kept formed
  by_rule Voter fields form = let w = voter_field n m g a b fields in voter_kept (gate_of_lem formed g a b Voter refl fields) a b w.1 form
  by_rule Opposite fields form = rw (add-zero m) (opposite_kept (gate_of_lem formed g a b Opposite refl fields) form)

few_gates : {n m o : ℕ} {rs : List Record} → WellFormed n m o rs → (rule : Rule) (g : ℕ) → gates_after n m rs rule g ≤ m + inserted n rule g
few_gates {n} {m} {rs = rs} formed rule g = go (is_sweep rule)
  where
    go : (t : Bool) → (if t then left n m rs else m + inserted n rule g) ≤ m + inserted n rule g
    go true = omega (arith, left_fewer formed)
    go false = omega arith

-- the counts of a well-formed table
gates_counted : {n m o : ℕ} {rs : List Record} → WellFormed n m o rs → count 2 rs ≡ m
gates_counted {n} {m} {o} {rs} formed = (order_counts rs n m o formed.whole (order_of n m o rs formed)).1

-- of a known rule
module _ {n m o : ℕ} {rs : List Record} (formed : WellFormed n m o rs) {bytes : ℕ} {rule : Rule} {g a b : ℕ} {rs' : List Record} (taken : Taken bytes n m rs rule g a b rs') where
  outcome : NodesKept (rises rule) n m (gates_after n m rs rule g) o (moves_of n rs rule g) rs rs'
  outcome = rw taken.result (by_rule formed g a b rule taken.fields taken.form)

  pub taken_count : count 2 rs' ≡ gates_after n m rs rule g
  taken_count = gates_counted outcome.formed

  pub taken_nodes : NodesKept (rises rule) n m (count 2 rs') o (moves_of n rs rule g) rs rs'
  taken_nodes = rw taken_count outcome

  taken_depth : rule ≡ Sweep → depth n (count 2 rs') o rs' ≡ depth n m o rs
  unfolding rewritten
  taken_depth is = rw (taken_count, taken.result, is) (sweep_depth formed)

  taken_lower : is_sweep rule ≡ false → (j : ℕ) → suc j < g → record_at rs' j ≡ record_at rs j
  taken_lower other j h = rw taken.result (lower_stays (gate_of_lem formed g a b rule other taken.fields) j h rule other a b)

  taken_blocks : BlocksKept n m (count 2 rs') o g (inserted n rule g) (moves_of n rs rule g) rs rs'
  taken_blocks = rw taken_count (rw taken.result (rule_blocks formed g a b rule taken.fields taken.form))

  taken_gates : count 2 rs' ≤ 1024
  taken_gates = omega (arith, taken_count, few_gates formed rule g, taken.few)

  taken_fits : 8 * length rs' ≤ bytes
  taken_fits = omega (arith, outcome.formed.whole, formed.whole, few_gates formed rule g, taken.room)

module _ {n m o : ℕ} {rs : List Record} (formed : WellFormed n m o rs) (bytes : ℕ) (s : Step) (rs' : List Record) (e : step bytes n m rs s ≡ Ok rs') where
  by : Ruled bytes n m rs s rs'
  by = ruled bytes n m rs s rs' e

  -- at the nodes, and so at the outputs
  pub step_nodes : NodesKept (deepens_by s + voters_by s) n m (count 2 rs') o (moves_by n rs s) rs rs'
  step_nodes = rw by.known (taken_nodes formed by.taken)

  pub step_kept : Kept (deepens_by s + voters_by s) n m (count 2 rs') o rs rs'
  step_kept = kept_by_nodes formed step_nodes

  -- and at the blocks
  pub step_blocks : BlocksKept n m (count 2 rs') o s.gate (inserted_by n s) (moves_by n rs s) rs rs'
  step_blocks = rw by.known (taken_blocks formed by.taken)

  -- a sweep, rule 8, keeps depth itself
  pub sweep_step_depth : s.rule ≡ 8 → depth n (count 2 rs') o rs' ≡ depth n m o rs
  unfolding rule_of
  sweep_step_depth is =
      let known : Ok Sweep ≡ Ok by.rule = sym (ap rule_of is) ∙ by.known in
      taken_depth formed by.taken (cc)

  -- a step of any other rule leaves the records of the nodes below its gate as they were
  pub step_lower : (s.rule ≡ 8 → ⊥) → (j : ℕ) → suc j < s.gate → record_at rs' j ≡ record_at rs j
  step_lower other j h =
      let known : eqb s.rule 8 ≡ is_sweep by.rule = ap (λ (k : ℕ). eqb k 8) (rule_number s.rule by.rule by.known) ∙ number_of_sweep by.rule in
      taken_lower formed by.taken (sym known ∙ ne_eqb s.rule 8 other) j h

  pub step_gates : count 2 rs' ≤ 1024
  step_gates = taken_gates formed by.taken

  pub step_fits : 8 * length rs' ≤ bytes
  step_fits = taken_fits formed by.taken

-- the table that a step makes of an accepted one is accepted
pub step_accepted : {n m o : ℕ} {rs : List Record} → Accepted n m o rs → (bytes : ℕ) (s : Step) (rs' : List Record) → step bytes n m rs s ≡ Ok rs'
    → Accepted n (count 2 rs') o rs'
step_accepted was bytes s rs' e =
    let limits = was.limits in
    record {
      formed = (step_kept was.formed bytes s rs' e).formed;
      limits = record { inputs = limits.inputs; gates = step_gates was.formed bytes s rs' e; some = limits.some; outputs = limits.outputs };
    }

-- A step of a rule is accepted where none of its four tests refuses, and only there; it then gives the table that its rule makes.
use Prim.Native.Nat.{ℕ, ◌+◌, ◌*◌, ◌≤◌, ◌<◌}
use mathlib.Core.Path.{◌≡◌, refl, sym, ap}
use mathlib.Core.Bool.{true, false, not, ◌&&◌}
use mathlib.Core.List.{List}
use native.Mathlib.Omega.{arith}
use borrow.Author.Tests.{ltb-true, ltb-false, leb-true, le-ltb, not-false}
use lib.Dec.{ltb, leb, eqb}
use lib.ListN.{length}
use Rattle.std.specs.Prelude.{if◌then◌else◌, Result, Ok, Err}
use Rattle.majority.specs.Table.{WellFormed}
use Rattle.majority.specs.declared.Record.{Record}
use Rattle.majority.proofs.Logic.{both, passed}
use Rattle.rules.specs.Step.{rule_of, is_sweep, is_gate, gate_fits, fields_fit, has_form, inserted, rewritten, step_by, step}
use Rattle.rules.specs.declared.Step.{Step}
use Rattle.rules.specs.declared.Rule.{Rule}
use Rattle.rules.specs.declared.Rule.TheVariants.{Share, Voter}
use Rattle.rules.proofs.GateNodes.{GateOf}
use Rattle.rules.proofs.Sweep.{left}
use Rattle.refusals.specs.declared.Refusal.{Refusal}
use Rattle.refusals.specs.declared.Refusal.TheVariants as refusal
use Rattle.refusals.specs.Reply.{◌>>=◌}

-- how many gates a step of this rule on node g leaves, of m
abbrev pub gates_after : ℕ → ℕ → List Record → Rule → ℕ → ℕ
gates_after n m rs rule g = if is_sweep rule then left n m rs else m + inserted n rule g

-- what an accepted step of a rule is
pub record Taken (bytes n m : ℕ) (rs : List Record) (rule : Rule) (g a b : ℕ) (rs' : List Record) : Type 0 where
  pub fields : fields_fit n m rule g a b ≡ true
  pub form : has_form n rs rule g a b ≡ true
  pub few : m + inserted n rule g ≤ 1024
  pub room : 8 * (length rs + inserted n rule g) ≤ bytes
  pub result : rs' ≡ rewritten n rs rule g a b

module _ (bytes n m : ℕ) (rs : List Record) (rule : Rule) (g a b : ℕ) (rs' : List Record) where
  step_taken : step_by bytes n m rs rule g a b ≡ Ok rs' → Taken bytes n m rs rule g a b rs'
  unfolding step_by
  step_taken e =
      let s8 = passed (not (fields_fit n m rule g a b)) refusal.Field _ rs' e in
      let s9 = passed (not (has_form n rs rule g a b)) refusal.Form _ rs' s8.1 in
      let s10 = passed (ltb 1024 (m + inserted n rule g)) refusal.Gates _ rs' s9.1 in
      let s11 = passed (ltb bytes (8 * (length rs + inserted n rule g))) refusal.Room (Ok (rewritten n rs rule g a b)) rs' s10.1 in
      let same : Ok (rewritten n rs rule g a b) ≡ Ok rs' = s11.1 in
      record {
        fields = not-false _ s8.0;
        form = not-false _ s9.0;
        few = ltb-false _ _ s10.0;
        room = ltb-false _ _ s11.0;
        result = cc;
      }

  pub taken_step : Taken bytes n m rs rule g a b rs' → step_by bytes n m rs rule g a b ≡ Ok rs'
  unfolding step_by
  taken_step t =
      rw (t.fields, t.form, le-ltb 1024 (m + inserted n rule g) t.few, le-ltb bytes (8 * (length rs + inserted n rule g)) t.room) (ap Ok (sym t.result))

-- what an accepted step is, whatever its rule
pub record Ruled (bytes n m : ℕ) (rs : List Record) (s : Step) (rs' : List Record) : Type 0 where
  pub rule : Rule
  pub known : rule_of s.rule ≡ Ok rule
  pub taken : Taken bytes n m rs rule s.gate s.a s.b rs'

pub ruled : (bytes n m : ℕ) (rs : List Record) (s : Step) (rs' : List Record) → step bytes n m rs s ≡ Ok rs' → Ruled bytes n m rs s rs'
unfolding step
ruled bytes n m rs s rs' e = go (rule_of s.rule) refl e
  where
    go : (r : Result Rule Refusal) → rule_of s.rule ≡ r → ◌>>=◌ r (λ rule. step_by bytes n m rs rule s.gate s.a s.b) ≡ Ok rs' → Ruled bytes n m rs s rs'
    go (Ok rule) is e = record { rule = rule; known = is; taken = step_taken bytes n m rs rule s.gate s.a s.b rs' e }
    go (Err w) is e = let z : ◌≡◌ {A = ℕ} 0 1 = cc in absurd (omega arith)

-- node g is a gate
pub is_gate_lem : (n m g : ℕ) → is_gate n m g ≡ true → (n < g) × (g ≤ n + m)
is_gate_lem n m g h = let w = both (ltb n g) (leb g (n + m)) h in (ltb-true _ _ w.0, leb-true _ _ w.1)

-- what fitting fields say of g, for all rules but sweep, of a, for share, and of a and b, for the voter
module _ (n m g a b : ℕ) where
  pub gate_field : (rule : Rule) → is_sweep rule ≡ false → fields_fit n m rule g a b ≡ true → (n < g) × (g ≤ n + m)
  unfolding fields_fit
  gate_field rule other h = is_gate_lem n m g (rw other at (both (gate_fits n m rule g) _ h).0)

  pub share_field : fields_fit n m Share g a b ≡ true → (n < a) × (a < g)
  unfolding fields_fit
  share_field h =
      let w = both (is_gate n m a) (ltb a g) (both (is_gate n m a && ltb a g) (eqb b 0) (both (is_gate n m g) (is_gate n m a && ltb a g && eqb b 0) h).1).0 in
      ((is_gate_lem n m a w.0).0, ltb-true _ _ w.1)

  pub voter_field : fields_fit n m Voter g a b ≡ true → (0 < a) × (a < b) × (b < g)
  unfolding fields_fit
  voter_field h =
      let w = both (ltb 0 a && ltb a b) (ltb b g) (both (is_gate n m g) (ltb 0 a && ltb a b && ltb b g) h).1 in
      let v = both (ltb 0 a) (ltb a b) w.0 in
      (ltb-true _ _ v.0, ltb-true _ _ v.1, ltb-true _ _ w.1)

-- the gate of a step
pub gate_of_lem : {n m o : ℕ} {rs : List Record} → WellFormed n m o rs → (g a b : ℕ) (rule : Rule) → is_sweep rule ≡ false → fields_fit n m rule g a b ≡ true → GateOf n m o g rs
gate_of_lem {n} {m} formed g a b rule other fields = let w = gate_field n m g a b rule other fields in record { formed = formed; from = w.0; upto = w.1 }

-- One step (SPEC 5.1 and 5.4): refusals 7 to 11 in their order, or the table that the rule makes.
use Rattle.std.specs.Prelude.{ℕ, ◌+◌, ◌-◌, ◌*◌, Bool, true, false, not, ◌&&◌, ◌||◌, List, length, ltb, leb, eqb, if◌then◌else◌, Result, Ok, Err}
use Rattle.majority.specs.Edit.{node_record}
use Rattle.rules.specs.Rules.{named, exchange, majority_form, majority_rule, associativity_form, associativity, outward_form, outward, inward_form, inward, inversion, share_form, share, opposite_form, opposite}
use Rattle.rules.specs.Sweep.{sweep}
use Rattle.rules.specs.Voter.{voter_form, voter}
use Rattle.majority.specs.declared.Record.{Record}
use Rattle.rules.specs.declared.Step.{Step}
use Rattle.rules.specs.declared.Rule.{Rule}
use Rattle.rules.specs.declared.Rule.TheVariants.{Exchange, Majority, Associativity, Outward, Inward, Inversion, Share, Sweep, Voter, Opposite}
use Rattle.rules.specs.declared.fields.Asked.{Asked}
use Rattle.rules.specs.declared.fields.Asked.TheVariants.{Zero, OneOrTwo, LowerGate, LowerPair}
use Rattle.refusals.specs.declared.Refusal.{Refusal}
use Rattle.refusals.specs.declared.Refusal.TheVariants as refusal
use Rattle.refusals.specs.Reply.{◌>>=◌}

-- the step of these four numbers
abbrev pub step_with : ℕ → ℕ → ℕ → ℕ → Step
step_with rule g a b = record { rule = rule; gate = g; a = a; b = b }

-- the rule of a number; 7 where it is not 1 to 10
unfoldable pub rule_of : ℕ → Result Rule Refusal
rule_of k =
    if eqb k 1 then Ok Exchange
    else if eqb k 2 then Ok Majority
    else if eqb k 3 then Ok Associativity
    else if eqb k 4 then Ok Outward
    else if eqb k 5 then Ok Inward
    else if eqb k 6 then Ok Inversion
    else if eqb k 7 then Ok Share
    else if eqb k 8 then Ok Sweep
    else if eqb k 9 then Ok Voter
    else if eqb k 10 then Ok Opposite
    else Err refusal.Rule

-- sweep, the one rule that names no gate
abbrev pub is_sweep : Rule → Bool
is_sweep Exchange = false
is_sweep Majority = false
is_sweep Associativity = false
is_sweep Outward = false
is_sweep Inward = false
is_sweep Inversion = false
is_sweep Share = false
is_sweep Sweep = true
is_sweep Voter = false
is_sweep Opposite = false

-- inversion, the one rule that inverts a gate
abbrev pub is_inversion : Rule → Bool
is_inversion Exchange = false
is_inversion Majority = false
is_inversion Associativity = false
is_inversion Outward = false
is_inversion Inward = false
is_inversion Inversion = true
is_inversion Share = false
is_inversion Sweep = false
is_inversion Voter = false
is_inversion Opposite = false

-- among n inputs and m gates, node g is a gate
abbrev pub is_gate : ℕ → ℕ → ℕ → Bool
is_gate n m g = ltb n g && leb g (n + m)

-- the gate field is a gate, for sweep 0
abbrev pub gate_fits : ℕ → ℕ → Rule → ℕ → Bool
gate_fits n m rule g = if is_sweep rule then eqb g 0 else is_gate n m g

-- what a rule asks of the fields a and b. a: 1 or 2 for exchange, a gate below g for share, else 0; and b 0. For the voter 0 < a < b < g
abbrev pub asked_of : Rule → Asked
asked_of Exchange = OneOrTwo
asked_of Majority = Zero
asked_of Associativity = Zero
asked_of Outward = Zero
asked_of Inward = Zero
asked_of Inversion = Zero
asked_of Share = LowerGate
asked_of Sweep = Zero
asked_of Voter = LowerPair
asked_of Opposite = Zero

abbrev pub pair_fits : ℕ → ℕ → Asked → ℕ → ℕ → ℕ → Bool
pair_fits n m Zero g a b = eqb a 0 && eqb b 0
pair_fits n m OneOrTwo g a b = (eqb a 1 || eqb a 2) && eqb b 0
pair_fits n m LowerGate g a b = is_gate n m a && ltb a g && eqb b 0
pair_fits n m LowerPair g a b = ltb 0 a && ltb a b && ltb b g

-- the fields are those that the rule allows
unfoldable pub fields_fit : ℕ → ℕ → Rule → ℕ → ℕ → ℕ → Bool
fields_fit n m rule g a b = gate_fits n m rule g && pair_fits n m (asked_of rule) g a b

-- the gate has the rule's form
unfoldable pub has_form : ℕ → List Record → Rule → ℕ → ℕ → ℕ → Bool
has_form n rs Exchange g a b = true
has_form n rs Majority g a b = majority_form (node_record rs g)
has_form n rs Associativity g a b = associativity_form n (node_record rs g) (named rs (node_record rs g).e3)
has_form n rs Outward g a b = outward_form n (node_record rs g)
has_form n rs Inward g a b = inward_form n (node_record rs g) (named rs (node_record rs g).e1) (named rs (node_record rs g).e2)
has_form n rs Inversion g a b = true
has_form n rs Share g a b = share_form (node_record rs g) (node_record rs a)
has_form n rs Sweep g a b = true
has_form n rs Voter g a b = voter_form n g a b rs
has_form n rs Opposite g a b = opposite_form (node_record rs g)

-- how many gates a rule inserts; the voter as many as it copies
abbrev pub inserted_of : Rule → ℕ → ℕ
inserted_of Exchange copied = 0
inserted_of Majority copied = 0
inserted_of Associativity copied = 1
inserted_of Outward copied = 2
inserted_of Inward copied = 1
inserted_of Inversion copied = 0
inserted_of Share copied = 0
inserted_of Sweep copied = 0
inserted_of Voter copied = copied
inserted_of Opposite copied = 0

-- a step on node g among n inputs; the gates from the first up to g are copied three times
abbrev pub inserted : ℕ → Rule → ℕ → ℕ
inserted n rule g = inserted_of rule (3 * (g - n))

-- the table that a rule makes
unfoldable pub rewritten : ℕ → List Record → Rule → ℕ → ℕ → ℕ → List Record
rewritten n rs Exchange g a b = exchange a g rs
rewritten n rs Majority g a b = majority_rule g rs
rewritten n rs Associativity g a b = associativity g rs
rewritten n rs Outward g a b = outward g rs
rewritten n rs Inward g a b = inward g rs
rewritten n rs Inversion g a b = inversion g rs
rewritten n rs Share g a b = share a g rs
rewritten n rs Sweep g a b = sweep rs
rewritten n rs Voter g a b = voter n g a b rs
rewritten n rs Opposite g a b = opposite g rs

-- by how much a step of this rule may raise depth: associativity and distributivity by one, the others not at all
abbrev pub deepens : Rule → ℕ
deepens Exchange = 0
deepens Majority = 0
deepens Associativity = 1
deepens Outward = 1
deepens Inward = 1
deepens Inversion = 0
deepens Share = 0
deepens Sweep = 0
deepens Voter = 0
deepens Opposite = 0

-- and by how much a voter step, which is counted apart, may: by one
abbrev pub voters : Rule → ℕ
voters Exchange = 0
voters Majority = 0
voters Associativity = 0
voters Outward = 0
voters Inward = 0
voters Inversion = 0
voters Share = 0
voters Sweep = 0
voters Voter = 1
voters Opposite = 0

-- a step of a rule on a table of n inputs and m gates in a buffer of so many bytes
unfoldable pub step_by : ℕ → ℕ → ℕ → List Record → Rule → ℕ → ℕ → ℕ → Result (List Record) Refusal
step_by bytes n m rs rule g a b =
    if not (fields_fit n m rule g a b) then Err refusal.Field
    else if not (has_form n rs rule g a b) then Err refusal.Form
    else if ltb 1024 (m + inserted n rule g) then Err refusal.Gates
    else if ltb bytes (8 * (length rs + inserted n rule g)) then Err refusal.Room
    else Ok (rewritten n rs rule g a b)

-- a step, of the rule that has its number
unfoldable pub step : ℕ → ℕ → ℕ → List Record → Step → Result (List Record) Refusal
step bytes n m rs s = do
  rule ← rule_of s.rule
  step_by bytes n m rs rule s.gate s.a s.b

-- the same of a step, by the rule that has its number; one of no rule is never taken
abbrev pub ruled_by : (Rule → ℕ) → Result Rule Refusal → ℕ
ruled_by f (Ok rule) = f rule
ruled_by f (Err w) = 0

abbrev pub deepens_by : Step → ℕ
deepens_by s = ruled_by deepens (rule_of s.rule)

abbrev pub voters_by : Step → ℕ
voters_by s = ruled_by voters (rule_of s.rule)

-- how many gates a step inserts before its gate, among n inputs
abbrev pub inserted_by : ℕ → Step → ℕ
inserted_by n s = ruled_by (λ rule. inserted n rule s.gate) (rule_of s.rule)

-- What rewriting keeps (SPEC 5.2, 5.3 and 5.6): of each node, and so of the outputs and of depth; and of its block.
use Rattle.std.specs.Prelude.{ℕ, suc, ◌+◌, ◌≤◌, ◌<◌, ◌≡◌, Bool, true, false, not, List, eqb, if◌then◌else◌, Result, Ok, Err}
use Rattle.majority.specs.Edge.{raised}
use Rattle.majority.specs.Table.{WellFormed}
use Rattle.majority.specs.Value.{value, output_value}
use Rattle.majority.specs.Level.{level, depth}
use Rattle.rules.specs.Sweep.{stays, kept}
use Rattle.rules.specs.Voter.{block_of}
use Rattle.rules.specs.Step.{inserted, rule_of}
use Rattle.rules.specs.declared.Step.{Step}
use Rattle.rules.specs.declared.Rule.{Rule}
use Rattle.rules.specs.declared.Rule.TheVariants.{Exchange, Majority, Associativity, Outward, Inward, Inversion, Share, Sweep, Voter, Opposite}
use Rattle.majority.specs.declared.Record.{Record}
use Rattle.refusals.specs.declared.Refusal.{Refusal}

-- what becomes of the nodes of a table: whether node k stays, its number then, and whether its value is inverted. An output's record counts as a node
pub record Moves : Type 0 where
  pub stays : ℕ → Bool
  pub place : ℕ → ℕ
  pub inverted : ℕ → Bool

-- every node stays what it is
abbrev pub in_place : Moves
in_place = record { stays = λ k. true; place = λ k. k; inverted = λ k. false }

-- c gates are inserted before node g
abbrev pub raising : ℕ → ℕ → Moves
raising g c = record { stays = λ k. true; place = raised g c; inverted = λ k. false }

-- node g is inverted
abbrev pub inverting : ℕ → Moves
inverting g = record { stays = λ k. true; place = λ k. k; inverted = λ k. eqb k g }

-- what is not kept is dropped, and the rest closes up
abbrev pub closing_up : (ℕ → Bool) → Moves
closing_up keep = record { stays = keep; place = kept keep 0; inverted = λ k. false }

-- where the nodes stand after a step of a rule on node g, among n inputs
abbrev pub moves_of : ℕ → List Record → Rule → ℕ → Moves
moves_of n rs Exchange g = in_place
moves_of n rs Majority g = in_place
moves_of n rs Associativity g = raising g (inserted n Associativity g)
moves_of n rs Outward g = raising g (inserted n Outward g)
moves_of n rs Inward g = raising g (inserted n Inward g)
moves_of n rs Inversion g = inverting g
moves_of n rs Share g = in_place
moves_of n rs Sweep g = closing_up (stays rs)
moves_of n rs Voter g = raising g (inserted n Voter g)
moves_of n rs Opposite g = in_place

-- after a step, of the rule that has its number; one of no rule is never taken
abbrev pub moves_as : Result Rule Refusal → ℕ → List Record → ℕ → Moves
moves_as (Ok rule) n rs g = moves_of n rs rule g
moves_as (Err w) n rs g = in_place

abbrev pub moves_by : ℕ → List Record → Step → Moves
moves_by n rs s = moves_as (rule_of s.rule) n rs s.gate

-- the value v, inverted where t is true
abbrev pub turned : Bool → Bool → Bool
turned t v = if t then not v else v

-- from the table rs of m gates to rs' of m' gates, in which the nodes of rs stand as `moves` says
pub record NodesKept (δ n m m' o : ℕ) (moves : Moves) (rs rs' : List Record) : Type 0 where
  pub formed : WellFormed n m' o rs'
  -- a node that stays keeps its value under each assignment, or has it inverted
  pub values : (a k : ℕ) → k ≤ n + m + o → moves.stays k ≡ true → value a rs' (moves.place k) ≡ turned (moves.inverted k) (value a rs k)
  -- and its level rises by at most δ
  pub levels : (k : ℕ) → k ≤ n + m + o → moves.stays k ≡ true → level rs' (moves.place k) ≤ level rs k + δ
  -- nodes stay before the outputs, gates after the inputs, and outputs uninverted in their order
  pub nodes : (k : ℕ) → k ≤ n + m → moves.place k ≤ n + m'
  pub gates : (k : ℕ) → n < k → moves.stays k ≡ true → n < moves.place k
  pub outputs : (j : ℕ) → j < o → (moves.stays (suc (n + m + j)) ≡ true) × (moves.place (suc (n + m + j)) ≡ suc (n + m' + j)) × (moves.inverted (suc (n + m + j)) ≡ false)

-- from the table rs of m gates to rs' of m' gates: rs' is well formed, each output keeps its value under each assignment, and depth rises by at most δ
pub record Kept (δ n m m' o : ℕ) (rs rs' : List Record) : Type 0 where
  pub formed : WellFormed n m' o rs'
  pub outputs : (a j : ℕ) → j < o → output_value a n m' rs' j ≡ output_value a n m rs j
  pub deep : depth n m' o rs' ≤ depth n m o rs + δ

-- from the table rs of m gates to rs' of m' gates, by a step on node g that inserts c gates
pub record BlocksKept (n m m' o g c : ℕ) (moves : Moves) (rs rs' : List Record) : Type 0 where
  -- a record that stays keeps its block
  pub stayed : (k : ℕ) → 0 < k → k ≤ n + m + o → moves.stays k ≡ true → block_of rs' (moves.place k) ≡ block_of rs k
  -- the inserted nodes are gates, and have g's
  pub new : (k : ℕ) → g ≤ k → k < g + c → (n < k) × (k ≤ n + m') × (block_of rs' k ≡ block_of rs g)

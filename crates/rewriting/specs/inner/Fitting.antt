-- What a rule may rely on when it edits: refusals 8 to 11 do not apply (SPEC 3 and 5.1).
use Rattle.std.specs.Prelude.{◌≡◌, ℕ, ◌+◌, ◌-◌, ◌*◌, ◌<◌, ◌≤◌, true, List, length}
use Rattle.rules.specs.Step.{fields_fit, has_form, inserted}
use Rattle.rules.specs.Voter.{voter_form}
use Rattle.majority.specs.declared.Counts.{Counts}
use Rattle.tables.specs.Sound.{Sound, table_in}
use Rattle.rewriting.specs.declared.applying.Change.{Change}

-- the buffer xs has an accepted table with these counts, of which node g is a gate
pub record AtGate (xs : List ℕ) (c : Counts) (g : ℕ) : Type 0 where
  pub sound : Sound xs c
  pub from : c.inputs < g
  pub upto : g ≤ c.inputs + c.gates

-- there is room for k gates more
abbrev pub Room : ℕ → List ℕ → Counts → Type 0
Room k xs c = 8 * (c.inputs + c.gates + c.outputs + k) ≤ length xs

-- none of the four tests of the change h refuses it
pub record Fitting (xs : List ℕ) (c : Counts) (h : Change) : Type 0 where
  pub sound : Sound xs c
  pub fields : fields_fit c.inputs c.gates h.rule h.gate h.a h.b ≡ true
  pub form : has_form c.inputs (table_in xs c) h.rule h.gate h.a h.b ≡ true
  pub few : c.gates + inserted c.inputs h.rule h.gate ≤ 1024
  pub room : Room (inserted c.inputs h.rule h.gate) xs c

-- and so of a voter on the nodes a and b
pub record Votable (xs : List ℕ) (c : Counts) (g a b : ℕ) : Type 0 where
  pub at : AtGate xs c g
  pub order : a < b
  pub below : b < g
  pub form : voter_form c.inputs g a b (table_in xs c) ≡ true
  pub few : c.gates + 3 * (g - c.inputs) ≤ 1024
  pub room : Room (3 * (g - c.inputs)) xs c

-- What a rule knows of its gate and of the nodes that it names.
use Rattle.std.proofs.Common.{◌≡◌, ℕ, ◌+◌, ◌≤◌, true, false, List, length, arith}
use Rattle.majority.specs.Table.{WellFormed}
use Rattle.rules.specs.Step.{is_sweep, fields_fit}
use Rattle.rules.specs.declared.Rule.{Rule}
use Rattle.majority.specs.declared.Record.{Record}
use Rattle.majority.specs.declared.Counts.{Counts}
use Rattle.rules.proofs.AcceptedStep.{gate_field}
use Rattle.tables.specs.Sound.{Sound, table_in}
use Rattle.tables.proofs.Decoded.{length_table}
use Rattle.tables.proofs.Sound.{sound_accepted}
use Rattle.rewriting.specs.inner.Fitting.{AtGate, Fitting}
use Rattle.rewriting.specs.declared.applying.Change.{Change}

-- fields that fit name a gate, for every rule but sweep
pub at_gate : {xs : List ℕ} {c : Counts} → Sound xs c → (rule : Rule) (g a b : ℕ) → fields_fit c.inputs c.gates rule g a b ≡ true → is_sweep rule ≡ false → AtGate xs c g
at_gate {c = c} sound rule g a b fits other =
    let w = gate_field c.inputs c.gates g a b rule other fits in
    record { sound = sound; from = w.0; upto = w.1 }

pub fit_gate : {xs : List ℕ} {c : Counts} {h : Change} → Fitting xs c h → is_sweep h.rule ≡ false → AtGate xs c h.gate
fit_gate {h = h} fit other = at_gate fit.sound h.rule h.gate h.a h.b fit.fields other

module _ {xs : List ℕ} {c : Counts} {g : ℕ} (at : AtGate xs c g) where
  abbrev table : List Record
  table = table_in xs c

  pub at_formed : WellFormed c.inputs c.gates c.outputs table
  at_formed = (sound_accepted at.sound).formed

  -- node numbers are small, and so is the number of records
  pub at_small : (c.inputs ≤ 32) × (c.gates ≤ 1024) × (c.outputs ≤ 32)
  at_small = let l = (sound_accepted at.sound).limits in (l.inputs, l.gates, l.outputs)

  pub at_few : c.inputs + c.gates + c.outputs ≤ 1088
  at_few = omega (arith, at_small)

  pub at_node : g + 1 ≤ 1057
  at_node = omega (arith, at.upto, at_small)

  pub at_length : length table ≡ c.inputs + c.gates + c.outputs
  at_length = length_table xs _

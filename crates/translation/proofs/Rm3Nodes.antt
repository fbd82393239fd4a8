-- The translation of inputs and gates: it only puts operands and records at the end, and induction over it.
use Prim.Native.Nat.{ℕ, zero, suc, ◌+◌, ◌<◌}
use mathlib.Core.List.{List, [], ◌∷◌, ◌++◌}
use native.Mathlib.Omega.{arith}
use lib.ListN.{length}
use Rattle.majority.specs.Table.{blank, input, record_at}
use Rattle.majority.specs.Node.{by_kind}
use Rattle.translation.specs.Translate.{Draft, more, after, nodes3}
use Rattle.majority.specs.declared.Record.{Record}
use Rattle.translation.specs.declared.Mode.{Mode}
use Rattle.translation.proofs.Begins.{Begins, begins_same, begins_then, begins_append}
use Rattle.translation.proofs.Rm3Gate.{gate_begins}

-- the operands so far with that of the node whose record ends the table so far
abbrev pub named : List ℕ → Draft → List ℕ
named operands d = operands ++ (length d.table + 1) ∷ []

by_kind_begins : (k : ℕ) (d i g : Draft) → Begins blank d.table i.table → Begins blank d.table g.table → Begins blank d.table (by_kind k i g d d).table
by_kind_begins zero d i g b c = begins_same d.table
by_kind_begins (suc zero) d i g b c = b
by_kind_begins (suc (suc zero)) d i g b c = c
by_kind_begins (suc (suc (suc k))) d i g b c = begins_same d.table

module _ (mode : Mode) where
  after_begins : (operands : List ℕ) (d : Draft) (r : Record) → Begins blank d.table (after mode operands d r).table
  after_begins operands d r = by_kind_begins r.kind d (more d input) _ (begins_append d.table (input ∷ [])) (gate_begins mode operands r d)

  -- operands and records are only put at the end
  pub nodes_begin : (operands : List ℕ) (d : Draft) (rs : List Record)
      → let done = nodes3 mode operands d rs in Begins 0 operands done.operands × Begins blank d.table done.draft.table
  nodes_begin operands d [] = (begins_same operands, begins_same d.table)
  nodes_begin operands d (r ∷ rs) =
      let next = after mode operands d r in
      let rest = nodes_begin (named operands next) next rs in
      (begins_then (begins_append operands _) rest.0, begins_then (after_begins operands d r) rest.1)

  -- induction over the records translated so far; `final` and `whole` are what the operands and the table become
  pub nodes_induction : (I : ℕ → List ℕ → Draft → Type 0) (final : List ℕ) (whole rs : List Record)
      → ((j : ℕ) (operands : List ℕ) (d : Draft) → j < length rs
      → let next = after mode operands d (record_at rs j) in
      Begins 0 (named operands next) final → Begins blank next.table whole → I j operands d → I (suc j) (named operands next) next)
      → (operands : List ℕ) (d : Draft)
      → let done = nodes3 mode operands d rs in
      Begins 0 done.operands final → Begins blank done.draft.table whole → I 0 operands d → I (length rs) done.operands done.draft
  nodes_induction I final whole [] step operands d b c start = start
  nodes_induction I final whole (r ∷ rs) step operands d b c start =
      let next = after mode operands d r in
      let rest = nodes_begin (named operands next) next rs in
      nodes_induction (λ j. I (suc j)) final whole rs (λ j ops us h. step (suc j) ops us (omega arith)) (named operands next) next b c
      (step 0 operands d (omega arith) (begins_then rest.0 b) (begins_then rest.1 c) start)

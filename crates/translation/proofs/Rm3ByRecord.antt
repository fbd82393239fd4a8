-- The translation as a loop takes it: what each input, gate and output in turn makes of what is left, and where nothing is.
use Prim.Native.Nat.{ℕ, suc, ◌+◌, ◌<◌}
use mathlib.Core.Path.{◌≡◌, sym, ap, ◌∙◌}
use mathlib.Core.Bool.{false}
use mathlib.Core.List.{List, [], ◌∷◌, ◌++◌}
use native.Mathlib.Omega.{arith}
use lib.ListN.{take, drop}
use lib.Seq.{drop-cons, drop-length, get_or-take}
use Rattle.majority.specs.Table.{blank, output, record_at, WellFormed}
use Rattle.translation.specs.Translate.{Draft, after, place, nodes3, outputs3}
use Rattle.majority.specs.declared.Record.{Record}
use Rattle.translation.specs.declared.Mode.{Mode}
use Rattle.translation.proofs.Rm3Nodes.{named}
use Rattle.translation.proofs.Rm3Formed.{front}

module _ {n m o : ℕ} {rs : List Record} (formed : WellFormed n m o rs) (mode : Mode) (operands : List ℕ) (d : Draft) where
  -- the node of record j
  pub turn : (j : ℕ) → j < n + m → (next : Draft) → after mode operands d (record_at rs j) ≡ next
      → nodes3 mode operands d (drop j (take (n + m) rs)) ≡ nodes3 mode (named operands next) next (drop (suc j) (take (n + m) rs))
  turn j h next is =
      rw (drop-cons (take (n + m) rs) j blank (omega (arith, front formed)), get_or-take (n + m) rs j blank h)
      (ap (λ (us : Draft). nodes3 mode (named operands us) us (drop (suc j) (take (n + m) rs))) is)

  pub nodes_end : (j : ℕ) → j ≡ n + m → nodes3 mode operands d (drop j (take (n + m) rs)) ≡ record { operands = operands; draft = d }
  nodes_end j e = ap (nodes3 mode operands d) (ap (λ (k : ℕ). drop k (take (n + m) rs)) (e ∙ sym (front formed)) ∙ drop-length (take (n + m) rs))

  pub output_turn : (os : List Record) (j : ℕ) → j < n + m + o
      → let p = place mode 0 false operands (record_at rs j).e1 d in
      outputs3 mode operands d os (drop j rs) ≡ outputs3 mode operands p.draft (os ++ output p.operand ∷ []) (drop (suc j) rs)
  output_turn os j h = rw (drop-cons rs j blank (omega (arith, formed.whole)))

  pub outputs_end : (os : List Record) (j : ℕ) → j ≡ n + m + o → outputs3 mode operands d os (drop j rs) ≡ record { draft = d; outputs = os }
  outputs_end os j e = ap (outputs3 mode operands d os) (ap (λ (k : ℕ). drop k rs) (e ∙ sym formed.whole) ∙ drop-length rs)

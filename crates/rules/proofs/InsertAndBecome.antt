-- What rules 3 to 5 and 9 have in common: gates are inserted before g, and g becomes a gate that may read them too.
use Prim.Native.Nat.{ℕ, zero, suc, ◌+◌, ◌≤◌, ◌<◌}
use mathlib.Core.Path.{◌≡◌, ◌∙◌}
use mathlib.Core.List.{List, [], ◌∷◌}
use native.Mathlib.Omega.{arith}
use native.Mathlib.Nat.{add-zero}
use lib.ListN.{length}
use Rattle.majority.specs.Table.{record_at, Below}
use Rattle.majority.specs.Node.{Meaning, edge_worth, worth}
use Rattle.majority.specs.Value.{values, value}
use Rattle.majority.specs.Level.{levels, level}
use Rattle.majority.specs.Edit.{insert, become}
use Rattle.rules.specs.Rules.{plain}
use Rattle.rules.specs.Kept.{raising, NodesKept}
use Rattle.majority.specs.declared.Record.{Record}
use Rattle.rules.proofs.Kept.{nodes_then}
use Rattle.rules.proofs.GateNodes.{gate_worth, GateOf}
use Rattle.rules.proofs.Become.{become_kept}
use Rattle.rules.proofs.InsertNodes.{GatesInOrder, GatesBelow, insert_formed, insert_gate, insert_kept, inserted_edge}

-- P of each record of a list of one, and of two
pub one_new : (P : Record → Type 0) (r : Record) → P r → (t : ℕ) → t < length (r ∷ []) → P (record_at (r ∷ []) t)
one_new P r p zero h = p
one_new P r p (suc t) h = absurd (omega arith)

pub two_new : (P : Record → Type 0) (r s : Record) → P r → P s → (t : ℕ) → t < length (r ∷ s ∷ []) → P (record_at (r ∷ s ∷ []) t)
two_new P r s p q zero h = p
two_new P r s p q (suc t) h = one_new P s q t (omega arith)

pub growth_kept : {n m o g : ℕ} {rs : List Record} → GateOf n m o g rs → (news : List Record) → GatesInOrder g news → (s : Record) → s.kind ≡ 2 → Below (g + length news) s
    → ((a : ℕ) → value a rs g ≡ gate_worth (values a) (value a (insert g news rs)) s)
    → gate_worth levels (level (insert g news rs)) s ≤ level rs g + 1
    → NodesKept 1 n m (m + length news) o (raising g (length news)) rs (become (g + length news) s (insert g news rs))
growth_kept {n} {m} {o} {g} {rs} is news gates s kind reads same rises =
    let later : GateOf n (m + length news) o (g + length news) (insert g news rs) =
    record { formed = insert_formed is news gates; from = omega (arith, is.from); upto = omega (arith, is.upto) }
    in
    nodes_then (insert_kept is news gates)
    (become_kept later s kind reads 1 (λ a. insert_gate is news gates (values a) ∙ same a) (rw (insert_gate is news gates levels) rises))

module _ {n m o g : ℕ} {rs : List Record} (is : GateOf n m o g rs) (news : List Record) (gates : GatesBelow g news) where
  -- the edge to the first new gate
  pub first_inserted : {A : Type 0} (𝓜 : Meaning A) → 0 < length news → edge_worth 𝓜 (worth 𝓜 (insert g news rs)) (plain g) ≡ gate_worth 𝓜 (worth 𝓜 rs) (record_at news 0)
  first_inserted 𝓜 h = rw add-zero at (inserted_edge is news gates 𝓜 0 h)

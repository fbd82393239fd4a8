-- What a well-formed table gives: every record reads lower nodes of the table, and an output's record is worth what the output is.
use Prim.Native.Nat.{ℕ, suc, ◌+◌, ◌≤◌, ◌<◌}
use mathlib.Core.Path.{◌≡◌, ap, ◌∙◌}
use mathlib.Core.List.{List}
use native.Mathlib.Omega.{arith}
use native.Mathlib.Decide.{dec_lt}
use lib.ListN.{length}
use Rattle.majority.specs.Edge.{node_of}
use Rattle.majority.specs.Table.{record_at, output, Below, WellFormed}
use Rattle.majority.specs.Node.{Meaning, by_kind, edge_worth, record_worth, worth}
use Rattle.majority.specs.declared.Record.{Record}
use Rattle.majority.proofs.Nodes.{node_eq}

pub below_more : (b b' : ℕ) (r : Record) → b ≤ b' → Below b r → Below b' r
below_more b b' r h low = record { first = omega (arith, low.first); second = omega (arith, low.second); third = omega (arith, low.third) }

pub output_below : (b : ℕ) (r : Record) → r ≡ output r.e1 → node_of r.e1 < b → Below b r
output_below b r is h = record { first = h; second = rw is (omega arith); third = rw is (omega arith) }

pub kind_two : {A : Type 0} (k : ℕ) (i g o d : A) → k ≡ 2 → by_kind k i g o d ≡ g
kind_two k i g o d e = rw e

-- a gate's record, and an output's, as they are worth
pub gate_worth_lem : {A : Type 0} (𝓜 : Meaning A) (v : ℕ → A) (k : ℕ) (r : Record) → r.kind ≡ 2
    → record_worth 𝓜 v k r ≡ 𝓜.gate (edge_worth 𝓜 v r.e1) (edge_worth 𝓜 v r.e2) (edge_worth 𝓜 v r.e3)
unfolding record_worth
gate_worth_lem 𝓜 v k r e = kind_two r.kind _ _ _ _ e

pub output_worth : {A : Type 0} (𝓜 : Meaning A) (v : ℕ → A) (k : ℕ) (r : Record) → r ≡ output r.e1 → record_worth 𝓜 v k r ≡ edge_worth 𝓜 v r.e1
unfolding record_worth
output_worth 𝓜 v k r e = ap (record_worth 𝓜 v k) e

module _ {n m o : ℕ} {rs : List Record} (formed : WellFormed n m o rs) where
  -- the edges of record j name nodes below both its own number and the table's end
  reads : (j : ℕ) → j < n + m + o → Below (suc j) (record_at rs j) × Below (suc (n + m)) (record_at rs j)
  reads j h = go (dec_lt j n) (dec_lt j (n + m))
    where
      go : Dec (j < n) → Dec (j < n + m) → Below (suc j) (record_at rs j) × Below (suc (n + m)) (record_at rs j)
      go (yes p) _ =
          rw (formed.inputs j p)
          (record { first = omega arith; second = omega arith; third = omega arith }, record { first = omega arith; second = omega arith; third = omega arith })
      go (no p) (yes q) =
          let low = (formed.gates j (omega arith) q).1 in
          (low, below_more _ _ _ (omega arith) low)
      go (no p) (no q) =
          let w = formed.outputs j (omega arith) h in
          (output_below _ _ w.0 (omega (arith, w.1)), output_below _ _ w.0 (omega (arith, w.1)))

  pub reads_lower : (j : ℕ) → j < length rs → Below (suc j) (record_at rs j)
  reads_lower j h = (reads j (omega (arith, formed.whole))).0

  pub reads_nodes : (j : ℕ) → j < length rs → Below (suc (n + m)) (record_at rs j)
  reads_nodes j h = (reads j (omega (arith, formed.whole))).1

  -- record j is no input, from the gates on
  pub not_input : (j : ℕ) → n ≤ j → j < n + m + o → (record_at rs j).kind ≡ 1 → ⊥
  not_input j p q e = go (dec_lt j (n + m))
    where
      go : Dec (j < n + m) → ⊥
      go (yes l) = let k = (formed.gates j p l).0 in omega arith
      go (no l) = let k : (record_at rs j).kind ≡ 3 = ap (λ (r : Record). r.kind) (formed.outputs j (omega arith) q).0 in omega arith

  -- what record j is worth
  pub formed_eq : {A : Type 0} (𝓜 : Meaning A) (j : ℕ) → j < n + m + o → worth 𝓜 rs (suc j) ≡ record_worth 𝓜 (worth 𝓜 rs) (suc j) (record_at rs j)
  formed_eq 𝓜 j h = node_eq 𝓜 rs reads_lower j (omega (arith, formed.whole))

  pub input_eq : {A : Type 0} (𝓜 : Meaning A) (j : ℕ) → j < n → worth 𝓜 rs (suc j) ≡ 𝓜.input (suc j)
  unfolding record_worth
  input_eq 𝓜 j h = formed_eq 𝓜 j (omega arith) ∙ ap (record_worth 𝓜 (worth 𝓜 rs) (suc j)) (formed.inputs j h)

  pub gate_eq : {A : Type 0} (𝓜 : Meaning A) (j : ℕ) → n ≤ j → j < n + m
      → worth 𝓜 rs (suc j) ≡ 𝓜.gate (edge_worth 𝓜 (worth 𝓜 rs) (record_at rs j).e1) (edge_worth 𝓜 (worth 𝓜 rs) (record_at rs j).e2) (edge_worth 𝓜 (worth 𝓜 rs) (record_at rs j).e3)
  gate_eq 𝓜 j p q = formed_eq 𝓜 j (omega arith) ∙ gate_worth_lem 𝓜 (worth 𝓜 rs) (suc j) (record_at rs j) (formed.gates j p q).0

  -- an output's record stands for it
  pub output_eq : {A : Type 0} (𝓜 : Meaning A) (j : ℕ) → j < o → worth 𝓜 rs (suc (n + m + j)) ≡ edge_worth 𝓜 (worth 𝓜 rs) (record_at rs (n + m + j)).e1
  output_eq 𝓜 j h =
      formed_eq 𝓜 (n + m + j) (omega arith) ∙ output_worth 𝓜 (worth 𝓜 rs) (suc (n + m + j)) _ (formed.outputs (n + m + j) (omega arith) (omega arith)).0

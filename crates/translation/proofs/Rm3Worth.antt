-- What the operands of an RM3 table are worth: the constants, and the equation that each record meets.
use Prim.Native.Nat.{ℕ, ◌+◌, ◌-◌, ◌<◌}
use mathlib.Core.Path.{◌≡◌, refl, ap, ◌∙◌}
use mathlib.Core.List.{List, [], ◌∷◌}
use native.Mathlib.Omega.{arith}
use native.Mathlib.Decide.{dec_lt}
use lib.ListN.{length}
use Rattle.majority.specs.Table.{blank, output, record_at}
use Rattle.majority.specs.Node.{Meaning}
use Rattle.translation.specs.Rm3.{operation, operand_worth, worth3, WellFormed3}
use Rattle.majority.specs.declared.Record.{Record}
use Rattle.majority.proofs.Pass.{pass_eq, pass_keeps}

-- each of the three operands is below b
pub record Lower (b : ℕ) (r : Record) : Type 0 where
  pub first : r.e1 < b
  pub second : r.e2 < b
  pub third : r.e3 < b

module _ {A : Type 0} (𝓜 : Meaning A) where
  -- a record's worth is made of the operands that it reads alone
  operand_agrees : (v w : ℕ → A) (b : ℕ) (r : Record) → Lower b r → ((i : ℕ) → i < b → v i ≡ w i) → operand_worth 𝓜 v b r ≡ operand_worth 𝓜 w b r
  unfolding operand_worth
  operand_agrees v w b r low agree = rw (agree _ low.first, agree _ low.second, agree _ low.third)

  -- operand 0 is the constant, and operand 1 its inverse
  pub false_worth : (ts : List Record) → worth3 𝓜 ts 0 ≡ 𝓜.constant
  unfolding worth3
  false_worth ts = pass_keeps (operand_worth 𝓜) 𝓜.constant 2 (𝓜.constant ∷ 𝓜.inverse 𝓜.constant ∷ []) ts 0 (omega arith)

  pub true_worth : (ts : List Record) → worth3 𝓜 ts 1 ≡ 𝓜.inverse 𝓜.constant
  unfolding worth3
  true_worth ts = pass_keeps (operand_worth 𝓜) 𝓜.constant 2 (𝓜.constant ∷ 𝓜.inverse 𝓜.constant ∷ []) ts 1 (omega arith)

  -- the local equation: operand j + 2 is made of record j and of lower operands
  pub operand_eq : (ts : List Record) → ((j : ℕ) → j < length ts → Lower (j + 2) (record_at ts j))
      → (j : ℕ) → j < length ts → worth3 𝓜 ts (j + 2) ≡ operand_worth 𝓜 (worth3 𝓜 ts) (j + 2) (record_at ts j)
  unfolding worth3
  operand_eq ts low j h =
      let two : (i : ℕ) → i + 2 ≡ 2 + i = λ i. omega arith in
      rw (two j)
      (pass_eq (operand_worth 𝓜) 𝓜.constant blank Lower operand_agrees 2 (𝓜.constant ∷ 𝓜.inverse 𝓜.constant ∷ []) ts refl (λ i l. rw (← two i) (low i l)) j h)

output_lower : (b : ℕ) (r : Record) → r ≡ output r.e1 → r.e1 < b → Lower b r
output_lower b r is h = record { first = h; second = rw is (omega arith); third = rw is (omega arith) }

module _ {n p o : ℕ} {ts : List Record} (formed : WellFormed3 n p o ts) where
  -- record j reads operands below its own number
  reads_lower3 : (j : ℕ) → j < length ts → Lower (j + 2) (record_at ts j)
  reads_lower3 j h = go (dec_lt j n) (dec_lt j (n + p))
    where
      go : Dec (j < n) → Dec (j < n + p) → Lower (j + 2) (record_at ts j)
      go (yes l) _ = rw (formed.inputs j l) (record { first = omega arith; second = omega arith; third = omega arith })
      go (no l) (yes q) = let w = formed.operations j (omega arith) q in record { first = w.1; second = w.2; third = w.3 }
      go (no l) (no q) = let w = formed.outputs j (omega arith) (omega (arith, formed.whole)) in output_lower _ _ w.0 (omega (arith, w.1))

  -- what record j is worth
  formed3_eq : {A : Type 0} (𝓜 : Meaning A) (j : ℕ) → j < n + p + o → worth3 𝓜 ts (j + 2) ≡ operand_worth 𝓜 (worth3 𝓜 ts) (j + 2) (record_at ts j)
  formed3_eq 𝓜 j h = operand_eq 𝓜 ts reads_lower3 j (omega (arith, formed.whole))

  pub input3_eq : {A : Type 0} (𝓜 : Meaning A) (j : ℕ) → j < n → worth3 𝓜 ts (j + 2) ≡ 𝓜.input (j + 1)
  unfolding operand_worth
  input3_eq 𝓜 j h =
      let e : j + 2 - 1 ≡ j + 1 = omega arith in
      formed3_eq 𝓜 j (omega arith) ∙ rw (formed.inputs j h, e)

  -- what it is worth where it is this operation, of whichever block
  pub operation_worth : {A : Type 0} (𝓜 : Meaning A) (j x y z : ℕ) {b : ℕ} → j < length ts → record_at ts j ≡ operation b x y z
      → worth3 𝓜 ts (j + 2) ≡ 𝓜.gate (worth3 𝓜 ts x) (𝓜.inverse (worth3 𝓜 ts y)) (worth3 𝓜 ts z)
  unfolding operand_worth
  operation_worth 𝓜 j x y z h is = operand_eq 𝓜 ts reads_lower3 j h ∙ ap (operand_worth 𝓜 (worth3 𝓜 ts) (j + 2)) is

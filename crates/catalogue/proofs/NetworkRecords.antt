-- The records of an entry's table, one by one: three inputs, then the gates, then the output.
use Prim.Native.Nat.{ℕ, zero, suc, ◌+◌, ◌-◌, ◌*◌, ◌^◌, ◌≤◌, ◌<◌}
use mathlib.Core.Path.{◌≡◌, refl, sym, ap, ◌∙◌}
use mathlib.Core.List.{[], ◌∷◌}
use native.Mathlib.Nat.{pow-le-pow_right, div-eq_of_lt}
use native.Mathlib.Omega.{arith}
use lib.ListN.{length, length-append, get_or-append}
use lib.Seq.{get_or-append-add}
use Rattle.majority.specs.Table.{blank, input, gate, output, record_at}
use Rattle.catalogue.specs.Networks.{digit, gate_count, gate_of, gates_of, network_of}

-- an entry of 64 bits has 16 digits
pub digit_past : (x k : ℕ) → x < 18446744073709551616 → 16 ≤ k → 0 ≡ digit x k
unfolding digit
digit_past x k low h =
    let room : 18446744073709551616 ≤ 2 ^ (4 * k) = pow-le-pow_right {n = 2} (omega arith) {i = 64} {j = 4 * k} (omega arith) in
    let below : x < 2 ^ (4 * k) = omega arith in
    rw (div-eq_of_lt below)

module _ (x : ℕ) where
  gates_length : (k : ℕ) → length (gates_of x k) ≡ k
  unfolding gates_of
  gates_length zero = refl
  gates_length (suc k) = ap suc (gates_length k)

  gate_at : (k j b : ℕ) → j + suc b ≡ k → record_at (gates_of x k) j ≡ gate_of x b
  unfolding gates_of
  gate_at zero j b e = absurd (omega arith)
  gate_at (suc k) zero b e = let same : k ≡ b = omega arith in rw same
  gate_at (suc k) (suc j) b e = gate_at k j b (omega arith)

  pub network_length : length (network_of x) ≡ gate_count x + 4
  unfolding network_of
  network_length = omega (arith, length-append (gates_of x (gate_count x)) (output (digit x 1) ∷ []), gates_length (gate_count x))

  pub input_record : (i : ℕ) → i < 3 → input ≡ record_at (network_of x) i
  unfolding network_of
  input_record zero h = refl
  input_record (suc zero) h = refl
  input_record (suc (suc zero)) h = refl
  input_record (suc (suc (suc i))) h = absurd (omega arith)

  -- behind the gate stand as many records, the output among them
  gate_behind : (i behind : ℕ) → 3 ≤ i → i + behind ≡ gate_count x + 3 → (behind ≡ 0 → ⊥)
      → gate 0 (digit x (3 * behind + 1)) (digit x (3 * behind)) (digit x (3 * behind - 1)) ≡ record_at (network_of x) i
  unfolding network_of
  gate_behind zero b h e n = absurd (omega arith)
  gate_behind (suc zero) b h e n = absurd (omega arith)
  gate_behind (suc (suc zero)) b h e n = absurd (omega arith)
  gate_behind (suc (suc (suc j))) zero h e n = absurd (n refl)
  gate_behind (suc (suc (suc j))) (suc b) h e n =
      let first : 3 * suc b + 1 ≡ 3 * b + 4 = omega arith in
      let second : 3 * suc b ≡ 3 * b + 3 = omega arith in
      let third : 3 * suc b - 1 ≡ 3 * b + 2 = omega arith in
      rw (first, third, second)
      (sym (get_or-append (gates_of x (gate_count x)) (output (digit x 1) ∷ []) blank j (omega (arith, gates_length (gate_count x)))
      ∙ gate_at (gate_count x) j b (omega arith)))

  pub gate_record : (i n e1 e2 e3 : ℕ) → e1 ≡ digit x (3 * (n - 1 - i) + 1) → e2 ≡ digit x (3 * (n - 1 - i)) → e3 ≡ digit x (3 * (n - 1 - i) - 1)
      → n ≡ length (network_of x) → 3 ≤ i → (n - 1 - i ≡ 0 → ⊥) → gate 0 e1 e2 e3 ≡ record_at (network_of x) i
  gate_record i n e1 e2 e3 first second third whole low some =
      rw (first, second, third) (gate_behind i (n - 1 - i) low (omega (arith, network_length)) some)

  pub output_record_lem : (i : ℕ) → i ≡ gate_count x + 3 → output (digit x 1) ≡ record_at (network_of x) i
  unfolding network_of
  output_record_lem i e =
      let there : i ≡ suc (suc (suc (length (gates_of x (gate_count x)) + 0))) = omega (arith, gates_length (gate_count x)) in
      rw there (sym (get_or-append-add (gates_of x (gate_count x)) (output (digit x 1) ∷ []) 0 blank))

  pub output_record : (i n : ℕ) → n ≡ length (network_of x) → i < n → n - 1 - i ≡ 0 → output (digit x 1) ≡ record_at (network_of x) i
  output_record i n whole low last = output_record_lem i (omega (arith, whole, network_length))

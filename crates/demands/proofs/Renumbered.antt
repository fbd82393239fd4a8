-- A script of which one step is numbered 10: that step is another, and the others stay.
use Prim.Native.Nat.{ℕ, ◌+◌, ◌*◌, ◌/◌, ◌<◌}
use mathlib.Core.Path.{◌≡◌, refl}
use mathlib.Core.Bool.{Bool, true, false}
use mathlib.Core.List.{List}
use native.Mathlib.Omega.{arith}
use borrow.Author.Tests.{lt-ltb}
use lib.ListN.{length}
use Rattle.std.specs.Prelude.{if◌then◌else◌}
use Rattle.rules.specs.Step.{step_with}
use Rattle.tables.specs.Field.{put_field}
use Rattle.tables.specs.Bytes.{field_of}
use Rattle.tables.proofs.PutField.{bytes_length, field_same, field_other}
use Rattle.rewriting.specs.Script.{step_at}
use Rattle.demands.specs.Converted.{renumbered}

module _ (i : ℕ) (script : List ℕ) where
  abbrev ten : List ℕ
  ten = put_field script (4 * i) 10

  field_stays : (j d : ℕ) → (4 * j + d ≡ 4 * i → ⊥) → field_of ten j d ≡ field_of script j d
  unfolding field_of
  field_stays j d other = rw (bytes_length script (4 * i) 10 0, field_other script (4 * i) 10 0 (4 * j + d) other)

  -- every other step stays
  pub step_stays : (j : ℕ) → (j ≡ i → ⊥) → step_at ten j ≡ step_at script j
  step_stays j other =
      let p0 = field_stays j 0 (λ e. omega arith) in
      let p1 = field_stays j 1 (λ e. omega arith) in
      let p2 = field_stays j 2 (λ e. omega arith) in
      let p3 = field_stays j 3 (λ e. omega arith) in
      λ d. record { rule = p0 d; gate = p1 d; a = p2 d; b = p3 d }

  -- that one has the number 10, and its other fields
  number_ten : i < length script / 8 → field_of ten i 0 ≡ 10
  unfolding field_of
  number_ten h =
      let e : 4 * i + 0 ≡ 4 * i = omega arith in
      rw (bytes_length script (4 * i) 10 0, lt-ltb i (length script / 8) h, e) (field_same script (4 * i) 10 (omega arith))

  step_ten : i < length script / 8 → step_at ten i ≡ step_with 10 (step_at script i).gate (step_at script i).a (step_at script i).b
  step_ten h =
      let p0 = number_ten h in
      let p1 = field_stays i 1 (λ e. omega arith) in
      let p2 = field_stays i 2 (λ e. omega arith) in
      let p3 = field_stays i 3 (λ e. omega arith) in
      λ d. record { rule = p0 d; gate = p1 d; a = p2 d; b = p3 d }

  -- the same of a script in which it is numbered so, or stays
  pub renumbered_keeps : (P : List ℕ → Type 0) → P ten → P script → (t : Bool) → P (renumbered t i script)
  renumbered_keeps P p q true = p
  renumbered_keeps P p q false = q

  pub renumbered_step : i < length script / 8 → (t : Bool) → step_at (renumbered t i script) i ≡ (if t then step_with 10 (step_at script i).gate (step_at script i).a (step_at script i).b else step_at script i)
  renumbered_step h true = step_ten h
  renumbered_step h false = refl

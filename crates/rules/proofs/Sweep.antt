-- Rule 8, sweep: what stays is named by what stays, so closing up keeps the table, with no more gates than before.
use Prim.Native.Nat.{ℕ, zero, suc, ◌+◌, ◌-◌, ◌≤◌, ◌<◌}
use mathlib.Core.Path.{◌≡◌, refl, sym, ◌∙◌}
use mathlib.Core.Bool.{true}
use mathlib.Core.List.{List}
use native.Mathlib.Omega.{arith}
use native.Mathlib.Nat.{zero-add}
use native.Mathlib.Decide.{dec_lt}
use Rattle.majority.specs.Table.{record_at, WellFormed}
use Rattle.majority.specs.Node.{by_kind}
use Rattle.majority.specs.Level.{depth}
use Rattle.rules.specs.Sweep.{member, reached, stays, kept, sweep}
use Rattle.rules.specs.Kept.{closing_up, NodesKept}
use Rattle.majority.specs.declared.Record.{Record}
use Rattle.rules.proofs.KeptNodes.{kept_lower, kept_order, kept_all}
use Rattle.rules.proofs.CloseUp.{Keepable, closed_kept, closed_depth}
use Rattle.rules.proofs.Reached.{Names, gate_reached, output_reached}

-- a reached node stays, whatever its record
reached_stays : (rs : List Record) (k : ℕ) → member k (reached rs) ≡ true → stays rs k ≡ true
unfolding stays
reached_stays rs zero h = refl
reached_stays rs (suc j) h = rw h (go (record_at rs j).kind)
  where
    go : (k : ℕ) → by_kind k true true true true ≡ true
    go zero = refl
    go (suc zero) = refl
    go (suc (suc zero)) = refl
    go (suc (suc (suc k))) = refl

names_stay : (rs : List Record) (r : Record) → Names (λ k. member k (reached rs) ≡ true) r → Names (λ k. stays rs k ≡ true) r
names_stay rs r h = (reached_stays rs _ h.0, reached_stays rs _ h.1, reached_stays rs _ h.2)

constant_stays : (rs : List Record) → stays rs 0 ≡ true
unfolding stays
constant_stays rs = refl

-- how many gates the swept table has
unfoldable pub left : ℕ → ℕ → List Record → ℕ
left n m rs = kept (stays rs) 0 (n + m) - n

module _ {n m o : ℕ} {rs : List Record} (formed : WellFormed n m o rs) where
  pub input_stays : (j : ℕ) → j < n → stays rs (suc j) ≡ true
  unfolding stays
  input_stays j h = rw (formed.inputs j h)

  pub output_stays : (j : ℕ) → n + m ≤ j → j < n + m + o → stays rs (suc j) ≡ true
  unfolding stays
  output_stays j p q = rw (formed.outputs j p q).0

  -- a gate stays where it is reached
  pub gate_stays : (j : ℕ) → n ≤ j → j < n + m → stays rs (suc j) ≡ member (suc j) (reached rs)
  unfolding stays
  gate_stays j p q = rw (formed.gates j p q).0

  inputs_left : kept (stays rs) 0 n ≡ n
  inputs_left = omega (arith, rw (zero-add n) at (kept_all (stays rs) 0 n (λ t p q. input_stays t (omega arith))))

  pub left_fewer : left n m rs ≤ m
  unfolding left
  left_fewer = omega (arith, kept_lower (stays rs) (n + m))

  pub keepable : Keepable (stays rs) n m (left n m rs) o rs
  unfolding left
  keepable = record {
    formed = formed;
    inputs = input_stays;
    outputs = output_stays;
    named = λ j h s. go j h s (dec_lt j n) (dec_lt j (n + m));
    gates = omega (arith, inputs_left, kept_order (stays rs) n (n + m) (omega arith));
  }
    where
      go : (j : ℕ) → j < n + m + o → stays rs (suc j) ≡ true → Dec (j < n) → Dec (j < n + m) → Names (λ k. stays rs k ≡ true) (record_at rs j)
      go j h s (yes p) _ = rw (formed.inputs j p) (constant_stays rs, constant_stays rs, constant_stays rs)
      go j h s (no p) (yes q) = names_stay rs (record_at rs j) (gate_reached formed j (omega arith) q (sym (gate_stays j (omega arith) q) ∙ s))
      go j h s (no p) (no q) = names_stay rs (record_at rs j) (output_reached formed j (omega arith) h)

  pub sweep_kept : NodesKept 0 n m (left n m rs) o (closing_up (stays rs)) rs (sweep rs)
  unfolding sweep
  sweep_kept = closed_kept keepable

  pub sweep_depth : depth n (left n m rs) o (sweep rs) ≡ depth n m o rs
  unfolding sweep
  sweep_depth = closed_depth keepable

-- What a call that checks first knows of an accepted table, and what it replies.
use Prim.Native.Nat.{ℕ, ◌+◌, ◌*◌, ◌/◌}
use mathlib.Core.Path.{◌≡◌, refl, sym, ap}
use mathlib.Core.List.{List}
use native.Mathlib.Omega.{arith}
use Rattle.majority.specs.declared.Counts.{Counts}
use Rattle.majority.specs.declared.Record.{Record}
use Rattle.majority.proofs.Accepted.{acceptance}
use Rattle.tables.specs.Bytes.{table_of}
use Rattle.tables.specs.Calls.{check_of}
use Rattle.tables.specs.Sound.{Sound, table_in}
use Rattle.tables.proofs.Decoded.{length_table}
use Rattle.tables.proofs.Encoded.{accepted_records}
use Rattle.std.specs.Prelude.{Result, Ok, Err}
use Rattle.refusals.specs.declared.Refusal.{Refusal}
use Rattle.refusals.specs.Reply.{◌>>=◌}

-- the table that the counts say is that of n records, wherever the check accepts
pub same_table : {A : Type 0} (f : List Record → Counts → Result A Refusal) (xs : List ℕ) (n : ℕ) (r : Result Counts Refusal) → ((c : Counts) → r ≡ Ok c → table_of xs n ≡ table_in xs c)
    → ◌>>=◌ r (λ c. f (table_in xs c) c) ≡ ◌>>=◌ r (f (table_of xs n))
same_table f xs n (Ok c) same = ap (λ (rs : List Record). f rs c) (sym (same c refl))
same_table f xs n (Err w) same = refl

module _ (xs : List ℕ) (used : ℕ) where
  module _ (c : Counts) (is : check_of xs used ≡ Ok c) where
    -- the used length is that of the records which the counts say
    pub checked_length : used ≡ 8 * (c.inputs + c.gates + c.outputs)
    checked_length =
        let w = accepted_records xs used c is in
        let whole = (acceptance _ _ _ _ w.2).formed.whole in
        omega (arith, w.0, length_table xs (used / 8))

    pub checked_table : table_of xs (used / 8) ≡ table_in xs c
    checked_table = let e : used / 8 ≡ c.inputs + c.gates + c.outputs = omega (arith, checked_length) in rw e

    pub checked_sound : Sound xs c
    checked_sound =
        let w = accepted_records xs used c is in
        record { fits = omega (arith, checked_length, w.1); sound = rw checked_table at w.2 }

  -- a call that makes `f` of an accepted table makes it of the table that the counts say
  module _ {A : Type 0} (f : List Record → Counts → Result A Refusal) (r : Result Counts Refusal) (is : r ≡ check_of xs used) where
    pub after_check_lem : ◌>>=◌ r (λ c. f (table_in xs c) c) ≡ ◌>>=◌ (check_of xs used) (f (table_of xs (used / 8)))
    after_check_lem = rw is (same_table f xs (used / 8) (check_of xs used) checked_table)

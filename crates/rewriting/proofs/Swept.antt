-- A table that is closed up, with the records behind it cleared, is swept.
use Rattle.std.proofs.Common.{◌≡◌, ℕ, ◌+◌, ◌-◌, ◌/◌, ◌<◌, ◌≤◌, List, ◌++◌, length, replicate, sym, refl, ap, ◌∙◌, arith, length-append, get_or-append-add, ext_get_or, le-ltb}
use native.Mathlib.Decide.{dec_lt}
use lib.ListN.{length-replicate, get_or-replicate, get_or-append}
use Rattle.majority.specs.Table.{blank, record_at, WellFormed}
use Rattle.majority.specs.Check.{count}
use Rattle.rules.specs.Sweep.{sweep}
use Rattle.majority.specs.declared.Record.{Record}
use Rattle.majority.specs.declared.Counts.{Counts}
use Rattle.majority.proofs.Order.{order_counts}
use Rattle.majority.proofs.Accepted.{order_of}
use Rattle.rules.proofs.Sweep.{left, left_fewer, sweep_kept}
use Rattle.tables.specs.Bytes.{table_of, holding}
use Rattle.tables.specs.Sound.{Sound, table_in}
use Rattle.tables.proofs.Decoded.{length_table, table_at}
use Rattle.tables.proofs.Sound.{sound_accepted}
use Rattle.editing.specs.Edited.{changed_from, edited_from, cleared_from}
use Rattle.editing.proofs.Changed.{changed_length, changed_low, changed_high}
use Rattle.rewriting.specs.inner.ClosedUp.{new_number, Closed}
use Rattle.rewriting.specs.inner.Swept.{Swept}
use Rattle.rewriting.proofs.NewNumbers.{number_gates, number_outputs}

module _ {xs ys : List ℕ} {c : Counts} (sound : Sound xs c) (is : Closed xs c (c.inputs + c.gates + c.outputs) ys) (to : ℕ) (place : to ≡ new_number (table_in xs c) (c.inputs + c.gates)) where
  open c use {inputs as n, gates as m, outputs as o}

  abbrev t : List Record
  t = table_in xs c

  formed : WellFormed n m o t
  formed = (sound_accepted sound).formed

  formed_after : WellFormed n (left n m t) o (sweep t)
  formed_after = (sweep_kept formed).formed

  -- the outputs begin behind the inputs and the gates that are left
  pub outputs_begin : to ≡ n + left n m t
  outputs_begin = place ∙ number_gates formed

  gates_left : count 2 (sweep t) ≡ left n m t
  gates_left = (order_counts (sweep t) n (left n m t) o formed_after.whole (order_of _ _ _ _ formed_after)).1

  abbrev cleared : List Record
  cleared = changed_from (λ r. blank) (to + o) (table_of ys (n + m + o))

  abbrev wanted : List Record
  wanted = sweep t ++ replicate (m - (to - n)) blank

  inside : to + o ≤ n + m + o
  inside = omega (arith, outputs_begin, left_fewer formed)

  within : to + o ≤ length (table_of ys (n + m + o))
  within = omega (arith, inside, length_table ys (n + m + o))

  length_swept : length (sweep t) ≡ to + o
  length_swept = formed_after.whole ∙ omega (arith, outputs_begin)

  length_wanted : length wanted ≡ n + m + o
  length_wanted = length-append (sweep t) _ ∙ omega (arith, length_swept, length-replicate (m - (to - n)) blank, inside, outputs_begin)

  length_cleared : length cleared ≡ n + m + o
  length_cleared = changed_length (λ r. blank) (to + o) (table_of ys (n + m + o)) within ∙ length_table ys (n + m + o)

  -- record j of what is left
  cleared_at : (j : ℕ) → j < n + m + o → Dec (j < to + o) → record_at cleared j ≡ record_at wanted j
  cleared_at j h (yes l) =
      changed_low (λ r. blank) (to + o) (table_of ys (n + m + o)) within j l
      ∙ table_at ys (n + m + o) j h
      ∙ is.closed j (omega (arith, place, number_outputs formed o (omega arith)))
      ∙ sym (get_or-append (sweep t) _ blank j (omega (arith, length_swept)))
  cleared_at j h (no l) =
      let e : length (sweep t) + (j - (to + o)) ≡ j = omega (arith, length_swept) in
      changed_high (λ r. blank) (to + o) (table_of ys (n + m + o)) within j (omega arith) (omega (arith, length_table ys (n + m + o)))
      ∙ sym
      (ap (record_at wanted) (sym e)
      ∙ get_or-append-add (sweep t) _ (j - (to + o)) blank
      ∙ get_or-replicate (m - (to - n)) (j - (to + o)) blank blank (omega (arith, outputs_begin, inside)))

  cleared_table : cleared ≡ wanted
  cleared_table = ext_get_or blank cleared wanted (length_cleared ∙ sym length_wanted) (λ j h. let l : j < n + m + o = omega (arith, length_cleared) in cleared_at j l (dec_lt j (to + o)))

  cleared_bytes : cleared_from ys (to + o) (n + m + o) ≡ holding wanted xs
  unfolding edited_from holding
  cleared_bytes =
      let room : n + m + o ≤ length ys / 8 = omega (arith, sound.fits, is.long) in
      rw (le-ltb (length ys / 8) (n + m + o) room, le-ltb (n + m + o) (to + o) inside, cleared_table, length_wanted, is.rest) refl

  pub swept : {zs : List ℕ} → zs ≡ cleared_from ys (to + o) (n + m + o) → Swept xs c (to - n) zs
  swept e = record { left = sym (gates_left ∙ omega (arith, outputs_begin)); bytes = e ∙ cleared_bytes }

-- What a reply of `translate` tells its caller: the length fits the buffer and covers inputs and outputs, the bytes of that length hold the RM3 table, whose records have their blocks, and 25,344 bytes are room for any table.
use Prim.Native.Nat.{ℕ, ◌+◌, ◌*◌, ◌/◌, ◌≤◌}
use mathlib.Core.Path.{◌≡◌, sym, ap, ◌∙◌}
use mathlib.Core.List.{List}
use native.Mathlib.Omega.{arith}
use lib.ListN.{length}
use Rattle.translation.specs.Translate.{translation}
use Rattle.translation.specs.Block3.{Blocks3}
use Rattle.majority.specs.declared.Record.{Record}
use Rattle.majority.specs.declared.Counts.{Counts}
use Rattle.translation.specs.declared.Mode.{Mode}
use Rattle.translation.proofs.Rm3Blocks.{translated_blocks}
use Rattle.tables.specs.Bytes.{table_of}
use Rattle.tables.specs.Sound.{Table, table_in}
use Rattle.tables.specs.Calls.{check_of, checked_of}
use Rattle.tables.specs.Written.{in_bytes}
use Rattle.tables.proofs.Written.{apart, fits, written_length, written_table}
use Rattle.tables.proofs.AfterCheck.{checked_sound, checked_table}
use Rattle.tables.proofs.Sound.{sound_formed}
use Rattle.rm3.specs.Calls.{rm3_in, rm3_of, translate_of, translate_bytes}
use Rattle.rm3.proofs.FitsBuffer.{fitting_size, fitting_small}
use Rattle.std.specs.Prelude.{Result, Ok, Err}
use Rattle.refusals.specs.declared.Refusal.{Refusal}
use Rattle.refusals.specs.Reply.{◌>>=◌}

module _ (mode : Mode) (xs : List ℕ) (used room l : ℕ) (is : Ok l ≡ translate_of mode xs used room) where
  pub reply_fits : l ≤ room
  unfolding translate_of rm3_of
  reply_fits = go (checked_of xs used) (sym is)
    where
      go : (k : Result Table Refusal) → ◌>>=◌ (◌>>=◌ k (λ (t : Table). rm3_in mode room t.records t.counts)) in_bytes ≡ Ok l → l ≤ room
      go (Ok t) e = (written_length room l (translation mode t.counts.inputs t.counts.gates t.records) e).1
      go (Err w) e = absurd (apart e)

module _ (mode : Mode) (xs : List ℕ) (used room : ℕ) (c : Counts) (checked : check_of xs used ≡ Ok c) where
  abbrev ts : List Record
  ts = translation mode c.inputs c.gates (table_in xs c)

  of_accepted : rm3_of mode xs used room ≡ rm3_in mode room (table_in xs c) c
  unfolding rm3_of checked_of
  of_accepted = rw (checked, checked_table xs used c checked)

  -- the counts of the table are among the records of the reply's
  pub reply_counts : (l : ℕ) → Ok l ≡ translate_of mode xs used room → c.inputs + c.outputs ≤ l / 8
  unfolding translate_of
  reply_counts l is =
      let e = sym (is ∙ ap (λ (k : Result (List Record) Refusal). ◌>>=◌ k in_bytes) of_accepted) in
      omega (arith, (written_length room l ts e).0, fitting_size mode (table_in xs c) c (checked_sound xs used c checked).sound)

  -- 11 is never said of a buffer of 25,344 bytes
  pub room_enough : 25344 ≤ room → translate_of mode xs used room ≡ Ok (8 * length ts)
  unfolding translate_of
  room_enough h =
      let sound = (checked_sound xs used c checked).sound in
      rw (of_accepted, fits room ts (omega (arith, fitting_size mode (table_in xs c) c sound, fitting_small mode (table_in xs c) c sound)))

-- the records in the bytes that were written, up to the length replied, are the RM3 table
module _ (mode : Mode) (xs : List ℕ) (used : ℕ) (ys : List ℕ) (l : ℕ) (c : Counts) (checked : check_of xs used ≡ Ok c) (is : translate_of mode xs used (length ys) ≡ Ok l) where
  abbrev made : List Record
  made = translation mode c.inputs c.gates (table_of xs (used / 8))

  pub reply_table : table_of (translate_bytes mode xs used ys) (l / 8) ≡ made
  unfolding translate_of translate_bytes rm3_of checked_of
  reply_table = rw checked (written_table made ys l (rw checked at is))

  -- and so each of them has its block
  pub reply_blocks : Blocks3 mode c.inputs c.gates (table_of xs (used / 8)) (table_of (translate_bytes mode xs used ys) (l / 8))
  reply_blocks = rw (reply_table, checked_table xs used c checked) (translated_blocks (sound_formed (checked_sound xs used c checked)) mode)

-- What a call knows of an accepted table: its form, its limits, and the records that it reads.
use Prim.Native.Nat.{ℕ, ◌+◌, ◌/◌, ◌<◌}
use mathlib.Core.Path.{◌≡◌, sym, ◌∙◌, subst}
use mathlib.Core.List.{List}
use native.Mathlib.Omega.{arith}
use native.Mathlib.Decide.{dec_lt}
use lib.ListN.{length, get_or, replicate, length-replicate, get_or-replicate, get_or-eq_default}
use Rattle.majority.specs.Table.{record_at, Below, WellFormed, WithinLimits}
use Rattle.majority.specs.declared.Record.{Record}
use Rattle.majority.specs.declared.Counts.{Counts}
use Rattle.majority.proofs.Accepted.{Accepted, acceptance}
use Rattle.majority.proofs.Formed.{reads_nodes, below_more}
use Rattle.tables.specs.Sound.{Sound, table_in, Fresh}
use Rattle.tables.specs.Bytes.{record_in, table_of}
use Rattle.tables.proofs.Decoded.{table_at}

-- an array as it is made
pub fresh : {A : Type 0} (d : A) → Fresh d (replicate 1057 d)
fresh d = record { room = length-replicate 1057 d; all = λ k. go k (dec_lt k 1057) }
  where
    go : (k : ℕ) → Dec (k < 1057) → get_or (replicate 1057 d) k d ≡ d
    go k (yes h) = get_or-replicate 1057 k d d h
    go k (no h) = get_or-eq_default (replicate 1057 d) d {n = k} (let e = length-replicate 1057 d in omega arith)

module _ {xs : List ℕ} {c : Counts} (sound : Sound xs c) where
  abbrev table : List Record
  table = table_in xs c

  pub sound_accepted : Accepted c.inputs c.gates c.outputs table
  sound_accepted = acceptance _ _ _ table sound.sound

  pub sound_formed : WellFormed c.inputs c.gates c.outputs table
  sound_formed = sound_accepted.formed

  -- the table's record, as it stands in the bytes and as `record_at` reads it
  pub sound_record : (i : ℕ) → i < c.inputs + c.gates + c.outputs → record_at table i ≡ record_in xs i
  sound_record i h = table_at xs _ i h

  pub read_record : (i : ℕ) → i < c.inputs + c.gates + c.outputs → record_at (table_of xs (length xs / 8)) i ≡ record_at table i
  read_record i h = table_at xs (length xs / 8) i (omega (arith, sound.fits)) ∙ sym (sound_record i h)

  -- its edges name nodes that a table has room for
  pub sound_below : (i : ℕ) → i < c.inputs + c.gates + c.outputs → Below 1057 (record_in xs i)
  sound_below i h =
      let formed = sound_formed in
      let limits = sound_accepted.limits in
      subst (Below 1057) (sound_record i h) (below_more _ _ _ (omega arith) (reads_nodes formed i (omega (arith, formed.whole))))

  pub sound_limits : WithinLimits c.inputs c.gates c.outputs
  sound_limits = sound_accepted.limits

-- Setting levels one after another: a turn more, and that on an accepted table the array then holds them.
use Rattle.std.proofs.Common.{◌≡◌, ℕ, zero, suc, ◌+◌, ◌-◌, ◌<◌, ◌≤◌, List, set, ap, ◌∙◌, arith, le-ltb}
use Rattle.majority.specs.Table.{record_at}
use Rattle.majority.specs.Level.{levels}
use Rattle.majority.specs.declared.Record.{Record}
use Rattle.majority.specs.declared.Counts.{Counts}
use Rattle.tables.specs.Bytes.{records_of}
use Rattle.tables.specs.Sound.{Sound, table_in, Fresh}
use Rattle.tables.proofs.Sound.{sound_formed, sound_limits, read_record}
use Rattle.questions.specs.Levelled.{gate_level, levelled_by, levelled}
use Rattle.questions.specs.inner.Worths.{Holds}
use Rattle.questions.proofs.Worths.{holds_more, gate_level_lem, levels_begin}

module _ (rs : List Record) (i n : ℕ) (ls : List ℕ) where
  abbrev next : List ℕ
  next = set ls (i + 1) (gate_level ls (record_at rs i))

  pub levelled_next : i < n → levelled_by rs (i + 1) (n - (i + 1)) next ≡ levelled_by rs i (n - i) ls
  unfolding levelled_by
  levelled_next h =
      let left : n - i ≡ suc (n - (i + 1)) = omega arith in
      let up : i + 1 ≡ suc i = omega arith in
      rw (left, up)

  pub levelled_end : n ≤ i → levelled_by rs i (n - i) ls ≡ ls
  unfolding levelled_by
  levelled_end h = let none : n - i ≡ 0 = omega arith in rw none

module _ {xs : List ℕ} {c : Counts} (sound : Sound xs c) where
  abbrev table : List Record
  table = table_in xs c

  abbrev nodes : ℕ
  nodes = c.inputs + c.gates

  -- one gate more
  more : (i : ℕ) {ls : List ℕ} → c.inputs ≤ i → i < nodes → Holds levels table i ls → Holds levels table (suc i) (set ls (suc i) (gate_level ls (record_at (records_of xs) i)))
  more i {ls} p q holds =
      let limits = sound_limits sound in
      let up : i + 1 ≡ suc i = omega arith in
      rw up at (holds_more levels (gate_level ls (record_at (records_of xs) i)) (omega arith) (ap (gate_level ls) (read_record sound i (omega arith)) ∙ gate_level_lem (sound_formed sound) (sound_limits sound) i p q holds) holds)

  -- k gates more
  levels_set : (k i : ℕ) {ls : List ℕ} → c.inputs ≤ i → i + k ≤ nodes → Holds levels table i ls → Holds levels table (i + k) (levelled_by (records_of xs) i k ls)
  unfolding levelled_by
  levels_set zero i p q holds = let e : i + 0 ≡ i = omega arith in rw e holds
  levels_set (suc k) i p q holds =
      let e : i + suc k ≡ suc i + k = omega arith in
      rw e (levels_set k (suc i) (omega arith) (omega arith) (more i p (omega arith) holds))

  -- the levels of the nodes up to b, worked out in an array of zeros
  pub levels_upto : {ls : List ℕ} → Fresh 0 ls → (b : ℕ) → b ≤ nodes → Holds levels table (c.inputs + (b - c.inputs)) (levelled (records_of xs) c.inputs b ls)
  levels_upto fresh b h =
      let limits = sound_limits sound in
      rw (le-ltb 1056 b (omega arith)) (levels_set (b - c.inputs) c.inputs (omega arith) (omega arith) (levels_begin (sound_formed sound) fresh))

  -- and those of all nodes
  pub levels_all : {ls : List ℕ} → Fresh 0 ls → Holds levels table nodes (levelled (records_of xs) c.inputs nodes ls)
  levels_all fresh = let all : c.inputs + (nodes - c.inputs) ≡ nodes = omega arith in rw all at (levels_upto fresh nodes (omega arith))

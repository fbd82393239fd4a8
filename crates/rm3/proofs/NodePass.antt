-- The pass that writes inputs and gates: what it has done so far, from record to record.
use Prim.Native.Nat.{ℕ, suc, ◌+◌, ◌≤◌, ◌<◌}
use mathlib.Core.Path.{◌≡◌, refl, sym, ap, ◌∙◌}
use mathlib.Core.List.{List, []}
use native.Mathlib.Omega.{arith}
use lib.ListN.{length, take, set, length-set}
use lib.Seq.{take-suc, take-suc-set}
use Rattle.majority.specs.Table.{input, record_at, WellFormed, WithinLimits}
use Rattle.majority.specs.Node.{by_kind}
use Rattle.majority.specs.declared.Record.{Record}
use Rattle.majority.specs.declared.Counts.{Counts}
use Rattle.majority.specs.Check.{check_records}
use Rattle.majority.proofs.Accepted.{acceptance}
use Rattle.std.specs.Prelude.{Ok}
use Rattle.translation.specs.declared.Mode.{Mode}
use Rattle.majority.proofs.Formed.{reads_lower}
use Rattle.translation.specs.Translate.{Draft, more, start, after}
use Rattle.translation.proofs.Rm3Nodes.{named}
use Rattle.translation.proofs.Rm3Size.{translated_size}
use Rattle.tables.specs.Sound.{Fresh}
use Rattle.rm3.specs.inner.Laid.{Writes, operands_in, Gone}
use Rattle.rm3.proofs.EdgeOperands.{gate_front}
use Rattle.rm3.proofs.TablePass.{turned_start, turned_more, turned_table, begins_size}

pub gone_start : {mode : Mode} {c : Counts} {rs : List Record} {ys operands hs : List ℕ} → Fresh 0 operands → Fresh 0 hs → Gone mode c rs ys 0 0 operands hs ys
gone_start {mode} {c} {rs} {ys} {operands} {hs} fresh none = record {
  draft = start;
  drafted = record { here = refl; room = none.room; helpers = none.all };
  room = fresh.room;
  turned = rw (take-suc operands 0 0 (omega (arith, fresh.room)), fresh.all 0) (turned_start mode c.inputs c.gates rs);
  size = refl;
  laid = λ room. record { size = refl; table = λ i h. absurd (omega arith); outputs = λ i h. absurd (omega arith); rest = refl };
}

-- the bytes so far taken for those at first
pub gone_from_here : {mode : Mode} {c : Counts} {rs : List Record} {ys operands hs xs : List ℕ} {i at : ℕ} → Gone mode c rs ys i at operands hs xs → Gone mode c rs xs i at operands hs xs
gone_from_here so = record {
  draft = so.draft;
  drafted = so.drafted;
  room = so.room;
  turned = so.turned;
  size = refl;
  laid = λ room. let laid = so.laid (omega (arith, so.size)) in record { size = refl; table = laid.table; outputs = laid.outputs; rest = refl };
}

module _ (mode : Mode) (rs : List Record) (c : Counts) (sound : check_records rs ≡ Ok c) where
  abbrev formed : WellFormed c.inputs c.gates c.outputs rs
  formed = (acceptance _ _ _ rs sound).formed

  abbrev within : WithinLimits c.inputs c.gates c.outputs
  within = (acceptance _ _ _ rs sound).limits

  -- of the operands, only those of lower nodes count
  after_front : (operands : List ℕ) (d : Draft) (i : ℕ) → i < c.inputs + c.gates → after mode (take (suc i) operands) d (record_at rs i) ≡ after mode operands d (record_at rs i)
  after_front operands d i h =
      ap (λ (g : Draft). by_kind (record_at rs i).kind (more d input) g d d)
      (gate_front mode operands (suc i) (record_at rs i) d (reads_lower formed i (omega (arith, formed.whole))))

  -- no table so far is long
  pub table_small : (k : ℕ) → k ≤ operands_in mode rs c → k ≤ 3136
  table_small k h = let limits = within in omega (arith, translated_size formed mode)

  pub gone_small : {ys operands hs xs : List ℕ} {i at : ℕ} → Gone mode c rs ys i at operands hs xs → at ≤ 3136
  gone_small so = omega (arith, so.drafted.here, table_small _ (begins_size mode formed (turned_table mode formed so.turned)))

  gone_next : {ys operands hs hs' xs xs' : List ℕ} {i at next : ℕ} (r : Record) → r ≡ record_at rs i → i < c.inputs + c.gates → length xs' ≡ length xs
      → Writes (λ d. after mode operands d r) at next hs hs' xs xs' → Gone mode c rs ys i at operands hs xs → Gone mode c rs ys (i + 1) next (set operands (i + 1) (next + 1)) hs' xs'
  gone_next {ys} {operands} {hs} {hs'} {xs} {xs'} {i} {at} {next} r is h size writes so =
      let limits = within in
      let draft = after mode operands so.draft r in
      let drafted = writes.drafts so.draft so.drafted in
      let one : i + 1 ≡ suc i = omega arith in
      let turned = turned_more mode formed draft h (after_front operands so.draft i h ∙ ap (after mode operands so.draft) (sym is)) so.turned in
      let front : take (suc (i + 1)) (set operands (i + 1) (next + 1)) ≡ named (take (suc i) operands) draft =
      take-suc-set operands (i + 1) (next + 1) (omega (arith, so.room)) ∙ rw (one, drafted.here)
      in
      let within = begins_size mode formed (turned_table mode formed turned) in
      record {
        draft = draft;
        drafted = drafted;
        room = length-set operands (i + 1) (next + 1) ∙ so.room;
        turned = rw (front, one) turned;
        size = size ∙ so.size;
        laid = λ room. (writes.grows so.draft so.drafted).laid ys (operands_in mode rs c) [] within (omega arith) (so.laid room);
      }

  -- one record more, put by a writer that goes on
  pub gone_more : {now : Mode} {ys operands operands' hs hs' xs xs' : List ℕ} {i at next : ℕ} (r : Record) → now ≡ mode → operands' ≡ operands
      → r ≡ record_at rs i → i < c.inputs + c.gates → length xs' ≡ length xs → Writes (λ d. after now operands d r) at next hs hs' xs xs'
      → Gone mode c rs ys i at operands hs xs → Gone mode c rs ys (i + 1) next (set operands' (i + 1) (next + 1)) hs' xs'
  gone_more r is same here h size writes so = rw same (gone_next r here h size (rw is at writes) so)

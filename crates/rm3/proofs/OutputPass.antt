-- The pass that gives outputs their operands: what it has done so far, from output to output, and the whole table when the outputs follow.
use Prim.Native.Nat.{ℕ, suc, ◌+◌, ◌*◌, ◌≤◌, ◌<◌}
use mathlib.Core.Path.{◌≡◌, sym, ap, ◌∙◌}
use mathlib.Core.Bool.{false}
use mathlib.Core.List.{List, [], ◌∷◌, ◌++◌}
use native.Mathlib.Omega.{arith}
use lib.ListN.{length, get_or, take, set, length-set}
use lib.Seq.{take_all, length-take-le, get_or-take, get_or-set_same, get_or-set_other}
use Rattle.majority.specs.Table.{blank, output, record_at, WellFormed, WithinLimits}
use Rattle.translation.specs.Translate.{place, Outputs3, parts3, translation}
use Rattle.majority.specs.declared.Record.{Record}
use Rattle.majority.specs.declared.Counts.{Counts}
use Rattle.majority.specs.Check.{check_records}
use Rattle.majority.proofs.Accepted.{acceptance}
use Rattle.std.specs.Prelude.{Ok}
use Rattle.translation.specs.declared.Mode.{Mode}
use Rattle.majority.proofs.Formed.{reads_nodes}
use Rattle.translation.proofs.Begins.{all_more, length_more}
use Rattle.translation.proofs.Rm3Formed.{translated}
use Rattle.tables.specs.Bytes.{holding}
use Rattle.tables.proofs.Encoded.{Bytes}
use Rattle.rm3.specs.inner.Laid.{Places, operands_in, Gone, Naming, Put, outputs_put}
use Rattle.rm3.proofs.EdgeOperands.{place_front}
use Rattle.rm3.proofs.TableLaid.{laid_outputs, laid_whole}
use Rattle.rm3.proofs.TablePass.{turned_end, named_more, named_table, named_end, begins_size}
use Rattle.rm3.proofs.NodePass.{table_small}

module _ (mode : Mode) (rs : List Record) (c : Counts) (sound : check_records rs ≡ Ok c) where
  abbrev formed : WellFormed c.inputs c.gates c.outputs rs
  formed = (acceptance _ _ _ rs sound).formed

  abbrev within : WithinLimits c.inputs c.gates c.outputs
  within = (acceptance _ _ _ rs sound).limits

  pub naming_start : {ys operands hs named xs : List ℕ} {at : ℕ} → length named ≡ 32 → Gone mode c rs ys (c.inputs + c.gates) at operands hs xs → Naming mode c rs ys 0 at operands hs named xs
  naming_start room so = record {
    draft = so.draft;
    outputs = [];
    drafted = so.drafted;
    room = room;
    turned = turned_end mode formed so.turned;
    names = λ i h. absurd (omega arith);
    size = so.size;
    laid = so.laid;
  }

  pub naming_small : {ys operands hs named xs : List ℕ} {j at : ℕ} → Naming mode c rs ys j at operands hs named xs → at ≤ 3136
  naming_small so = omega (arith, so.drafted.here, table_small mode rs c sound _ (begins_size mode formed (named_table mode formed so.turned)))

  naming_next : {ys operands hs hs' named xs xs' : List ℕ} {j at x next : ℕ} (e : ℕ) → e ≡ (record_at rs (c.inputs + c.gates + j)).e1 → j < c.outputs → length xs' ≡ length xs
      → Places (place mode 0 false operands e) at x next hs hs' xs xs' → Naming mode c rs ys j at operands hs named xs
      → Naming mode c rs ys (j + 1) next operands hs' (set named j x) xs'
  naming_next {ys} {operands} {hs} {hs'} {named} {xs} {xs'} {j} {at} {x} {next} e is h size places so =
      let limits = within in
      let d = so.draft in
      let os = so.outputs in
      let one : j + 1 ≡ suc j = omega arith in
      let low = (reads_nodes formed (c.inputs + c.gates + j) (omega (arith, formed.whole))).first in
      let same : place mode 0 false (take (suc (c.inputs + c.gates)) operands) (record_at rs (c.inputs + c.gates + j)).e1 d ≡ place mode 0 false operands e d =
      place_front mode 0 false operands (record_at rs (c.inputs + c.gates + j)).e1 (suc (c.inputs + c.gates)) low d ∙ rw (← is)
      in
      let p = place mode 0 false operands e d in
      let turned = rw same at (named_more mode formed h so.turned) in
      let within = begins_size mode formed (named_table mode formed turned) in
      let inside : j < length named = omega (arith, so.room) in
      let this : output p.operand ≡ output (get_or (set named j x) j 0) = rw (get_or-set_same named j x 0 inside, places.operand d so.drafted) in
      let all = all_more {d = blank} {P = λ i r. r ≡ output (get_or (set named j x) i 0)} {xs = os} (output p.operand)
      (record { each = λ i l. so.names i (omega (arith, so.turned.count)) ∙ rw (get_or-set_other named j i x 0 (omega (arith, so.turned.count))) })
      (rw so.turned.count this)
      in
      record {
        draft = p.draft;
        outputs = os ++ output p.operand ∷ [];
        drafted = places.writes.drafts d so.drafted;
        room = length-set named j x ∙ so.room;
        turned = rw one turned;
        names = λ i l. all.each i (omega (arith, length_more os (output p.operand), so.turned.count));
        size = size ∙ so.size;
        laid = λ room. (places.writes.grows d so.drafted).laid ys (operands_in mode rs c) [] within (omega arith) (so.laid room);
      }

  -- one output more, named by a writer that goes on
  pub naming_more : {now : Mode} {ys operands operands' hs hs' named xs xs' : List ℕ} {j at x next : ℕ} (e : ℕ) → now ≡ mode → operands' ≡ operands
      → e ≡ (record_at rs (c.inputs + c.gates + j)).e1 → j < c.outputs → length xs' ≡ length xs → Places (place now 0 false operands e) at x next hs hs' xs xs'
      → Naming mode c rs ys j at operands hs named xs → Naming mode c rs ys (j + 1) next operands' hs' (set named j x) xs'
  naming_more e is same here h size places so = rw same (naming_next e here h size (rw is at places) so)

  -- all outputs have their operands
  pub naming_end : {ys operands hs named xs : List ℕ} {j at : ℕ} → j ≡ c.outputs → Naming mode c rs ys j at operands hs named xs → Put mode c rs ys at named xs
  naming_end {j} is so =
      let done = named_end mode formed (rw is at so.turned) in
      record {
        count = sym so.drafted.here ∙ ap (λ (p : Outputs3). length p.draft.table) (sym done) ∙ (translated formed mode).size;
        names = rw (done, ← is) so.names;
        size = so.size;
        laid = λ room. rw done (so.laid room);
      }

  -- the operands of the outputs, of the places that there are for them
  pub given_length : (named given : List ℕ) → length named ≡ 32 → given ≡ take c.outputs named → length given ≡ c.outputs
  given_length named given room is = let limits = within in rw is (length-take-le c.outputs named (omega arith))

  -- the bytes xs' of the whole table, where its inputs and operations were put to ys, and then its outputs
  pub put_holding : {ys named given xs xs' : List ℕ} {first : ℕ} → Put mode c rs ys first named xs → length named ≡ 32 → given ≡ take c.outputs named
      → xs' ≡ outputs_put given first (length given) xs → Bytes xs' → 8 * (operands_in mode rs c + c.outputs) ≤ length ys → xs' ≡ holding (translation mode c.inputs c.gates rs) ys
  unfolding translation holding
  put_holding {ys} {named} {given} {xs} {xs'} {first} so size taken is bytes room =
      let parts = parts3 mode c.inputs c.gates rs in
      let t = translated formed mode in
      let names : (j : ℕ) → j < c.outputs → record_at parts.outputs j ≡ output (get_or given j 0) = λ j h. so.names j h ∙ rw (taken, get_or-take c.outputs named j 0 h) in
      let laid = laid_outputs given parts.outputs (omega (arith, t.size)) (omega (arith, t.written)) (so.laid (omega arith)) c.outputs (omega (arith, t.written)) names in
      let all : take c.outputs parts.outputs ≡ parts.outputs = take_all c.outputs parts.outputs (omega (arith, t.written)) in
      laid_whole bytes (t.size ∙ sym so.count) (omega (arith, t.written, so.count)) (rw (all, ← so.count, ← given_length named given size taken, ← is) at laid)

-- the bytes were ys before the nodes were put, and xs after them
pub put_then : {mode : Mode} {c : Counts} {rs : List Record} {ys operands hs named xs xs' : List ℕ} {i at first : ℕ}
    → Gone mode c rs ys i at operands hs xs → Put mode c rs xs first named xs' → Put mode c rs ys first named xs'
put_then gone so = record {
  count = so.count;
  names = so.names;
  size = so.size ∙ gone.size;
  laid = λ room.
      let before = gone.laid room in
      let laid = so.laid (omega (arith, gone.size)) in
      record { size = laid.size ∙ before.size; table = laid.table; outputs = laid.outputs; rest = laid.rest ∙ before.rest };
}

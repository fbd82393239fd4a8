-- What the calls of a rule leave in the buffer: the table that the rule makes, and the rest as it was.
use Rattle.std.proofs.Common.{◌≡◌, ℕ, ◌+◌, ◌-◌, ◌*◌, ◌/◌, ◌≤◌, List, length, set, ap, ◌∙◌, arith, length-set, le-ltb}
use lib.ListN.{length-map}
use Rattle.majority.specs.Edge.{redirect}
use Rattle.majority.specs.Edit.{edges, redirect_all, insert, become}
use Rattle.majority.specs.declared.Record.{Record}
use Rattle.majority.specs.declared.Counts.{Counts}
use Rattle.rules.proofs.Insert.{insert_length}
use Rattle.tables.specs.Bytes.{put_record, holding}
use Rattle.tables.specs.Sound.{table_in}
use Rattle.tables.proofs.Encoded.{Bytes}
use Rattle.editing.specs.Edited.{edited_from, redirected_from, no_room_of, inserted_at}
use Rattle.editing.proofs.Holds.{Holds, holds_start, holds_put, holds_bytes, holding_holds}
use Rattle.rewriting.specs.inner.Fitting.{AtGate, Room}
use Rattle.rewriting.proofs.Gate.{at_formed, at_length, at_small}
use Rattle.rewriting.proofs.Edits.{redirect_edit, insert_edit}

-- a record put where a table stands
pub then_put : {xs ys zs : List ℕ} (t : List Record) (g : ℕ) (r : Record) → 8 * length t ≤ length xs → 1 ≤ g → g ≤ length t → Holds xs t ys → zs ≡ put_record ys (g - 1) r → Bytes zs
    → zs ≡ holding (become g r t) xs
unfolding become
then_put {zs = zs} t g r fits some upto holds put bytes =
    let len = length-set t (g - 1) r in
    holds_bytes (set t (g - 1) r) (omega (arith, len)) bytes (rw put (holds_put t (g - 1) r fits (omega arith) holds))

module _ {xs : List ℕ} {c : Counts} {g : ℕ} (at : AtGate xs c g) where
  abbrev table : List Record
  table = table_in xs c

  abbrev records : ℕ
  records = c.inputs + c.gates + c.outputs

  pub table_fits : 8 * length table ≤ length xs
  table_fits = omega (arith, at_length at, at.sound.fits)

  pub table_holds : Holds xs table xs
  table_holds = holds_start records

  -- a gate becomes another
  pub put_holding : {ys : List ℕ} (r : Record) → ys ≡ put_record xs (g - 1) r → Bytes ys → ys ≡ holding (become g r table) xs
  put_holding r put bytes = then_put table g r table_fits (omega (arith, at.from)) (omega (arith, at.upto, at_length at)) table_holds put bytes

  -- it is redirected
  pub redirect_holding : (e : ℕ) → redirected_from xs g records g e ≡ holding (redirect_all g e table) xs
  unfolding edited_from
  redirect_holding e =
      let room : records ≤ length xs / 8 = omega (arith, at.sound.fits) in
      let inside : g ≤ records = omega (arith, at.upto) in
      rw (le-ltb (length xs / 8) records room, le-ltb records g inside, redirect_edit (at_formed at) (omega (arith, at.from)) at.upto e)

  -- gates come before it
  module _ (news : List Record) (few : length news ≤ 1024) (room : Room (length news) xs c) where
    insert_holding : inserted_at xs records g news ≡ holding (insert g news table) xs
    unfolding inserted_at no_room_of
    insert_holding =
        let some : 1 ≤ g = omega (arith, at.from) in
        let space : records + length news ≤ length xs / 8 = omega arith in
        let inside : g - 1 ≤ records = omega (arith, at.upto) in
        rw (
          le-ltb g 1 some,
          le-ltb (length xs / 8) (records + length news) space,
          le-ltb records (g - 1) inside,
          insert_edit (at_formed at) some at.upto news (omega (arith, at_small at)),
        )

    inserted_length : length (insert g news table) ≡ records + length news
    inserted_length = let e = insert_length g news table (omega (arith, at.from)) (omega (arith, at.upto, at_length at)) in omega (arith, at_length at)

    -- and g becomes another
    pub insert_then_put : {ys zs : List ℕ} (i : ℕ) (r : Record) → i ≡ g + length news - 1 → ys ≡ inserted_at xs records g news → zs ≡ put_record ys i r → Bytes zs
        → zs ≡ holding (become (g + length news) r (insert g news table)) xs
    insert_then_put {ys} i r place first put bytes =
        let len = inserted_length in
        then_put (insert g news table) (g + length news) r (omega arith) (omega (arith, at.from)) (omega (arith, at.upto))
        (rw (first ∙ insert_holding) (holding_holds (insert g news table) xs (omega arith)))
        (put ∙ ap (λ (k : ℕ). put_record ys k r) place)
        bytes

  -- it is redirected, and becomes another
  pub redirect_then_put : {ys zs : List ℕ} (e : ℕ) (r : Record) → ys ≡ holding (redirect_all g e table) xs → zs ≡ put_record ys (g - 1) r → Bytes zs
      → zs ≡ holding (become g r (redirect_all g e table)) xs
  unfolding redirect_all
  redirect_then_put e r first put bytes =
      let len = length-map table (edges (redirect g e)) in
      then_put (redirect_all g e table) g r (omega (arith, table_fits)) (omega (arith, at.from)) (omega (arith, at.upto, at_length at))
      (rw first (holding_holds (redirect_all g e table) xs (omega (arith, table_fits))))
      put
      bytes

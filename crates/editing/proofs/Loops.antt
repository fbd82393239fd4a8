-- The loops that edit records: each record from the first on in its place, or from the last down moved up.
use Rattle.std.proofs.Common.{◌≡◌, ℕ, ◌+◌, ◌-◌, ◌*◌, ◌/◌, ◌<◌, ◌≤◌, true, false, ◌||◌, ltb, List, length, get_or, Fits, w8, sym, ap, ◌∙◌, arith, ltb-false}
use native.Mathlib.Decide.{dec_lt}
use Rattle.majority.specs.Table.{record_at}
use Rattle.majority.specs.Edit.{edges}
use Rattle.majority.specs.declared.Record.{Record}
use Rattle.majority.proofs.Logic.{neither}
use Rattle.tables.specs.Bytes.{record_in, decode, table_of, records_of, put_record}
use Rattle.tables.proofs.Decoded.{length_decode, decode_at, length_table, table_at}
use Rattle.tables.proofs.Encoded.{Bytes}
use Rattle.tables.proofs.HoldsFirst.{HoldsFirst, mixed, mixed_low, mixed_high, first_same, first_up, first_down, first_kept, first_holding}
use Rattle.editing.specs.Edited.{changed_from, edited_from, raise16, grown, no_room_of, inserted_at, room_at}
use Rattle.editing.proofs.Changed.{changed_length, changed_low, changed_high, grown_length, grown_low, grown_new, grown_high}

-- a record that the code reads, where the buffer has it
pub read : (ys : List ℕ) (i : ℕ) → 8 * i + 8 ≤ length ys → record_at (table_of ys (length ys / 8)) i ≡ record_in ys i
read ys i h = table_at ys (length ys / 8) i (omega arith)

module _ (f : Record → Record) (xs : List ℕ) (first n : ℕ) where
  abbrev table : List Record
  table = table_of xs n

  abbrev edited : List Record
  edited = changed_from f first table

  -- the records below i are edited, and those from i on as they were
  pub record Editing (i : ℕ) (ys : List ℕ) : Type 0 where
    pub bytes : Bytes ys
    pub held : HoldsFirst xs n (mixed i (record_at edited) (record_at table)) ys

  -- the test that an edit begins with
  module _ (room : (ltb (length xs / 8) n || ltb n first) ≡ false) where
    fits : 8 * n ≤ length xs
    fits = let h = ltb-false _ _ (neither (ltb (length xs / 8) n) (ltb n first) room).0 in omega arith

    within : first ≤ length table
    within = let h = ltb-false _ _ (neither (ltb (length xs / 8) n) (ltb n first) room).1 in omega (arith, length_table xs n)

    pub edit_start : ((k : ℕ) → Fits w8 (get_or xs k 0)) → Editing first xs
    edit_start known = record { bytes = λ k. (known k).fits; held = first_same xs n _ (λ j h. go j h (dec_lt j first)) }
      where
        go : (j : ℕ) → j < n → Dec (j < first) → record_in xs j ≡ mixed first (record_at edited) (record_at table) j
        go j h (yes l) = sym (mixed_low first _ _ j l ∙ changed_low f first table within j l ∙ table_at xs n j h)
        go j h (no l) = sym (mixed_high first _ _ j (omega arith) ∙ table_at xs n j h)

    becomes : (ys : List ℕ) (i : ℕ) → first ≤ i → i < n → Editing i ys → f (record_at (records_of ys) i) ≡ record_at edited i
    becomes ys i l h s =
        ap f (read ys i (omega (arith, s.held.long, fits)) ∙ s.held.records i h ∙ mixed_high i _ _ i (omega arith))
        ∙ sym (changed_high f first table within i l (omega (arith, length_table xs n)))

    pub edit_next : {ys zs : List ℕ} (i : ℕ) (r : Record) → first ≤ i → i < n → r ≡ f (record_at (records_of ys) i) → zs ≡ put_record ys i r → ((k : ℕ) → Fits w8 (get_or zs k 0)) → Editing i ys → Editing (i + 1) zs
    edit_next {ys} i r l h e put known s =
        record { bytes = λ k. (known k).fits; held = rw put (first_up fits (record_at edited) (record_at table) i r h (e ∙ becomes ys i l h s) s.held) }

    -- a record that the edit does not change may stay as it is
    pub edit_skip : {ys : List ℕ} (i : ℕ) → first ≤ i → i < n → f (record_at (records_of ys) i) ≡ record_at (records_of ys) i → Editing i ys → Editing (i + 1) ys
    edit_skip {ys} i l h e s =
        record { bytes = s.bytes; held = first_kept fits (record_at edited) (record_at table) i (sym (read ys i (omega (arith, s.held.long, fits))) ∙ sym e ∙ becomes ys i l h s) s.held }

    pub edit_end : {ys : List ℕ} (i : ℕ) → n ≤ i → Editing i ys → ys ≡ edited_from f xs first n
    unfolding edited_from
    edit_end i h s =
        rw room (first_holding fits edited (changed_length f first table within ∙ length_table xs n) (λ j l. mixed_low i _ _ j (omega arith)) s.bytes s.held)

-- there is a place, and room
pub has_room : (all n g k : ℕ) → no_room_of all n g k ≡ false → (1 ≤ g) × (n + k ≤ all) × (g - 1 ≤ n)
unfolding no_room_of
has_room all n g k e =
    let w = neither (ltb g 1 || ltb all (n + k)) (ltb n (g - 1)) e in
    let v = neither (ltb g 1) (ltb all (n + k)) w.0 in
    (ltb-false _ _ v.0, ltb-false _ _ v.1, ltb-false _ _ w.1)

-- room is made for k gates directly before node g, among n records
module _ (xs : List ℕ) (n g k : ℕ) where
  -- what stands in the places of the gates
  abbrev standing : List Record
  standing = decode xs (g - 1) k

  abbrev roomy : List Record
  roomy = grown g standing (table_of xs n)

  -- the records from i on are moved up, and those below as they were
  abbrev pub Moving : ℕ → List ℕ → Type 0
  Moving i ys = HoldsFirst xs (n + k) (mixed (i + k) (record_in xs) (record_at roomy)) ys

  pub move_start : (i : ℕ) → i ≡ n → Moving i xs
  move_start i e = rw e (first_same xs (n + k) _ (λ j h. sym (mixed_low (n + k) _ _ j h)))

  as_many : length standing ≡ k
  as_many = length_decode xs k (g - 1)

  -- where there is no room, nothing moves
  pub no_move : no_room_of (length xs / 8) n g k ≡ true → xs ≡ room_at xs n g k
  unfolding inserted_at
  no_move none = rw (as_many, none)

  module _ (room : no_room_of (length xs / 8) n g k ≡ false) where
    move_fits : 8 * (n + k) ≤ length xs
    move_fits = let r = has_room (length xs / 8) n g k room in omega arith

    inside : g - 1 ≤ length (table_of xs n)
    inside = let r = has_room (length xs / 8) n g k room in omega (arith, length_table xs n)

    -- a record that moves
    moves : (i : ℕ) → g - 1 ≤ i → i < n → edges (raise16 g k) (record_in xs i) ≡ record_at roomy (i + k)
    moves i l h =
        ap (edges (raise16 g k)) (sym (table_at xs n i h))
        ∙ sym (rw as_many at (grown_high g standing (table_of xs n) inside i l (omega (arith, length_table xs n))))

    pub move_next : {ys zs : List ℕ} (i next : ℕ) → g - 1 ≤ i → i < n → next ≡ i + 1 → zs ≡ put_record ys (i + k) (edges (raise16 g k) (record_at (records_of ys) i))
        → Moving next ys → Moving i zs
    move_next {ys} i next l h e put s =
        let same = read ys i (omega (arith, s.long, move_fits)) ∙ s.records i (omega arith) ∙ mixed_low (next + k) _ _ i (omega arith) in
        let place : next + k ≡ i + k + 1 = omega arith in
        rw put (first_down move_fits (record_in xs) (record_at roomy) (i + k) _ (omega arith) (ap (edges (raise16 g k)) same ∙ moves i l h) (rw place at s))

    -- below the records that moved stands what stood there
    stood : (j : ℕ) → j < g - 1 + k → record_in xs j ≡ record_at roomy j
    stood j h = go (dec_lt j (g - 1))
      where
        go : Dec (j < g - 1) → record_in xs j ≡ record_at roomy j
        go (yes l) = sym (grown_low g standing (table_of xs n) inside j l ∙ table_at xs n j (omega (arith, inside, length_table xs n)))
        go (no l) =
            let e : g - 1 + (j - (g - 1)) ≡ j = omega arith in
            sym (rw e at (grown_new g standing (table_of xs n) inside (j - (g - 1)) (omega (arith, as_many)) ∙ decode_at xs k (g - 1) (j - (g - 1)) (omega arith)))

    pub move_end : {ys : List ℕ} (i : ℕ) → i ≡ g - 1 → Bytes ys → Moving i ys → ys ≡ room_at xs n g k
    unfolding inserted_at
    move_end i e bytes s =
        rw (as_many, room)
        (first_holding move_fits roomy (grown_length g standing (table_of xs n) inside ∙ omega (arith, length_table xs n, as_many)) (λ j l. go j (dec_lt j (i + k))) bytes s)
      where
        go : (j : ℕ) → Dec (j < i + k) → mixed (i + k) (record_in xs) (record_at roomy) j ≡ record_at roomy j
        go j (yes h) = mixed_low (i + k) _ _ j h ∙ stood j (omega arith)
        go j (no h) = mixed_high (i + k) _ _ j (omega arith)

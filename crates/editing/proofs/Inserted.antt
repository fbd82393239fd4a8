-- Gates that are put in the places that were made for them: the buffer holds the table with these gates, and is told byte by byte.
use Rattle.std.proofs.Common.{◌≡◌, ℕ, zero, suc, ◌+◌, ◌-◌, ◌*◌, ◌/◌, ◌<◌, ◌≤◌, false, List, [], ◌∷◌, ◌++◌, length, get_or, Fits, w8, set, take, drop, ap, refl, arith, add-one, length-append, length-take, length-drop}
use Rattle.std.proofs.lemmas.List.{append-nil, take_all, drop_all}
use Rattle.majority.specs.Table.{record_at}
use Rattle.majority.specs.declared.Record.{Record}
use Rattle.tables.specs.Bytes.{decode, table_of, put_record}
use Rattle.tables.proofs.Decoded.{length_decode, length_table}
use Rattle.tables.proofs.Encoded.{Bytes}
use Rattle.editing.specs.Edited.{grown, no_room_of, inserted_at, room_at}
use Rattle.editing.proofs.Changed.{grown_length, grown_set}
use Rattle.editing.proofs.Loops.{has_room}
use Rattle.editing.proofs.Holds.{Holds, holds_put, holds_bytes, holding_holds}

-- ys is xs with the gates `news` before node g of its n records
abbrev pub Inserted : List ℕ → ℕ → ℕ → List Record → List ℕ → Type 0
Inserted xs n g news ys = Holds xs (grown g news (table_of xs n)) ys

module _ (xs : List ℕ) (n g : ℕ) (news : List Record) (room : no_room_of (length xs / 8) n g (length news) ≡ false) where
  abbrev table : List Record
  table = grown g news (table_of xs n)

  inside : g - 1 ≤ length (table_of xs n)
  inside = let r = has_room (length xs / 8) n g (length news) room in omega (arith, length_table xs n)

  long : length table ≡ n + length news
  long = let e = grown_length g news (table_of xs n) inside in omega (arith, length_table xs n)

  fits : 8 * length table ≤ length xs
  fits = let r = has_room (length xs / 8) n g (length news) room in omega (arith, long)

  pub inserted_start : {ys : List ℕ} → ys ≡ inserted_at xs n g news → Inserted xs n g news ys
  unfolding inserted_at
  inserted_start e = rw (e, room) (holding_holds table xs fits)

  pub inserted_put : {ys zs : List ℕ} (i j : ℕ) (r : Record) → j < length news → i ≡ g - 1 + j → zs ≡ put_record ys i r → Inserted xs n g news ys → Inserted xs n g (set news j r) zs
  inserted_put i j r h place put s =
      rw (put, place, ← grown_set g news (table_of xs n) inside j r h)
      (holds_put table (g - 1 + j) r fits (omega (arith, long, (has_room (length xs / 8) n g (length news) room).2)) s)

  pub inserted_end : {ys : List ℕ} → Bytes ys → Inserted xs n g news ys → ys ≡ inserted_at xs n g news
  unfolding inserted_at
  inserted_end bytes s = rw room (holds_bytes table fits bytes s)

-- the first i of the gates, and of what stood in their places the rest
abbrev placed : ℕ → List Record → List Record → List Record
placed i gates standing = take i gates ++ drop i standing

placed_next : (i : ℕ) (gates standing : List Record) → i < length gates → i < length standing → set (placed i gates standing) i (record_at gates i) ≡ placed (suc i) gates standing
placed_next i [] standing h l = absurd (omega arith)
placed_next i (r ∷ gates) [] h l = absurd (omega arith)
placed_next zero (r ∷ gates) (x ∷ standing) h l = refl
placed_next (suc i) (r ∷ gates) (x ∷ standing) h l = ap (λ (rs : List Record). r ∷ rs) (placed_next i gates standing (omega arith) (omega arith))

-- gates are put one after another in the room that was made for them
module _ (xs : List ℕ) (n g : ℕ) (gates : List Record) where
  abbrev standing : List Record
  standing = decode xs (g - 1) (length gates)

  -- ys has the first i of the gates
  pub record Placing (i : ℕ) (ys : List ℕ) : Type 0 where
    pub bytes : Bytes ys
    pub held : Inserted xs n g (placed i gates standing) ys

  as_many : length standing ≡ length gates
  as_many = length_decode xs (length gates) (g - 1)

  module _ (room : no_room_of (length xs / 8) n g (length gates) ≡ false) where
    pub placing_start : {ys : List ℕ} → ys ≡ room_at xs n g (length gates) → ((k : ℕ) → Fits w8 (get_or ys k 0)) → Placing 0 ys
    placing_start e known = record { bytes = λ k. (known k).fits; held = inserted_start xs n g standing (rw as_many room) e }

    pub placing_next : {ys zs : List ℕ} (i : ℕ) → i < length gates → zs ≡ put_record ys (g - 1 + i) (record_at gates i) → ((k : ℕ) → Fits w8 (get_or zs k 0)) → Placing i ys → Placing (i + 1) zs
    placing_next {ys} {zs} i h put known s =
        let long : length (placed i gates standing) ≡ length gates = simp (length-append, length-take, length-drop) (omega (arith, as_many)) in
        let next = placed_next i gates standing h (omega (arith, as_many)) in
        record { bytes = λ k. (known k).fits; held = rw (add-one, ← next) (inserted_put xs n g (placed i gates standing) (rw long room) (g - 1 + i) i (record_at gates i) (omega (arith, long)) refl put s.held) }

    pub placing_end : {ys : List ℕ} (i : ℕ) → length gates ≤ i → Placing i ys → ys ≡ inserted_at xs n g gates
    placing_end {ys} i h s =
        let all : placed i gates standing ≡ gates = rw (take_all i gates h, drop_all i standing (omega (arith, as_many)), append-nil) refl in
        inserted_end xs n g gates room s.bytes (rw all at s.held)

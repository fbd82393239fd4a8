-- A buffer whose first n records are those wanted, and whose rest is untouched: how a record put brings it about, and that it is then told byte by byte.
use Prim.Native.Nat.{ℕ, ◌+◌, ◌*◌, ◌≤◌, ◌<◌}
use mathlib.Core.Path.{◌≡◌, refl, sym, ap, ap₂, ◌∙◌}
use mathlib.Core.List.{List, ◌++◌}
use native.Mathlib.Omega.{arith}
use native.Mathlib.Decide.{dec_lt, ℕ_discrete}
use borrow.Author.Tests.{lt-ltb, le-ltb}
use lib.Dec.{ltb}
use lib.ListN.{length, drop}
use lib.Seq.{ext_get_or}
use Rattle.std.specs.Prelude.{if◌then◌else◌}
use Rattle.majority.specs.Table.{blank, record_at}
use Rattle.majority.specs.declared.Record.{Record}
use Rattle.tables.specs.Bytes.{record_in, table_of, encode, put_record, holding}
use Rattle.tables.proofs.Decoded.{length_table, table_at}
use Rattle.tables.proofs.Encoded.{Bytes, as_encoded}
use Rattle.tables.proofs.Put.{put_length, put_same, put_other, put_rest}

-- ys is xs with the wanted records as its first n
pub record HoldsFirst (xs : List ℕ) (n : ℕ) (want : ℕ → Record) (ys : List ℕ) : Type 0 where
  pub long : length ys ≡ length xs
  pub rest : drop (8 * n) ys ≡ drop (8 * n) xs
  pub records : (j : ℕ) → j < n → record_in ys j ≡ want j

-- of the records below i the first, from i on the second
unfoldable pub mixed : ℕ → (ℕ → Record) → (ℕ → Record) → ℕ → Record
mixed i low high j = if ltb j i then low j else high j

pub mixed_low : (i : ℕ) (low high : ℕ → Record) (j : ℕ) → j < i → mixed i low high j ≡ low j
unfolding mixed
mixed_low i low high j h = rw (lt-ltb j i h)

pub mixed_high : (i : ℕ) (low high : ℕ → Record) (j : ℕ) → i ≤ j → mixed i low high j ≡ high j
unfolding mixed
mixed_high i low high j h = rw (le-ltb j i h)

-- where the two meet one record further on, only that record may be another
mixed_next : (low high : ℕ → Record) (i j : ℕ) → (j ≡ i → ⊥) → mixed i low high j ≡ mixed (i + 1) low high j
mixed_next low high i j e = go (dec_lt j i)
  where
    go : Dec (j < i) → mixed i low high j ≡ mixed (i + 1) low high j
    go (yes l) = mixed_low i low high j l ∙ sym (mixed_low (i + 1) low high j (omega arith))
    go (no l) = mixed_high i low high j (omega arith) ∙ sym (mixed_high (i + 1) low high j (omega arith))

-- the records that a buffer has
pub first_same : (xs : List ℕ) (n : ℕ) (want : ℕ → Record) → ((j : ℕ) → j < n → record_in xs j ≡ want j) → HoldsFirst xs n want xs
first_same xs n want is = record { long = refl; rest = refl; records = is }

module _ {xs : List ℕ} {n : ℕ} (fits : 8 * n ≤ length xs) where
  -- one record is put
  pub first_put : {want : ℕ → Record} {ys : List ℕ} (want' : ℕ → Record) (i : ℕ) (r : Record) → i < n → r ≡ want' i → ((j : ℕ) → (j ≡ i → ⊥) → want j ≡ want' j)
      → HoldsFirst xs n want ys → HoldsFirst xs n want' (put_record ys i r)
  first_put {want} {ys} want' i r h here there s =
      let room : 8 * i + 8 ≤ length ys = omega (arith, s.long) in
      record {
        long = put_length ys i r room ∙ s.long;
        rest = put_rest ys i r room (8 * n) (omega arith) ∙ s.rest;
        records = λ j l. go j l (ℕ_discrete j i) room;
      }
    where
      go : (j : ℕ) → j < n → Dec (j ≡ i) → 8 * i + 8 ≤ length ys → record_in (put_record ys i r) j ≡ want' j
      go j l (yes e) room = rw e (put_same ys i r room ∙ here)
      go j l (no e) room = put_other ys i r room j e ∙ s.records j l ∙ there j e

  -- from below: record i is what it becomes
  pub first_up : (low high : ℕ → Record) {ys : List ℕ} (i : ℕ) (r : Record) → i < n → r ≡ low i → HoldsFirst xs n (mixed i low high) ys → HoldsFirst xs n (mixed (i + 1) low high) (put_record ys i r)
  first_up low high i r h here s =
      first_put (mixed (i + 1) low high) i r h (here ∙ sym (mixed_low (i + 1) low high i (omega arith))) (mixed_next low high i) s

  -- from above
  pub first_down : (low high : ℕ → Record) {ys : List ℕ} (i : ℕ) (r : Record) → i < n → r ≡ high i → HoldsFirst xs n (mixed (i + 1) low high) ys → HoldsFirst xs n (mixed i low high) (put_record ys i r)
  first_down low high i r h here s =
      first_put (mixed i low high) i r h (here ∙ sym (mixed_high i low high i (omega arith))) (λ j e. sym (mixed_next low high i j e)) s

  -- from below: record i is already what it becomes
  pub first_kept : (low high : ℕ → Record) {ys : List ℕ} (i : ℕ) → record_in ys i ≡ low i → HoldsFirst xs n (mixed i low high) ys → HoldsFirst xs n (mixed (i + 1) low high) ys
  first_kept low high {ys} i here s = record { long = s.long; rest = s.rest; records = λ j l. go j l (ℕ_discrete j i) }
    where
      go : (j : ℕ) → j < n → Dec (j ≡ i) → record_in ys j ≡ mixed (i + 1) low high j
      go j l (yes e) = rw e (here ∙ sym (mixed_low (i + 1) low high i (omega arith)))
      go j l (no e) = s.records j l ∙ mixed_next low high i j e

  -- all records are told, so all bytes are
  first_table : {want : ℕ → Record} {ys : List ℕ} (t : List Record) → length t ≡ n → ((j : ℕ) → j < n → want j ≡ record_at t j) → HoldsFirst xs n want ys → table_of ys n ≡ t
  first_table {want} {ys} t len same s =
      ext_get_or blank (table_of ys n) t (length_table ys n ∙ sym len)
      (λ j h. let l : j < n = omega (arith, length_table ys n) in table_at ys n j l ∙ s.records j l ∙ same j l)

  pub first_holding : {want : ℕ → Record} {ys : List ℕ} (t : List Record) → length t ≡ n → ((j : ℕ) → j < n → want j ≡ record_at t j) → Bytes ys → HoldsFirst xs n want ys → ys ≡ holding t xs
  unfolding holding
  first_holding {want} {ys} t len same bytes s =
      as_encoded ys bytes n (omega (arith, s.long)) ∙ ap₂ ◌++◌ (ap encode (first_table t len same s)) (s.rest ∙ rw (← len))

-- the table t is written to xs from its first record on: those below i are there
abbrev pub WrittenTo : List Record → List ℕ → ℕ → List ℕ → Type 0
WrittenTo t xs i ys = HoldsFirst xs (length t) (mixed i (record_at t) (record_in xs)) ys

pub write_start : (t : List Record) (xs : List ℕ) → WrittenTo t xs 0 xs
write_start t xs = first_same xs (length t) _ (λ j h. sym (mixed_high 0 (record_at t) (record_in xs) j (omega arith)))

module _ (t : List Record) (xs : List ℕ) (fits : 8 * length t ≤ length xs) (i : ℕ) {ys : List ℕ} where
  pub write_next : (r : Record) → i < length t → r ≡ record_at t i → WrittenTo t xs i ys → WrittenTo t xs (i + 1) (put_record ys i r)
  write_next r h is s = first_up fits (record_at t) (record_in xs) i r h is s

  pub write_end : length t ≤ i → Bytes ys → WrittenTo t xs i ys → ys ≡ holding t xs
  write_end h bytes s = first_holding fits t refl (λ j l. mixed_low i (record_at t) (record_in xs) j (omega arith)) bytes s

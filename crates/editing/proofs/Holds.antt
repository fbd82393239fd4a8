-- A buffer that holds a table at its front: its records are the table's, and it is that table told byte by byte.
use Rattle.std.proofs.Common.{◌≡◌, ℕ, ◌*◌, ◌<◌, ◌≤◌, List, length, drop, set, sym, refl, arith, length-set, get_or-set_other, get_or-set_same, drop_at}
use Rattle.majority.specs.Table.{blank, record_at}
use Rattle.majority.specs.declared.Record.{Record}
use Rattle.tables.specs.Bytes.{table_of, encode, put_record, holding}
use Rattle.tables.proofs.Decoded.{length_table, table_at}
use Rattle.tables.proofs.Encoded.{Bytes, length_encode, encoded_at, holding_length}
use Rattle.tables.proofs.HoldsFirst.{HoldsFirst, first_same, first_put, first_holding}

-- the buffer ys holds the table t, and is otherwise as xs
abbrev pub Holds : List ℕ → List Record → List ℕ → Type 0
Holds xs t ys = HoldsFirst xs (length t) (record_at t) ys

module _ {xs : List ℕ} where
  -- the table that a buffer has
  pub holds_start : (n : ℕ) → Holds xs (table_of xs n) xs
  holds_start n = first_same xs _ _ (λ j h. sym (table_at xs n j (omega (arith, length_table xs n))))

  pub holds_bytes : (t : List Record) {ys : List ℕ} → 8 * length t ≤ length xs → Bytes ys → Holds xs t ys → ys ≡ holding t xs
  holds_bytes t fits bytes s = first_holding fits t refl (λ j h. refl) bytes s

  -- a record is put
  pub holds_put : (t : List Record) {ys : List ℕ} (i : ℕ) (r : Record) → 8 * length t ≤ length xs → i < length t → Holds xs t ys → Holds xs (set t i r) (put_record ys i r)
  holds_put t i r fits h s =
      let len = length-set t i r in
      rw len
      (first_put fits (record_at (set t i r)) i r h (sym (get_or-set_same t i r blank h)) (λ j e. sym (get_or-set_other t i j r blank e)) s)

-- a table put at the front of a buffer is held
module _ (t : List Record) (xs : List ℕ) (fits : 8 * length t ≤ length xs) where
  pub holding_holds : Holds xs t (holding t xs)
  unfolding holding
  holding_holds = record {
    long = holding_length t xs fits;
    rest = drop_at (encode t) (drop (8 * length t) xs) (8 * length t) (length_encode t);
    records = λ j h. encoded_at t _ j h;
  }

-- Records in bytes (SPEC 2.1): a byte for the kind, a byte for the block, three fields of 16 bits each, and no header.
use Rattle.std.specs.Prelude.{ℕ, zero, suc, ◌+◌, ◌*◌, ◌/◌, ◌%◌, List, [], ◌∷◌, ◌++◌, length, get_or, drop, ltb, if◌then◌else◌}
use Rattle.majority.specs.Table.{record_of}
use Rattle.majority.specs.declared.Record.{Record}
use Rattle.tables.specs.Field.{field_at, put_bytes, put_field}

-- record i of the bytes xs
abbrev pub record_in : List ℕ → ℕ → Record
record_in xs i =
    record_of (get_or xs (8 * i) 0) (get_or xs (8 * i + 1) 0) (field_at xs (4 * i + 1)) (field_at xs (4 * i + 2)) (field_at xs (4 * i + 3))

-- the same with the kind k in place of its own
abbrev pub record_as : List ℕ → ℕ → ℕ → Record
record_as xs i k = record_of k (record_in xs i).block (record_in xs i).e1 (record_in xs i).e2 (record_in xs i).e3

-- k records of the bytes xs, from record i on
unfoldable pub decode : List ℕ → ℕ → ℕ → List Record
decode xs i zero = []
decode xs i (suc k) = record_in xs i ∷ decode xs (suc i) k

-- the first n records of the bytes xs
abbrev pub table_of : List ℕ → ℕ → List Record
table_of xs n = decode xs 0 n

-- the records that the bytes xs hold whole
abbrev pub records_of : List ℕ → List Record
records_of xs = table_of xs (length xs / 8)

-- field d, below 4, of the eight bytes i of xs, 0 where xs does not hold them whole
unfoldable pub field_of : List ℕ → ℕ → ℕ → ℕ
field_of xs i d = if ltb i (length xs / 8) then (if ltb d 4 then field_at xs (4 * i + d) else 0) else 0

-- the bytes of a field, and of a record, before others
abbrev pub field_bytes : ℕ → List ℕ → List ℕ
field_bytes v rest = v % 256 ∷ v / 256 ∷ rest

abbrev pub record_bytes : Record → List ℕ → List ℕ
record_bytes r rest = r.kind ∷ r.block ∷ field_bytes r.e1 (field_bytes r.e2 (field_bytes r.e3 rest))

-- the bytes of a table
unfoldable pub encode : List Record → List ℕ
encode [] = []
encode (r ∷ rs) = record_bytes r (encode rs)

-- the buffer xs with the table t at its front, and the rest as it was
unfoldable pub holding : List Record → List ℕ → List ℕ
holding t xs = encode t ++ drop (8 * length t) xs

-- the bytes xs with r as their record i
unfoldable pub put_fields : List ℕ → ℕ → Record → List ℕ
put_fields xs i r =
    put_field (put_field (put_field (put_bytes xs (4 * i) r.kind r.block) (4 * i + 1) r.e1) (4 * i + 2) r.e2) (4 * i + 3) r.e3

-- the same where xs has room for it, else xs
unfoldable pub put_record : List ℕ → ℕ → Record → List ℕ
put_record xs i r = if ltb i (length xs / 8) then put_fields xs i r else xs

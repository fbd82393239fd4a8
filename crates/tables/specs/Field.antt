-- The 16-bit fields of a list of bytes, low byte first (SPEC 2.1).
use Rattle.std.specs.Prelude.{ℕ, ◌+◌, ◌*◌, ◌/◌, ◌%◌, List, get_or, set}

-- the number whose low byte is `low` and whose high byte is `high`
abbrev pub joined : ℕ → ℕ → ℕ
joined low high = low + 256 * high

-- field k of the bytes xs
unfoldable pub field_at : List ℕ → ℕ → ℕ
field_at xs k = joined (get_or xs (2 * k) 0) (get_or xs (2 * k + 1) 0)

-- the bytes xs with `low` and `high` as the bytes of their field k
unfoldable pub put_bytes : List ℕ → ℕ → ℕ → ℕ → List ℕ
put_bytes xs k low high = set (set xs (2 * k) low) (2 * k + 1) high

-- the bytes xs with v as their field k
abbrev pub put_field : List ℕ → ℕ → ℕ → List ℕ
put_field xs k v = put_bytes xs k (v % 256) (v / 256)

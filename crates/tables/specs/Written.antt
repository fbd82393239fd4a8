-- What a call that writes a table to a lent buffer replies, and the bytes that it leaves (SPEC 6).
use Rattle.std.specs.Prelude.{ℕ, ◌*◌, List, length, ltb, if◌then◌else◌, Result, Ok, Err}
use Rattle.majority.specs.declared.Record.{Record}
use Rattle.tables.specs.Bytes.{holding}
use Rattle.refusals.specs.declared.Refusal.{Refusal}
use Rattle.refusals.specs.declared.Refusal.TheVariants as refusal

-- the table, for a buffer of so many bytes; 11 where it does not fit
abbrev pub in_room : ℕ → List Record → Result (List Record) Refusal
in_room room ts = if ltb room (8 * length ts) then Err refusal.Room else Ok ts

-- the reply is the table's length in bytes
abbrev pub in_bytes : List Record → Result ℕ Refusal
in_bytes ts = Ok (8 * length ts)

-- the bytes that a reply leaves: those of the table, or all as they were
abbrev pub after_reply : Result (List Record) Refusal → List ℕ → List ℕ
after_reply (Ok ts) ys = holding ts ys
after_reply (Err w) ys = ys

-- What the call replies, and the bytes that it leaves (SPEC 12).
use Rattle.std.specs.Prelude.{ℕ, List, length, ltb, if◌then◌else◌, Result, Err}
use Rattle.majority.specs.declared.Record.{Record}
use Rattle.tables.specs.Written.{in_room, in_bytes, after_reply}
use Rattle.catalogue.specs.Networks.{network}
use Rattle.refusals.specs.declared.Refusal.{Refusal}
use Rattle.refusals.specs.declared.Refusal.TheVariants as refusal
use Rattle.refusals.specs.Reply.{◌>>=◌}

-- the table of the function with the number n, for a buffer of so many bytes: 17 where there is no such function, then 11
unfoldable pub network_in : ℕ → ℕ → Result (List Record) Refusal
network_in n room = if ltb 255 n then Err refusal.Function else in_room room (network n)

-- the reply is its length in bytes
unfoldable pub catalogue_of : ℕ → ℕ → Result ℕ Refusal
catalogue_of n room = do
  ts ← network_in n room
  in_bytes ts

unfoldable pub catalogue_bytes : ℕ → List ℕ → List ℕ
catalogue_bytes n ys = after_reply (network_in n (length ys)) ys

-- A call that writes a table: whether it fits, and what the reply tells the caller. The length fits the buffer, and the bytes of that length hold the table.
use Prim.Native.Nat.{ℕ, ◌*◌, ◌/◌, ◌≤◌, ◌<◌}
use mathlib.Core.Path.{◌≡◌, refl}
use mathlib.Core.Bool.{Bool, true, false}
use mathlib.Core.List.{List}
use native.Mathlib.Omega.{arith}
use borrow.Author.Tests.{lt-ltb, le-ltb, ltb-false}
use lib.Dec.{ltb}
use lib.ListN.{length}
use Rattle.std.specs.Prelude.{if◌then◌else◌, Result, Ok, Err}
use Rattle.majority.specs.declared.Record.{Record}
use Rattle.tables.specs.Bytes.{table_of}
use Rattle.tables.specs.Written.{in_room, in_bytes, after_reply}
use Rattle.tables.proofs.Encoded.{holding_table}
use Rattle.refusals.specs.declared.Refusal.{Refusal}
use Rattle.refusals.specs.declared.Refusal.TheVariants as refusal
use Rattle.refusals.specs.Reply.{◌>>=◌}

-- a reply is not both
pub apart : {A : Type 0} {x : A} {w : Refusal} → ◌≡◌ {A = Result A Refusal} (Err w) (Ok x) → ⊥
apart e = let z : ◌≡◌ {A = ℕ} 0 1 = cc in omega arith

same_length : {l k : ℕ} → ◌≡◌ {A = Result ℕ Refusal} (Ok k) (Ok l) → k ≡ l
same_length e = cc

module _ (room : ℕ) (ts : List Record) where
  pub fits_not : room < 8 * length ts → in_room room ts ≡ Err refusal.Room
  fits_not h = rw (lt-ltb room (8 * length ts) h)

  pub fits : 8 * length ts ≤ room → in_room room ts ≡ Ok ts
  fits h = rw (le-ltb room (8 * length ts) h)

module _ (room l : ℕ) (ts : List Record) (is : ◌>>=◌ (in_room room ts) in_bytes ≡ Ok l) where
  -- the reply is the table's length, and it fits
  pub written_length : (l ≡ 8 * length ts) × (l ≤ room)
  written_length = go (ltb room (8 * length ts)) refl is
    where
      go : (t : Bool) → ltb room (8 * length ts) ≡ t → ◌>>=◌ (if t then Err refusal.Room else Ok ts) in_bytes ≡ Ok l → (l ≡ 8 * length ts) × (l ≤ room)
      go true q e = absurd (apart e)
      go false q e = let k = same_length e in (omega arith, omega (arith, ltb-false room (8 * length ts) q))

-- the records in the bytes that were written, up to the length replied, are the table
pub written_table : (ts : List Record) (ys : List ℕ) (l : ℕ) → ◌>>=◌ (in_room (length ys) ts) in_bytes ≡ Ok l → table_of (after_reply (in_room (length ys) ts) ys) (l / 8) ≡ ts
written_table ts ys l is = go (ltb (length ys) (8 * length ts)) is
  where
    go : (t : Bool) → ◌>>=◌ (if t then Err refusal.Room else Ok ts) in_bytes ≡ Ok l → table_of (after_reply (if t then Err refusal.Room else Ok ts) ys) (l / 8) ≡ ts
    go true e = absurd (apart e)
    go false e = let k : l / 8 ≡ length ts = omega (arith, same_length e) in rw k (holding_table ts ys)

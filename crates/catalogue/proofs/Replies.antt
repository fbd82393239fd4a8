-- What a reply of `catalogue` tells its caller: the length fits the buffer, the bytes of that length hold a table that computes the function, and 88 bytes are room for any.
use Prim.Native.Nat.{ℕ, ◌*◌, ◌/◌, ◌≤◌, ◌<◌}
use mathlib.Core.Path.{◌≡◌, ap, ◌∙◌}
use mathlib.Core.List.{List}
use native.Mathlib.Omega.{arith}
use native.Mathlib.Decide.{dec_lt}
use borrow.Author.Tests.{lt-ltb, le-ltb}
use lib.ListN.{length}
use Rattle.majority.specs.Check.{check_records}
use Rattle.tables.specs.Bytes.{table_of, holding}
use Rattle.tables.proofs.Encoded.{records_checked, holding_length, holding_table}
use Rattle.tables.proofs.Written.{apart, fits_not, fits, written_length}
use Rattle.catalogue.specs.Networks.{gate_count, entry_of, network}
use Rattle.catalogue.specs.Calls.{network_in, catalogue_of, catalogue_bytes}
use Rattle.catalogue.specs.Computes.{ComputesIn}
use Rattle.catalogue.proofs.NetworkRecords.{network_length}
use Rattle.catalogue.proofs.EveryEntry.{network_computes}
use Rattle.std.specs.Prelude.{Ok, Err}
use Rattle.refusals.specs.declared.Refusal.TheVariants as refusal

pub no_function : (n room : ℕ) → 255 < n → network_in n room ≡ Err refusal.Function
unfolding network_in
no_function n room h = rw (lt-ltb 255 n h)

module _ (n : ℕ) (low : n ≤ 255) (room : ℕ) where
  pub no_room : room < 8 * length (network n) → network_in n room ≡ Err refusal.Room
  unfolding network_in
  no_room h = rw (le-ltb 255 n low) (fits_not room (network n) h)

  pub in_catalogue : 8 * length (network n) ≤ room → network_in n room ≡ Ok (network n)
  unfolding network_in
  in_catalogue h = rw (le-ltb 255 n low) (fits room (network n) h)

  -- 11 is never said of a buffer of 88 bytes
  pub room_enough : 88 ≤ room → catalogue_of n room ≡ Ok (8 * length (network n))
  unfolding catalogue_of
  room_enough h =
      let few = (network_computes n (omega arith)).few in
      rw (in_catalogue (omega (arith, few, network_length (entry_of n))))

-- a length that is replied is that of the table of a function, and fits
module _ (n room l : ℕ) (is : catalogue_of n room ≡ Ok l) where
  pub reply_number : n ≤ 255
  unfolding catalogue_of
  reply_number = go (dec_lt 255 n)
    where
      go : Dec (255 < n) → n ≤ 255
      go (yes h) = absurd (apart (rw (no_function n room h) at is))
      go (no h) = omega arith

  pub reply_length : (l ≡ 8 * length (network n)) × (l ≤ room)
  unfolding catalogue_of network_in
  reply_length = written_length room l (network n) (rw (le-ltb 255 n reply_number) at is)

-- the table that was written is accepted, and computes the function
pub written_computes : (n : ℕ) (ys : List ℕ) (l : ℕ) → catalogue_of n (length ys) ≡ Ok l → ComputesIn n l (catalogue_bytes n ys)
unfolding catalogue_bytes
written_computes n ys l is =
    let low = reply_number n (length ys) l is in
    let long = reply_length n (length ys) l is in
    let made = in_catalogue n low (length ys) (omega (arith, long.0, long.1)) in
    let count = network_length (entry_of n) in
    let same : table_of (holding (network n) ys) (l / 8) ≡ network n =
    let e : l / 8 ≡ length (network n) = omega (arith, long.0) in rw e (holding_table (network n) ys)
    in
    let computes = network_computes n (omega arith) in
    rw made
    (record {
      gates = gate_count (entry_of n);
      long = omega (arith, long.0, count);
      accepted_is = records_checked _ l (omega (arith, long.0)) (omega (arith, long.1, holding_length (network n) ys (omega (arith, long.0, long.1)))) ∙ ap check_records same ∙ computes.accepted_is;
      computes = rw same computes;
    })

-- What making room, three copies and the vote leave in the buffer: the table that a voter makes. The copies are made from the last down, so
-- that above where they stand the new table is there, and below what was there when room was made.
use Rattle.std.proofs.Common.{◌≡◌, ℕ, suc, ◌+◌, ◌-◌, ◌*◌, ◌/◌, ◌%◌, ◌<◌, ◌≤◌, true, false, leb, List, length, sym, refl, ap, ◌∙◌, subst, arith, le-ltb, lt-ltb, leb-true}
use native.Mathlib.Decide.{dec_lt}
use Rattle.majority.specs.Edge.{node_of, raise, redirect}
use Rattle.majority.specs.Table.{record_at}
use Rattle.majority.specs.Edit.{edges, node_record, insert, become}
use Rattle.majority.specs.declared.Record.{Record}
use Rattle.majority.specs.declared.Counts.{Counts}
use Rattle.majority.proofs.Logic.{both}
use Rattle.rules.specs.Rules.{plain}
use Rattle.rules.specs.Voter.{edge_to, pair_in, pair_gate, pair_polarity, voter_form, Copy, own, in_block, block_of, root, first_copy, second_copy, third_copy, copies, votes, voter}
use Rattle.rules.proofs.Raise.{raise_below, raise_from}
use Rattle.rules.proofs.Edges.{redirect_lowers}
use Rattle.rules.proofs.Redirect.{redirected_at}
use Rattle.rules.proofs.GateNodes.{GateOf}
use Rattle.rules.proofs.Copies.{CopyIn, there, copy_reads}
use Rattle.rules.proofs.Voter.{first_in, second_in, third_in, thrice}
use Rattle.tables.specs.Bytes.{record_in, decode, table_of, put_record, holding}
use Rattle.tables.specs.Sound.{table_in}
use Rattle.tables.proofs.Decoded.{length_decode, decode_at, table_at}
use Rattle.tables.proofs.Encoded.{Bytes}
use Rattle.tables.proofs.HoldsFirst.{HoldsFirst, mixed, mixed_low, mixed_high}
use Rattle.editing.specs.Edited.{raise16, grown, no_room_of, inserted_at, room_at}
use Rattle.editing.proofs.Changed.{grown_length, grown_low, grown_new, grown_high}
use Rattle.editing.proofs.Inserted.{inserted_start, inserted_end}
use Rattle.rewriting.specs.inner.Fitting.{Votable}
use Rattle.rewriting.specs.inner.Copied.{above, copy_edge, copying_of, copied_by, Copyable, Copied}
use Rattle.rewriting.proofs.Gate.{at_formed, at_small, at_length}
use Rattle.rewriting.proofs.Edits.{same_edges}
use Rattle.rewriting.proofs.CopiedGates.{copied_is}
use Rattle.rewriting.proofs.SameRest.{same_record, same_later}
use Rattle.rewriting.proofs.RuleBytes.{insert_then_put}

-- a small edge in a copy's own numbers, within 16 bits
short : (n u y : ℕ) → node_of y ≤ 2000 → u ≤ 5000 → raise16 (suc n) u y ≡ raise (suc n) u y
unfolding raise16
short n u y h l = go (dec_lt (node_of y) (suc n))
  where
    go : Dec (node_of y < suc n) → raise (suc n) u y % 65536 ≡ raise (suc n) u y
    go (yes low) = rw (raise_below (suc n) u y low) (omega arith)
    go (no high) = rw (raise_from (suc n) u y (omega arith)) (omega arith)

module _ {xs : List ℕ} {c : Counts} {g a b : ℕ} (can : Votable xs c g a b) where
  abbrev n : ℕ
  n = c.inputs

  abbrev k : ℕ
  k = g - n

  abbrev table : List Record
  table = table_in xs c

  abbrev records : ℕ
  records = c.inputs + c.gates + c.outputs

  abbrev news : List Record
  news = copies n g a b table

  is : GateOf n c.gates c.outputs g table
  is = record { formed = at_formed can.at; from = can.at.from; upto = can.at.upto }

  as_many : length news ≡ 3 * k
  as_many = thrice is a b can.order can.form

  -- a gate of a copy, and its root, as the code makes them
  module _ (copy : Copy) (here : CopyIn n g news table copy) (small : above n g copy.before ≤ 5000) where
    abbrev made : ℕ → ℕ
    made = copy_edge n g copy.before copy.node copy.edge

    gate_made : (i : ℕ) → i < k → in_block (block_of table g) (edges made (record_at table (n + i))) ≡ record_at news (copy.before + i)
    gate_made i h =
        let few = at_small can.at in
        let low = rw (redirected_at copy.node copy.edge is.formed here.stands.some here.stands.lower (n + i)) at (copy_reads is here i h) in
        let near : n + i ≤ 1056 = omega (arith, can.at.upto) in
        ap (in_block (block_of table g))
        (same_edges made (λ x. own n g copy.before (redirect copy.node copy.edge x)) (record_at table (n + i)) (
          short n (above n g copy.before) _ (omega (arith, low.first)) small,
          short n (above n g copy.before) _ (omega (arith, low.second)) small,
          short n (above n g copy.before) _ (omega (arith, low.third)) small,
        ))
        ∙ sym (there is here i h ∙ ap (λ (r : Record). in_block (block_of table g) (edges (own n g copy.before) r)) (redirected_at copy.node copy.edge is.formed here.stands.some here.stands.lower (n + i)))

    pub root_made : copied_by (copying_of n g copy.before copy.node copy.edge) (plain g) ≡ root n g copy
    root_made =
        let few = at_small can.at in
        let low = redirect_lowers copy.node copy.edge here.stands.lower (plain g) in
        copied_is n g copy.before copy.node copy.edge (plain g) ∙ short n (above n g copy.before) _ (omega (arith, can.at.upto)) small

  -- what stood in the places of the copies when room was made
  abbrev standing : List Record
  standing = decode xs (g - 1) (3 * k)

  as_many_stood : length standing ≡ 3 * k
  as_many_stood = length_decode xs (3 * k) (g - 1)

  abbrev before : List Record
  before = grown g standing (table_of xs records)

  abbrev after : List Record
  after = grown g news (table_of xs records)

  inside : g - 1 ≤ length (table_of xs records)
  inside = omega (arith, at_length can.at, can.at.upto)

  -- from the first copy's place so many gates up the new table stands
  abbrev pub Voting : ℕ → List ℕ → Type 0
  Voting t ys = HoldsFirst xs (records + 3 * k) (mixed (g - 1 + t) (record_at before) (record_at after)) ys

  -- past the copies both are the same
  past : (j : ℕ) → g - 1 + 3 * k ≤ j → j < records + 3 * k → record_at before j ≡ record_at after j
  past j p q =
      let i = j - 3 * k in
      let e : i + 3 * k ≡ j = omega arith in
      let low = rw (as_many_stood, e) at (grown_high g standing (table_of xs records) inside i (omega arith) (omega (arith, at_length can.at))) in
      let high = rw (as_many, e) at (grown_high g news (table_of xs records) inside i (omega arith) (omega (arith, at_length can.at))) in
      low ∙ sym high

  -- up to g stands the table
  upto : (j : ℕ) → j ≤ g - 1 → record_at before j ≡ record_at table j
  upto j h = go (dec_lt j (g - 1))
    where
      go : Dec (j < g - 1) → record_at before j ≡ record_at table j
      go (yes l) = grown_low g standing (table_of xs records) inside j l
      go (no l) =
          let e : g - 1 + 0 ≡ j = omega arith in
          let first = rw e at (grown_new g standing (table_of xs records) inside 0 (omega (arith, as_many_stood, can.at.from)) ∙ decode_at xs (3 * k) (g - 1) 0 (omega (arith, can.at.from))) in
          first ∙ sym (table_at xs records j (omega (arith, can.at.from, can.at.upto)))

  room : no_room_of (length xs / 8) records g (3 * k) ≡ false
  unfolding no_room_of
  room = rw (le-ltb g 1 (omega (arith, can.at.from)), le-ltb (length xs / 8) (records + 3 * k) (omega (arith, can.room)), le-ltb records (g - 1) (omega (arith, can.at.upto)))

  pub voting_start : {ys : List ℕ} → ys ≡ room_at xs records g (3 * k) → Voting (3 * k) ys
  voting_start {ys} made =
      let s = inserted_start xs records g standing (rw as_many_stood room) made in
      let len = grown_length g standing (table_of xs records) inside in
      let all : length before ≡ records + 3 * k = omega (arith, at_length can.at, as_many_stood) in
      record { long = s.long; rest = rw all at s.rest; records = λ j h. s.records j (omega arith) ∙ go j h (dec_lt j (g - 1 + 3 * k)) }
    where
      go : (j : ℕ) → j < records + 3 * k → Dec (j < g - 1 + 3 * k) → record_at before j ≡ mixed (g - 1 + 3 * k) (record_at before) (record_at after) j
      go j h (yes l) = sym (mixed_low (g - 1 + 3 * k) _ _ j l)
      go j h (no l) = past j (omega arith) h ∙ sym (mixed_high (g - 1 + 3 * k) _ _ j (omega arith))

  -- one copy more
  module _ (copy : Copy) (here : CopyIn n g news table copy) (inside-copies : copy.before + k ≤ 3 * k) where
    abbrev u : ℕ
    u = above n g copy.before

    small : u ≤ 5000
    small = omega (arith, can.at.upto, at_small can.at, can.few)

    pub voting_next : {ys zs : List ℕ} → Voting (copy.before + k) ys → Copied n g copy.before copy.node copy.edge (block_of table g) ys zs → Voting copy.before zs
    voting_next {ys} {zs} s made =
        let some = can.at.from in
        record {
          long = made.long ∙ s.long;
          rest = same_later ys zs (g + u) made.rest (records + 3 * k) (omega (arith, can.at.upto)) ∙ s.rest;
          records = λ j h. go j h (dec_lt j (g + u)) (dec_lt j (n + u));
        }
      where
        go : (j : ℕ) → j < records + 3 * k → Dec (j < g + u) → Dec (j < n + u) → record_in zs j ≡ mixed (g - 1 + copy.before) (record_at before) (record_at after) j
        go j h (yes l) (yes low) =
            let some = can.at.from in
            rw (lt-ltb j (n + u) low) at (made.records j l)
            ∙ s.records j h
            ∙ mixed_low (g - 1 + (copy.before + k)) _ _ j (omega arith)
            ∙ sym (mixed_low (g - 1 + copy.before) _ _ j (omega arith))
        go j h (yes l) (no high) =
            let some = can.at.from in
            let i = j - (n + u) in
            let source : j - u ≡ n + i = omega arith in
            let place : g - 1 + (copy.before + i) ≡ j = omega arith in
            rw (le-ltb j (n + u) (omega arith), source) at (made.records j l)
            ∙ ap (λ (r : Record). in_block (block_of table g) (edges (copy_edge n g copy.before copy.node copy.edge) r))
            (s.records (n + i) (omega arith) ∙ mixed_low (g - 1 + (copy.before + k)) _ _ (n + i) (omega arith) ∙ upto (n + i) (omega arith))
            ∙ gate_made copy here small i (omega arith)
            ∙ rw place at (sym (grown_new g news (table_of xs records) inside (copy.before + i) (omega (arith, as_many))))
            ∙ sym (mixed_high (g - 1 + copy.before) _ _ j (omega arith))
        go j h (no l) _ =
            let some = can.at.from in
            same_record ys zs j (same_later ys zs (g + u) made.rest j (omega arith))
            ∙ s.records j h
            ∙ mixed_high (g - 1 + (copy.before + k)) _ _ j (omega arith)
            ∙ sym (mixed_high (g - 1 + copy.before) _ _ j (omega arith))

  pub voting_end : {ys : List ℕ} → Bytes ys → Voting 0 ys → ys ≡ inserted_at xs records g news
  voting_end {ys} bytes s =
      let len = grown_length g news (table_of xs records) inside in
      let all : records + 3 * k ≡ length after = omega (arith, at_length can.at, as_many) in
      inserted_end xs records g news (rw as_many room) bytes
      (record { long = s.long; rest = rw all at s.rest; records = λ j h. s.records j (omega arith) ∙ go j (dec_lt j (g - 1 + 0)) })
    where
      go : (j : ℕ) → Dec (j < g - 1 + 0) → mixed (g - 1 + 0) (record_at before) (record_at after) j ≡ record_at after j
      go j (yes l) = mixed_low (g - 1 + 0) _ _ j l ∙ upto j (omega arith) ∙ sym (grown_low g news (table_of xs records) inside j (omega arith))
      go j (no l) = mixed_high (g - 1 + 0) _ _ j (omega arith)

  -- the copies, from the last to the first
  pub third_made : {ys zs : List ℕ} → Voting (3 * k) ys → Copied n g (2 * k) (pair_gate n g a b table) (edge_to (pair_polarity n g a b table) b) (block_of table g) ys zs → Voting (2 * k) zs
  third_made {ys} s made =
      let e : 3 * k ≡ 2 * k + k = omega arith in
      voting_next (third_copy n g a b table) (third_in is a b can.order can.form) (omega arith) (subst (λ (t : ℕ). Voting t ys) e s) made

  pub second_made : {ys zs : List ℕ} → Voting (2 * k) ys → Copied n g k (pair_gate n g a b table) (edge_to (pair_polarity n g a b table) a) (block_of table g) ys zs → Voting k zs
  second_made {ys} s made =
      let e : 2 * k ≡ k + k = omega arith in
      voting_next (second_copy n g a b table) (second_in is a b can.order can.form) (omega arith) (subst (λ (t : ℕ). Voting t ys) e s) made

  pub first_made : {ys zs : List ℕ} → Voting k ys → Copied n g 0 b (edge_to true a) (block_of table g) ys zs → Voting 0 zs
  first_made {ys} s made =
      let e : k ≡ 0 + k = omega arith in
      voting_next (first_copy n g a b table) (first_in is a b can.order can.form) (omega arith) (subst (λ (t : ℕ). Voting t ys) e s) made

  -- and each finds its places
  pub small_copy : (t x : ℕ) → t + k ≤ 3 * k → x ≤ g → (n < g) × (g + t ≤ 5000) × (x ≤ 5000)
  small_copy t x h l = let few = at_small can.at in (can.at.from, omega (arith, can.at.upto, can.few), omega (arith, can.at.upto))

  pub can_copy : {ys : List ℕ} (t x : ℕ) → t + k ≤ 3 * k → x ≤ g → length ys ≡ length xs → Copyable n g t x ys
  can_copy t x h l long =
      let w = small_copy t x h l in
      record { some = w.0; small = w.1; known = w.2; room = omega (arith, can.at.upto, can.room) }

  -- the gate with the pair is one up to g
  pub found : pair_gate n g a b table ≤ g
  unfolding voter_form
  found = leb-true _ _ (both (leb (pair_gate n g a b table) g) _ can.form).0

  -- the roots
  pub first_root : copied_by (copying_of n g 0 b (edge_to true a)) (plain g) ≡ root n g (first_copy n g a b table)
  first_root = root_made (first_copy n g a b table) (first_in is a b can.order can.form) (omega (arith, (small_copy 0 0 (omega arith) (omega arith)).1))

  pub second_root : copied_by (copying_of n g k (pair_gate n g a b table) (edge_to (pair_polarity n g a b table) a)) (plain g) ≡ root n g (second_copy n g a b table)
  second_root = root_made (second_copy n g a b table) (second_in is a b can.order can.form) (omega (arith, (small_copy k 0 (omega arith) (omega arith)).1))

  pub third_root : copied_by (copying_of n g (2 * k) (pair_gate n g a b table) (edge_to (pair_polarity n g a b table) b)) (plain g) ≡ root n g (third_copy n g a b table)
  third_root = root_made (third_copy n g a b table) (third_in is a b can.order can.form) (omega (arith, (small_copy (2 * k) 0 (omega arith) (omega arith)).1))

  -- the polarity that the code reads
  pub polarity_read : pair_in true a b (node_record table (pair_gate n g a b table)) ≡ pair_polarity n g a b table
  unfolding pair_polarity
  polarity_read = refl

  -- the vote
  pub voter_holding : {ys zs : List ℕ} (i : ℕ) (r : Record) → Bytes ys → Voting 0 ys → i ≡ g - 1 + 3 * k → r ≡ votes n g a b table → zs ≡ put_record ys i r → Bytes zs
      → zs ≡ holding (voter n g a b table) xs
  unfolding voter
  voter_holding {ys} {zs} i r bytes s place root put all =
      subst (λ (t : ℕ). zs ≡ holding (become (g + t) (votes n g a b table) (insert g news table)) xs) as_many
      (insert_then_put can.at news (omega (arith, as_many, can.few)) (rw as_many can.room) i (votes n g a b table) (omega (arith, as_many, can.at.from)) (voting_end bytes s) (put ∙ rw root) all)

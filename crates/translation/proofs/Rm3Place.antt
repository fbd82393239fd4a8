-- The operand that an edge gets, and what it leaves in the RM3 table: records in their form, and an operand that serves the edge.
use Prim.Native.Nat.{ℕ, ◌+◌, ◌-◌, ◌≤◌, ◌<◌}
use mathlib.Core.Path.{◌≡◌, refl, ◌∙◌}
use mathlib.Core.Bool.{Bool, true, false, not}
use mathlib.Core.List.{List, [], ◌∷◌, ◌++◌}
use native.Mathlib.Omega.{arith}
use native.Mathlib.Decide.{ℕ_discrete}
use borrow.Author.Tests.{eq-eqb, ne_eqb}
use lib.ListN.{length, get_or}
use Rattle.std.specs.Prelude.{if◌then◌else◌}
use Rattle.majority.specs.Edge.{node_of, is_inverted}
use Rattle.majority.specs.Table.{blank, input, record_at}
use Rattle.translation.specs.Rm3.{operation}
use Rattle.translation.specs.Translate.{Draft, again, noted, Placed, helper, class_of, place}
use Rattle.majority.specs.declared.Record.{Record}
use Rattle.translation.specs.declared.Mode.{Mode}
use Rattle.translation.specs.declared.Mode.TheVariants.{Anew, Once}
use Rattle.translation.proofs.Begins.{Begins, All, begins_same, begins_append, begins_last, all_more, length_more}
use Rattle.translation.proofs.Rm3Worth.{Lower}

-- in the table ts, operand x is a helper of node k, of whichever block
pub record Helper (operands : List ℕ) (ts : List Record) (k x : ℕ) : Type 0 where
  pub at : ℕ
  pub block : ℕ
  pub numbered : x ≡ at + 2
  pub inside : at < length ts
  pub is : record_at ts at ≡ operation block 0 (get_or operands k 0) 1

pub helper_more : {operands : List ℕ} {ts ts' : List Record} {k x : ℕ} → Begins blank ts ts' → Helper operands ts k x → Helper operands ts' k x
helper_more b h = record { at = h.at; block = h.block; numbered = h.numbered; inside = omega (arith, h.inside, b.longer); is = b.same h.at h.inside ∙ h.is }

-- in the table ts an operand serves the edge e, in the middle place or another: a constant's own or opposite, that of the edge's node, or its helper's
pub data Serves (operands : List ℕ) (ts : List Record) (isMiddle : Bool) (e : ℕ) : ℕ → Type 0 where
  itself : node_of e ≡ 0 → Serves operands ts isMiddle e (if isMiddle then 1 - e else e)
  direct : is_inverted e ≡ isMiddle → Serves operands ts isMiddle e (get_or operands (node_of e) 0)
  helped : (node_of e ≡ 0 → ⊥) → is_inverted e ≡ not isMiddle → (x : ℕ) → Helper operands ts (node_of e) x → Serves operands ts isMiddle e x

-- among n inputs, r is what record j of the inputs and operations has to be
pub record Fits (n j : ℕ) (r : Record) : Type 0 where
  pub an_input : j < n → r ≡ input
  pub an_operation : n ≤ j → (r.kind ≡ 4) × Lower (j + 2) r

pub operation_fits : {n j : ℕ} {r : Record} → n ≤ j → r.kind ≡ 4 → Lower (j + 2) r → Fits n j r
operation_fits late kind reads = record { an_input = λ h. absurd (omega arith); an_operation = λ h. (kind, reads) }

-- record i of a table has the block b where it stands from k on
abbrev pub Blocked : ℕ → ℕ → ℕ → Record → Type 0
Blocked k b i r = k ≤ i → r.block ≡ b

-- behind a table nothing stands yet
pub blocked_none : (ts : List Record) (b : ℕ) → All blank (Blocked (length ts) b) ts
blocked_none ts b = record { each = λ i h l. absurd (omega arith) }

-- the first of the nodes' final operands are known, and stand in the table so far; so do the helpers
pub record Known (final operands : List ℕ) (d : Draft) : Type 0 where
  pub begins : Begins 0 operands final
  pub low : (k : ℕ) → k < length operands → get_or final k 0 < length d.table + 2
  pub helpers : (k : ℕ) → (d.helpers k ≡ 0 → ⊥) → Helper final d.table k (d.helpers k)

module _ (mode : Mode) (b : ℕ) (operands : List ℕ) (e : ℕ) (d : Draft) where
  -- the four ways in which an edge gets its operand
  data Way (isMiddle : Bool) : Placed → Type 0 where
    itself : node_of e ≡ 0 → Way isMiddle (record { operand = if isMiddle then 1 - e else e; draft = d })
    direct : is_inverted e ≡ isMiddle → Way isMiddle (record { operand = get_or operands (node_of e) 0; draft = d })
    made : (node_of e ≡ 0 → ⊥) → is_inverted e ≡ not isMiddle
        → Way isMiddle (record {
          operand = length d.table + 2;
          draft = record { table = d.table ++ operation b 0 (get_or operands (node_of e) 0) 1 ∷ []; helpers = noted (node_of e) (length d.table + 2) d.helpers };
        })
    serving : (node_of e ≡ 0 → ⊥) → is_inverted e ≡ not isMiddle → (again mode d.helpers (node_of e) ≡ 0 → ⊥) → Way isMiddle (record { operand = again mode d.helpers (node_of e); draft = d })

  helper_way : (isMiddle : Bool) → (node_of e ≡ 0 → ⊥) → is_inverted e ≡ not isMiddle → Way isMiddle (helper mode b (node_of e) (get_or operands (node_of e) 0) d)
  helper_way isMiddle h p = go (ℕ_discrete (again mode d.helpers (node_of e)) 0)
    where
      go : Dec (again mode d.helpers (node_of e) ≡ 0) → Way isMiddle (helper mode b (node_of e) (get_or operands (node_of e) 0) d)
      go (yes q) = rw (eq-eqb _ 0 q) (made h p)
      go (no q) = rw (ne_eqb _ 0 q) (serving h p q)

  way : (isMiddle : Bool) → Way isMiddle (place mode b isMiddle operands e d)
  unfolding place class_of
  way isMiddle = go (ℕ_discrete (node_of e) 0)
    where
      by_inversion : (m t : Bool) → is_inverted e ≡ t → (node_of e ≡ 0 → ⊥) → Way m (place mode b m operands e d)
      by_inversion true true p h = rw (ne_eqb (node_of e) 0 h, p) (direct p)
      by_inversion true false p h = rw (ne_eqb (node_of e) 0 h, p) (helper_way true h p)
      by_inversion false true p h = rw (ne_eqb (node_of e) 0 h, p) (helper_way false h p)
      by_inversion false false p h = rw (ne_eqb (node_of e) 0 h, p) (direct p)

      go : Dec (node_of e ≡ 0) → Way isMiddle (place mode b isMiddle operands e d)
      go (yes h) = rw (eq-eqb (node_of e) 0 h) (itself h)
      go (no h) = by_inversion isMiddle (is_inverted e) refl h

  pub place_begins : (isMiddle : Bool) → Begins blank d.table (place mode b isMiddle operands e d).draft.table
  place_begins isMiddle = go _ (way isMiddle)
    where
      go : (p : Placed) → Way isMiddle p → Begins blank d.table p.draft.table
      go _ (itself h) = begins_same d.table
      go _ (direct h) = begins_same d.table
      go _ (made some h) = begins_append d.table _
      go _ (serving some h q) = begins_same d.table

  -- what is put there has the block
  pub place_blocks : (k : ℕ) (isMiddle : Bool) → All blank (Blocked k b) d.table → All blank (Blocked k b) (place mode b isMiddle operands e d).draft.table
  place_blocks k isMiddle all = go _ (way isMiddle)
    where
      go : (p : Placed) → Way isMiddle p → All blank (Blocked k b) p.draft.table
      go _ (itself h) = all
      go _ (direct h) = all
      go _ (made some h) = all_more _ all (λ l. refl)
      go _ (serving some h q) = all

-- a helper that serves again is one so far
again_so_far : (mode : Mode) (helpers : ℕ → ℕ) (k : ℕ) → (again mode helpers k ≡ 0 → ⊥) → again mode helpers k ≡ helpers k
again_so_far Anew helpers k h = absurd (h refl)
again_so_far Once helpers k h = refl

-- what is known of an edge's operand and of the draft with the helper that it may need
pub record Placement (n : ℕ) (final operands : List ℕ) (isMiddle : Bool) (e : ℕ) (d : Draft) (p : Placed) : Type 0 where
  pub begins : Begins blank d.table p.draft.table
  pub low : p.operand < length p.draft.table + 2
  pub fits : All blank (Fits n) d.table → All blank (Fits n) p.draft.table
  pub serves : (whole : List Record) → Begins blank p.draft.table whole → Serves final whole isMiddle e p.operand
  pub known : Known final operands p.draft

pub placement : {n : ℕ} {final operands : List ℕ} {d : Draft} (mode : Mode) (b : ℕ) (isMiddle : Bool) (e : ℕ) → Known final operands d → n ≤ length d.table → node_of e < length operands
    → Placement n final operands isMiddle e d (place mode b isMiddle operands e d)
placement {n} {final} {operands} {d} mode b isMiddle e known late named = go _ (way mode b operands e d isMiddle)
  where
    same : get_or final (node_of e) 0 ≡ get_or operands (node_of e) 0
    same = known.begins.same (node_of e) named

    low : get_or final (node_of e) 0 < length d.table + 2
    low = known.low (node_of e) named

    constant_low : (m : Bool) → node_of e ≡ 0 → (if m then 1 - e else e) < length d.table + 2
    constant_low true h = omega arith
    constant_low false h = omega arith

    -- the helper that is made
    this : Record
    this = operation b 0 (get_or operands (node_of e) 0) 1

    is_helper : (whole : List Record) → Begins blank (d.table ++ this ∷ []) whole → Helper final whole (node_of e) (length d.table + 2)
    is_helper whole c = record {
      at = length d.table;
      block = b;
      numbered = refl;
      inside = omega (arith, c.longer, length_more d.table this);
      is = begins_last d.table _ c ∙ rw same;
    }

    helpers_grown : (k : ℕ) → (noted (node_of e) (length d.table + 2) d.helpers k ≡ 0 → ⊥) → Dec (k ≡ node_of e)
        → Helper final (d.table ++ this ∷ []) k (noted (node_of e) (length d.table + 2) d.helpers k)
    helpers_grown k h (yes q) = rw (q, eq-eqb (node_of e) (node_of e) refl) (is_helper _ (begins_same _))
    helpers_grown k h (no q) = rw (ne_eqb k (node_of e) q) (helper_more (begins_append d.table _) (known.helpers k (rw (ne_eqb k (node_of e) q) at h)))

    go : (p : Placed) → Way mode b operands e d isMiddle p → Placement n final operands isMiddle e d p
    go _ (itself h) = record { begins = begins_same d.table; low = constant_low isMiddle h; fits = λ all. all; serves = λ whole c. itself h; known = known }
    go _ (direct h) = record { begins = begins_same d.table; low = rw (← same) low; fits = λ all. all; serves = λ whole c. rw (← same) (direct h); known = known }
    go _ (made some h) = record {
      begins = begins_append d.table _;
      low = omega (arith, length_more d.table this);
      fits = λ all. all_more _ all (operation_fits late refl (record { first = omega arith; second = rw (← same) low; third = omega arith }));
      serves = λ whole c. helped some h _ (is_helper whole c);
      known = record {
        begins = known.begins;
        low = λ k l. omega (arith, known.low k l, length_more d.table this);
        helpers = λ k l. helpers_grown k l (ℕ_discrete k (node_of e));
      };
    }
    go _ (serving some h q) =
        let so_far = again_so_far mode d.helpers (node_of e) q in
        let one : Helper final d.table (node_of e) (again mode d.helpers (node_of e)) = rw so_far (known.helpers (node_of e) (rw so_far at q)) in
        record {
          begins = begins_same d.table;
          low = omega (arith, one.numbered, one.inside);
          fits = λ all. all;
          serves = λ whole c. helped some h _ (helper_more c one);
          known = known;
        }

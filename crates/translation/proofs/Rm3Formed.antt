-- The translation of a well-formed table: what stands in it for each node and output, and that it is a well-formed RM3 table.
use Prim.Native.Nat.{ℕ, suc, ◌+◌, ◌-◌, ◌≤◌, ◌<◌}
use mathlib.Core.Path.{◌≡◌, ◌∙◌}
use mathlib.Core.List.{List, [], ◌∷◌}
use native.Mathlib.Omega.{arith}
use lib.ListN.{length, get_or, take, drop, length-append, length-drop}
use lib.Seq.{length-take-le, get_or-take, get_or-drop, get_or-append-add}
use Rattle.majority.specs.Table.{blank, output, record_at, WellFormed}
use Rattle.translation.specs.Rm3.{WellFormed3}
use Rattle.translation.specs.Translate.{Draft, start, all_nodes3, operands_of, parts3, translation, operations}
use Rattle.translation.specs.Block3.{up_to}
use Rattle.majority.specs.declared.Record.{Record}
use Rattle.translation.specs.declared.Mode.{Mode}
use Rattle.translation.proofs.Begins.{Begins, All, begins_same, begins_then, begins_append}
use Rattle.translation.proofs.Rm3Place.{Fits, Blocked, blocked_none}
use Rattle.translation.proofs.Rm3Nodes.{nodes_begin}
use Rattle.translation.proofs.Rm3Stands.{Stands, Translated, nodes_translated}
use Rattle.translation.proofs.Rm3Outputs.{Names, Written, outputs_begin, outputs_blocks, outputs_written}

-- the draft of the inputs and operations of the translation of a table of n inputs and m gates, without the helpers of the outputs
unfoldable node_draft : Mode → ℕ → ℕ → List Record → Draft
node_draft mode n m rs = (all_nodes3 mode n m rs).draft

nodes_first : (mode : Mode) (n m : ℕ) (rs : List Record) → Begins blank (node_draft mode n m rs).table (parts3 mode n m rs).draft.table
unfolding node_draft parts3
nodes_first mode n m rs = let done = all_nodes3 mode n m rs in outputs_begin mode done.operands done.draft [] (drop (n + m) rs)

operations_first : (mode : Mode) (n m : ℕ) (rs : List Record) → Begins blank (parts3 mode n m rs).draft.table (translation mode n m rs)
unfolding translation
operations_first mode n m rs = begins_append (parts3 mode n m rs).draft.table (parts3 mode n m rs).outputs

-- what the translation of a table has in it
pub record Translation (mode : Mode) (n m o : ℕ) (rs : List Record) : Type 0 where
  pub constant : get_or (operands_of mode n m rs) 0 0 ≡ 0
  pub size : length (parts3 mode n m rs).draft.table ≡ n + operations mode n m rs
  pub stands : (j : ℕ) → j < n + m → Stands n (operands_of mode n m rs) (translation mode n m rs) j (record_at rs j)
  pub fits : (j : ℕ) → j < n + operations mode n m rs → Fits n j (record_at (translation mode n m rs) j)
  pub helpers : (j : ℕ) → up_to mode n m rs (n + m) ≤ j → j < n + operations mode n m rs → (record_at (translation mode n m rs) j).block ≡ 0
  pub written : length (parts3 mode n m rs).outputs ≡ o
  pub outputs : (j : ℕ) → j < o
      → Names (operands_of mode n m rs) (translation mode n m rs) (n + operations mode n m rs + 2) (record_at rs (n + m + j)).e1 (record_at (translation mode n m rs) (n + operations mode n m rs + j))

module _ {n m o : ℕ} {rs : List Record} (formed : WellFormed n m o rs) where
  -- the inputs and gates, and the outputs
  pub front : length (take (n + m) rs) ≡ n + m
  front = length-take-le (n + m) rs (omega (arith, formed.whole))

  back : length (drop (n + m) rs) ≡ o
  back = omega (arith, length-drop (n + m) rs, formed.whole)

  node_at : (j : ℕ) → j < n + m → record_at (take (n + m) rs) j ≡ record_at rs j
  node_at j h = get_or-take (n + m) rs j blank h

  module _ (mode : Mode) where
    all_nodes : Translated n (operands_of mode n m rs) (translation mode n m rs) (take (n + m) rs) (length (take (n + m) rs)) (operands_of mode n m rs) (node_draft mode n m rs)
    unfolding operands_of node_draft
    all_nodes =
        nodes_translated mode n _ (translation mode n m rs) (take (n + m) rs)
        (λ j h. node_at j (omega arith) ∙ formed.inputs j h)
        (λ j l h. rw (node_at j (omega (arith, front))) (formed.gates j l (omega (arith, front))))
        (begins_same _) (begins_then (nodes_first mode n m rs) (operations_first mode n m rs))

    nodes : length (operands_of mode n m rs) ≡ suc (n + m)
    nodes = rw front at all_nodes.count

    constant : get_or (operands_of mode n m rs) 0 0 ≡ 0
    unfolding operands_of
    constant = (nodes_begin mode (0 ∷ []) start (take (n + m) rs)).0.same 0 (omega arith)

    all_outputs : Written n (operands_of mode n m rs) (parts3 mode n m rs).draft.table (translation mode n m rs) (drop (n + m) rs) (length (drop (n + m) rs)) (parts3 mode n m rs).draft (parts3 mode n m rs).outputs
    unfolding operands_of node_draft parts3
    all_outputs =
        outputs_written mode (translation mode n m rs) (drop (n + m) rs)
        (record { begins = begins_same _; low = all_nodes.low; helpers = all_nodes.helpers })
        (all_nodes.late (omega (arith, front)))
        all_nodes.fits
        (λ j h. rw (get_or-drop (n + m) rs j blank) (omega (arith, nodes, back, (formed.outputs (n + m + j) (omega arith) (omega (arith, back))).1)))
        (operations_first mode n m rs)

    size : length (parts3 mode n m rs).draft.table ≡ n + operations mode n m rs
    unfolding operations
    size = omega (arith, all_outputs.late)

    -- behind what was made for nodes there are the helpers of outputs
    helpers : All blank (Blocked (up_to mode n m rs (n + m)) 0) (parts3 mode n m rs).draft.table
    unfolding operands_of node_draft parts3
    helpers =
        let done = all_nodes3 mode n m rs in
        rw (rw front at all_nodes.here) (outputs_blocks mode _ done.operands done.draft [] (drop (n + m) rs) (blocked_none done.draft.table 0))

    written : length (parts3 mode n m rs).outputs ≡ o
    written = rw back at all_outputs.count

    pub translated : Translation mode n m o rs
    unfolding translation
    translated =
        let table = (parts3 mode n m rs).draft.table in
        let outputs = (parts3 mode n m rs).outputs in
        record {
          constant = constant;
          size = size;
          stands = λ j h. rw (← node_at j h) (all_nodes.stands j (omega (arith, front)));
          fits = λ j h. rw ((operations_first mode n m rs).same j (omega (arith, size))) (all_outputs.fits.each j (omega (arith, size)));
          helpers = λ j l h. rw ((operations_first mode n m rs).same j (omega (arith, size))) (helpers.each j (omega (arith, size)) l);
          written = written;
          outputs = λ j h. rw (← size, get_or-append-add table outputs j blank, ← get_or-drop (n + m) rs j blank) (all_outputs.outputs.each j (omega (arith, written)));
        }

    whole : length (translation mode n m rs) ≡ n + operations mode n m rs + o
    unfolding translation
    whole = simp length-append (omega (arith, size, written))

    pub translated_formed : WellFormed3 n (operations mode n m rs) o (translation mode n m rs)
    translated_formed = record {
      whole = whole;
      inputs = λ j h. (translated.fits j (omega arith)).an_input h;
      operations = λ j l h. let w = (translated.fits j h).an_operation l in (w.0, w.1.first, w.1.second, w.1.third);
      outputs = λ j l h. output_at _ j (omega arith) (translated.outputs (j - (n + operations mode n m rs)) (omega arith));
    }
      where
        output_at : {e : ℕ} (i j : ℕ) → i ≡ j → Names (operands_of mode n m rs) (translation mode n m rs) (n + operations mode n m rs + 2) e (record_at (translation mode n m rs) i)
            → (record_at (translation mode n m rs) j ≡ output (record_at (translation mode n m rs) j).e1) × ((record_at (translation mode n m rs) j).e1 < n + operations mode n m rs + 2)
        output_at i j same names = rw (← same) (names.is, names.low)

-- What a question that works out worths node by node keeps: the list holds what the nodes so far are worth.
use Rattle.std.proofs.Common.{◌≡◌, ℕ, zero, suc, ◌+◌, ◌-◌, ◌<◌, ◌≤◌, Bool, false, List, get_or, set, sym, ◌∙◌, subst, ⊎_elim, eq-or-lt_of_le, arith, length-set, get_or-set_other, get_or-set_same, lt-ltb}
use Rattle.majority.specs.Edge.{node_of}
use Rattle.majority.specs.Table.{record_at, Below, WellFormed, WithinLimits}
use Rattle.majority.specs.Node.{Meaning, edge_worth, worth}
use Rattle.majority.specs.Value.{values, bit, output_value}
use Rattle.majority.specs.Level.{above, levels, level, output_level}
use Rattle.majority.specs.declared.Record.{Record}
use Rattle.majority.proofs.Nodes.{edge_agrees, node_zero}
use Rattle.majority.proofs.Formed.{input_eq, gate_eq, reads_nodes}
use Rattle.majority.proofs.Levels.{edge_level_lem, level_at_most}
use Rattle.tables.specs.Sound.{Fresh}
use Rattle.questions.specs.inner.Worths.{Holds, HoldsInputs, edge_value, gate_value}
use Rattle.questions.specs.Levelled.{level_at, gate_level}

-- one more worth
pub holds_more : {A : Type 0} (𝓜 : Meaning A) {rs : List Record} {k : ℕ} {ws : List A} (x : A) → k < 1056 → x ≡ worth 𝓜 rs (k + 1) → Holds 𝓜 rs k ws → Holds 𝓜 rs (k + 1) (set ws (k + 1) x)
holds_more 𝓜 {rs} {k} {ws} x h e holds = record {
  room = length-set ws (k + 1) x ∙ holds.room;
  worths = λ i l. ⊎_elim
      (λ q. rw q (get_or-set_same ws (k + 1) x 𝓜.constant (omega (arith, holds.room)) ∙ e))
      (λ q. get_or-set_other ws (k + 1) i x 𝓜.constant (omega arith) ∙ holds.worths i (omega arith))
      (eq-or-lt_of_le l);
}

pub input_more : {a k : ℕ} {vs : List Bool} (x : Bool) → k < 1056 → x ≡ bit a k → HoldsInputs a k vs → HoldsInputs a (k + 1) (set vs (k + 1) x)
input_more {a} {k} {vs} x h e holds = record {
  room = length-set vs (k + 1) x ∙ holds.room;
  constant = get_or-set_other vs (k + 1) 0 x false (omega arith) ∙ holds.constant;
  inputs = λ i l. ⊎_elim
      (λ q. let p : k ≡ i = omega arith in subst (λ (n : ℕ). get_or (set vs (k + 1) x) n false ≡ bit a i) (sym q) (get_or-set_same vs (k + 1) x false (omega (arith, holds.room)) ∙ e ∙ rw p))
      (λ q. get_or-set_other vs (k + 1) (suc i) x false (omega arith) ∙ holds.inputs i (omega arith))
      (eq-or-lt_of_le l);
}

-- an edge to one of the nodes so far
module _ {A : Type 0} (𝓜 : Meaning A) {rs : List Record} {k : ℕ} {ws : List A} (holds : Holds 𝓜 rs k ws) where
  edge_holds : (e : ℕ) → node_of e ≤ k → edge_worth 𝓜 (λ i. get_or ws i 𝓜.constant) e ≡ edge_worth 𝓜 (worth 𝓜 rs) e
  edge_holds e h = edge_agrees 𝓜 _ _ e (holds.worths (node_of e) h)

module _ {n m o : ℕ} {table : List Record} (formed : WellFormed n m o table) where
  -- a record names nodes for which there is room
  pub formed_reads : (i : ℕ) → i < n + m + o → Below (suc (n + m)) (record_at table i)
  formed_reads i h = reads_nodes formed i (omega (arith, formed.whole))

  -- a gate's worth, of edges that are worth what the list says
  gate_holds : {A : Type 0} (𝓜 : Meaning A) {ws : List A} (i : ℕ) → n ≤ i → i < n + m → Holds 𝓜 table i ws
      → 𝓜.gate (edge_worth 𝓜 (λ k. get_or ws k 𝓜.constant) (record_at table i).e1) (edge_worth 𝓜 (λ k. get_or ws k 𝓜.constant) (record_at table i).e2) (edge_worth 𝓜 (λ k. get_or ws k 𝓜.constant) (record_at table i).e3)
      ≡ worth 𝓜 table (i + 1)
  gate_holds 𝓜 {ws} i a b holds =
      let low = (formed.gates i a b).1 in
      let next : i + 1 ≡ suc i = omega arith in
      rw (next, gate_eq formed 𝓜 i a b)
      (cc (edge_holds 𝓜 holds (record_at table i).e1 (omega (arith, low.first)), edge_holds 𝓜 holds (record_at table i).e2 (omega (arith, low.second)), edge_holds 𝓜 holds (record_at table i).e3 (omega (arith, low.third))))

  pub gate_value_lem : (a : ℕ) {vs : List Bool} (i : ℕ) → n ≤ i → i < n + m → Holds (values a) table i vs → gate_value vs (record_at table i) ≡ worth (values a) table (i + 1)
  unfolding edge_worth
  gate_value_lem a i p q holds = gate_holds (values a) i p q holds

  pub gate_level_lem : WithinLimits n m o → {ls : List ℕ} (i : ℕ) → n ≤ i → i < n + m → Holds levels table i ls → gate_level ls (record_at table i) ≡ level table (i + 1)
  unfolding gate_level level_at
  gate_level_lem limits {ls} i p q holds =
      let low = (formed.gates i p q).1 in
      let small : level table (i + 1) ≤ 1057 = omega (arith, level_at_most formed (i + 1) (omega arith), limits) in
      let here : above (get_or ls (node_of (record_at table i).e1) 0) (get_or ls (node_of (record_at table i).e2) 0) (get_or ls (node_of (record_at table i).e3) 0) ≡ level table (i + 1) =
      sym (ap₃ (edge_level_lem _ _) (edge_level_lem _ _) (edge_level_lem _ _)) ∙ gate_holds levels i p q holds
      in
      rw (lt-ltb (node_of (record_at table i).e1) 1057 (omega (arith, low.first)), lt-ltb (node_of (record_at table i).e2) 1057 (omega (arith, low.second)), lt-ltb (node_of (record_at table i).e3) 1057 (omega (arith, low.third)), here) (omega arith)
    where
      ap₃ : {a b d a' b' d' : ℕ} → a ≡ a' → b ≡ b' → d ≡ d' → levels.gate a b d ≡ levels.gate a' b' d'
      ap₃ p q r = cc

  -- the inputs to begin with
  pub values_begin : (a : ℕ) {vs : List Bool} → HoldsInputs a n vs → Holds (values a) table n vs
  values_begin a {vs} given = record { room = given.room; worths = go }
    where
      go : (i : ℕ) → i ≤ n → get_or vs i false ≡ worth (values a) table i
      go zero h = given.constant ∙ sym (node_zero (values a) table)
      go (suc i) h =
          let e : suc i - 1 ≡ i = omega arith in
          given.inputs i h ∙ sym (input_eq formed (values a) i (omega arith) ∙ rw e)

  pub levels_begin : {ls : List ℕ} → Fresh 0 ls → Holds levels table n ls
  levels_begin {ls} fresh = record { room = fresh.room; worths = go }
    where
      go : (i : ℕ) → i ≤ n → get_or ls i 0 ≡ level table i
      go zero h = fresh.all 0 ∙ sym (node_zero levels table)
      go (suc i) h = fresh.all (suc i) ∙ sym (input_eq formed levels i (omega arith))

  -- an output's value
  pub output_value_lem : (a : ℕ) {vs : List Bool} (j : ℕ) → j < o → Holds (values a) table (n + m) vs
      → edge_value vs (record_at table (n + m + j)).e1 ≡ output_value a n m table j
  unfolding edge_worth output_value
  output_value_lem a j h holds =
      let low = formed_reads (n + m + j) (omega arith) in
      edge_holds (values a) holds (record_at table (n + m + j)).e1 (omega (arith, low.first))

  -- the level of the node that it names
  pub output_level_lem : WithinLimits n m o → {ls : List ℕ} (j : ℕ) → j < o → Holds levels table (n + m) ls
      → level_at ls (node_of (record_at table (n + m + j)).e1) ≡ output_level n m table j
  unfolding level_at output_level
  output_level_lem limits j h holds =
      let low = (formed_reads (n + m + j) (omega arith)).first in
      rw (lt-ltb (node_of (record_at table (n + m + j)).e1) 1057 (omega arith)) (holds.worths _ (omega arith))

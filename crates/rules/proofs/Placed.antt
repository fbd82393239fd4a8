-- A table is well formed where each of its records is what its place asks; and a record keeps its place where only its edges change.
use Prim.Native.Nat.{ℕ, suc, ◌+◌, ◌≤◌, ◌<◌}
use mathlib.Core.Path.{◌≡◌, ap, ◌∙◌}
use mathlib.Core.List.{List, map}
use native.Mathlib.Omega.{arith}
use lib.ListN.{length, get_or-map}
use Rattle.majority.specs.Edge.{node_of}
use Rattle.majority.specs.Table.{blank, input, output, record_at, Below, WellFormed}
use Rattle.majority.specs.Edit.{edges}
use Rattle.majority.specs.declared.Record.{Record}

-- among n inputs and m gates, r is what record j has to be
pub record Placed (n m j : ℕ) (r : Record) : Type 0 where
  pub an_input : j < n → r ≡ input
  pub a_gate : n ≤ j → j < n + m → (r.kind ≡ 2) × Below (suc j) r
  pub an_output : n + m ≤ j → (r ≡ output r.e1) × (node_of r.e1 ≤ n + m)

pub placed : {n m o : ℕ} {rs : List Record} → WellFormed n m o rs → (j : ℕ) → j < n + m + o → Placed n m j (record_at rs j)
placed formed j h = record { an_input = formed.inputs j; a_gate = formed.gates j; an_output = λ p. formed.outputs j p h }

pub all_placed : {n m o : ℕ} {rs : List Record} → length rs ≡ n + m + o → ((j : ℕ) → j < n + m + o → Placed n m j (record_at rs j)) → WellFormed n m o rs
all_placed whole each = record {
  whole = whole;
  inputs = λ j h. (each j (omega arith)).an_input h;
  gates = λ j p q. (each j (omega arith)).a_gate p q;
  outputs = λ j p q. (each j q).an_output p;
}

-- a gate among the gates
pub gate_placed : (n m j : ℕ) (r : Record) → n ≤ j → j < n + m → r.kind ≡ 2 → Below (suc j) r → Placed n m j r
gate_placed n m j r from upto kind low = record { an_input = λ h. absurd (omega arith); a_gate = λ p q. (kind, low); an_output = λ p. absurd (omega arith) }

-- record j of a table with m gates becomes record j' of one with m': an input stays one, and so do a gate and an output
pub record Moved (n m m' j j' : ℕ) : Type 0 where
  pub an_input : j' < n → j < n
  pub from_gates : n ≤ j' → n ≤ j
  pub upto_gates : j' < n + m' → j < n + m
  pub an_output : n + m' ≤ j' → n + m ≤ j

pub unmoved : {n m j : ℕ} → Moved n m m j j
unmoved = record { an_input = λ h. h; from_gates = λ h. h; upto_gates = λ h. h; an_output = λ h. h }

-- a record whose edges f keeps low enough
pub edges_below : (f : ℕ → ℕ) {b b' : ℕ} {r : Record} → ((x : ℕ) → node_of x < b → node_of (f x) < b') → Below b r → Below b' (edges f r)
edges_below f lower low = record { first = lower _ low.first; second = lower _ low.second; third = lower _ low.third }

-- a record whose edges f leaves as they are
pub edges_stay : (f : ℕ → ℕ) {b : ℕ} (r : Record) → ((x : ℕ) → node_of x < b → f x ≡ x) → Below b r → edges f r ≡ r
edges_stay f r stays low = rw (stays r.e1 low.first, stays r.e2 low.second, stays r.e3 low.third)

module _ (f : ℕ → ℕ) (zero-stays : f 0 ≡ 0) where
  -- the records of a table whose edges changed
  pub edges_at : (rs : List Record) (j : ℕ) → record_at (map (edges f) rs) j ≡ edges f (record_at rs j)
  edges_at rs j = rw zero-stays at (get_or-map (edges f) rs j blank)

  pub edges_placed : {n m m' j j' : ℕ} {r : Record} → Moved n m m' j j'
      → ((x : ℕ) → node_of x ≤ j → node_of (f x) ≤ j') → ((x : ℕ) → node_of x ≤ n + m → node_of (f x) ≤ n + m')
      → Placed n m j r → Placed n m' j' (edges f r)
  edges_placed {r = r} moved reads names p = record {
    an_input = λ h. rw (p.an_input (moved.an_input h), zero-stays);
    a_gate = λ from upto.
        let w = p.a_gate (moved.from_gates from) (moved.upto_gates upto) in
        (w.0, edges_below f (λ x l. omega (arith, reads x (omega arith))) w.1);
    an_output = λ h. let w = p.an_output (moved.an_output h) in (ap (edges f) w.0 ∙ rw zero-stays, names _ w.1);
  }

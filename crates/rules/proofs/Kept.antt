-- `Kept` holds of no step at all; it and `NodesKept` hold of steps one after another.
use Prim.Native.Nat.{ℕ, suc, ◌+◌, ◌-◌, ◌≤◌, ◌<◌}
use mathlib.Core.Path.{◌≡◌, refl, ap, ◌∙◌}
use mathlib.Core.Bool.{Bool, true, false, ◌&&◌}
use mathlib.Core.List.{List}
use native.Mathlib.Omega.{arith}
use native.Mathlib.Decide.{dec_lt}
use Rattle.majority.specs.Table.{WellFormed}
use Rattle.majority.specs.Value.{value}
use Rattle.rules.specs.Kept.{Moves, turned, NodesKept, Kept}
use Rattle.majority.specs.declared.Record.{Record}
use Rattle.majority.proofs.Logic.{both}
use Rattle.majority.proofs.Meanings.{not_twice}

pub kept_same : {n m o : ℕ} {rs : List Record} → WellFormed n m o rs → Kept 0 n m m o rs rs
kept_same formed = record { formed = formed; outputs = λ a j h. refl; deep = omega arith }

pub kept_then : {δ ε n m₁ m₂ m₃ o : ℕ} {rs₁ rs₂ rs₃ : List Record} → Kept δ n m₁ m₂ o rs₁ rs₂ → Kept ε n m₂ m₃ o rs₂ rs₃ → Kept (δ + ε) n m₁ m₃ o rs₁ rs₃
kept_then p q = record { formed = q.formed; outputs = λ a j h. q.outputs a j h ∙ p.outputs a j h; deep = omega (arith, p.deep, q.deep) }

-- the nodes move twice
abbrev pub moves_then : Moves → Moves → Moves
moves_then p q = record {
  stays = λ k. p.stays k && q.stays (p.place k);
  place = λ k. q.place (p.place k);
  inverted = λ k. turned (q.inverted (p.place k)) (p.inverted k);
}

pub turned_twice : (s t v : Bool) → turned t (turned s v) ≡ turned (turned t s) v
turned_twice true true v = not_twice v
turned_twice false true v = refl
turned_twice s false v = refl

pub nodes_then : {δ ε n m₁ m₂ m₃ o : ℕ} {p q : Moves} {rs₁ rs₂ rs₃ : List Record} → NodesKept δ n m₁ m₂ o p rs₁ rs₂ → NodesKept ε n m₂ m₃ o q rs₂ rs₃
    → NodesKept (δ + ε) n m₁ m₃ o (moves_then p q) rs₁ rs₃
nodes_then {n = n} {m₁} {m₂} {o = o} {p} {q} {rs₁} w u = record {
  formed = u.formed;
  values = λ a k h s.
      let t = both (p.stays k) (q.stays (p.place k)) s in
      u.values a (p.place k) (inside k h) t.1 ∙ ap (turned (q.inverted (p.place k))) (w.values a k h t.0) ∙ turned_twice (p.inverted k) (q.inverted (p.place k)) (value a rs₁ k);
  levels = λ k h s. let t = both (p.stays k) (q.stays (p.place k)) s in omega (arith, w.levels k h t.0, u.levels (p.place k) (inside k h) t.1);
  nodes = λ k h. u.nodes (p.place k) (w.nodes k h);
  gates = λ k h s. let t = both (p.stays k) (q.stays (p.place k)) s in u.gates (p.place k) (w.gates k h t.0) t.1;
  outputs = λ j h.
      let s = w.outputs j h in
      let t = u.outputs j h in
      (rw (s.0, s.1) t.0, ap q.place s.1 ∙ t.1, rw (s.2, s.1, t.2));
}
  where
    inside : (k : ℕ) → k ≤ n + m₁ + o → p.place k ≤ n + m₂ + o
    inside k h = go (dec_lt (n + m₁) k)
      where
        go : Dec (n + m₁ < k) → p.place k ≤ n + m₂ + o
        go (yes l) = let j = k - suc (n + m₁) in let e : k ≡ suc (n + m₁ + j) = omega arith in rw (e, (w.outputs j (omega arith)).1) (omega arith)
        go (no l) = omega (arith, w.nodes k (omega arith))

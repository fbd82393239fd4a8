-- Rule 6, inversion: node g is inverted, every edge that names it with it, and every other node keeps its worth.
use Prim.Native.Nat.{ℕ, suc, ◌+◌, ◌-◌, ◌≤◌, ◌<◌}
use mathlib.Core.Path.{◌≡◌, refl, sym, ap, ◌∙◌}
use mathlib.Core.Bool.{Bool, true, false}
use mathlib.Core.List.{List}
use native.Mathlib.Omega.{arith}
use native.Mathlib.Decide.{ℕ_discrete}
use borrow.Author.Tests.{eq-eqb, ne_eqb}
use lib.Dec.{eqb}
use Rattle.std.specs.Prelude.{if◌then◌else◌}
use Rattle.majority.specs.Edge.{node_of, flip, redirect}
use Rattle.majority.specs.Table.{record_at, Below, WellFormed}
use Rattle.majority.specs.Node.{Meaning, edge_worth, worth}
use Rattle.majority.specs.Value.{values}
use Rattle.majority.specs.Level.{levels, level}
use Rattle.majority.specs.Edit.{edges, node_record, redirect_all}
use Rattle.rules.specs.Rules.{plain, inversion}
use Rattle.rules.specs.Kept.{inverting, NodesKept}
use Rattle.majority.specs.declared.Record.{Record}
use Rattle.majority.proofs.Nodes.{equals, edge_agrees, node_induction, node_zero}
use Rattle.rules.proofs.KeptByNodes.{counterpart_lower}
use Rattle.majority.proofs.Meanings.{SelfDual, dual_values, dual_levels}
use Rattle.rules.proofs.Edges.{flip_node, flip_worth, plain_worth, redirect_related}
use Rattle.rules.proofs.GateNodes.{gate_worth, GateOf, gate_kind, gate_reads, gate_node}
use Rattle.rules.proofs.Redirect.{redirected_at, redirect_formed}
use Rattle.rules.proofs.Become.{become_same, become_other, become_formed}

module _ {n m o g : ℕ} {rs : List Record} (is : GateOf n m o g rs) where
  abbrev r : Record
  r = node_record rs g

  -- g's own edge, inverted
  abbrev self : ℕ
  self = flip (plain g)

  some : 0 < g
  some = omega (arith, is.from)

  self_node : node_of self ≡ g
  self_node = flip_node (plain g) ∙ omega arith

  redirected : GateOf n m o g (redirect_all g self rs)
  redirected = record { formed = redirect_formed g self is.formed some (omega (arith, self_node)); from = is.from; upto = is.upto }

  flipped_reads : Below g (edges flip r)
  flipped_reads =
      let low = gate_reads is in
      record { first = omega (arith, flip_node r.e1, low.first); second = omega (arith, flip_node r.e2, low.second); third = omega (arith, flip_node r.e3, low.third) }

  pub inversion_formed : WellFormed n m o (inversion g rs)
  unfolding inversion
  inversion_formed = become_formed redirected (edges flip r) (gate_kind is) flipped_reads

  inverted : GateOf n m o g (inversion g rs)
  inverted = record { formed = inversion_formed; from = is.from; upto = is.upto }

  record_g : node_record (inversion g rs) g ≡ edges flip r
  unfolding inversion
  record_g = become_same redirected (edges flip r)

  record_other : (j : ℕ) → (j ≡ g - 1 → ⊥) → record_at (inversion g rs) j ≡ edges (redirect g self) (record_at rs j)
  unfolding inversion
  record_other j h = become_other g (edges flip r) (redirect_all g self rs) j h ∙ redirected_at g self is.formed some (omega (arith, self_node)) j

  module _ {A : Type 0} (𝓜 : Meaning A) (dual : SelfDual 𝓜) where
    abbrev old : ℕ → A
    old = worth 𝓜 rs

    abbrev new : ℕ → A
    new = worth 𝓜 (inversion g rs)

    -- node g is inverted and no other
    abbrev Inverts : ℕ → Type 0
    Inverts k = ((k ≡ g → ⊥) → old k ≡ new k) × (k ≡ g → new k ≡ 𝓜.inverse (old k))

    at_g : ((k : ℕ) → k < g → old k ≡ new k) → new g ≡ 𝓜.inverse (old g)
    at_g below =
        let low = gate_reads is in
        let flips : (x : ℕ) → node_of x < g → edge_worth 𝓜 new (flip x) ≡ 𝓜.inverse (edge_worth 𝓜 old x) =
        λ x h. flip_worth 𝓜 dual new x ∙ ap 𝓜.inverse (edge_agrees 𝓜 new old x (sym (below (node_of x) h)))
        in
        gate_node inverted 𝓜
        ∙ ap (gate_worth 𝓜 new) record_g
        ∙ cc (flips r.e1 low.first, flips r.e2 low.second, flips r.e3 low.third)
        ∙ dual.inverses _ _ _
        ∙ ap 𝓜.inverse (sym (gate_node is 𝓜))

    off_g : (j : ℕ) → j < n + m + o → (j ≡ g - 1 → ⊥) → ((k : ℕ) → k ≤ j → Inverts k) → old (suc j) ≡ new (suc j)
    off_g j h other below =
        counterpart_lower is.formed inversion_formed 𝓜 (λ x y. x ≡ y) (equals 𝓜) (redirect g self) j j h h (record_other j other) (λ l. refl)
        (λ x l.
        redirect_related g self 𝓜 dual (λ x y. x ≡ y) (equals 𝓜) old new x
        (λ hit.
        let back : new g ≡ 𝓜.inverse (old g) = (below g (omega arith)).1 refl in
        sym (flip_worth 𝓜 dual new (plain g) ∙ ap 𝓜.inverse (plain_worth 𝓜 new g ∙ back) ∙ dual.twice _))
        (λ miss. (below (node_of x) l).0 miss))

    inverts : (k : ℕ) → k ≤ n + m + o → Inverts k
    inverts =
        node_induction Inverts (n + m + o)
        (λ h. node_zero 𝓜 rs ∙ sym (node_zero 𝓜 (inversion g rs)), λ h. absurd (omega (arith, some)))
        (λ j h below. (
          λ other. off_g j h (λ e. other (omega (arith, some))) below,
          λ hit. rw hit (at_g (λ k l. (below k (omega arith)).0 (λ e. omega arith))),
        ))

    inverts_g : (k : ℕ) → k ≤ n + m + o → new k ≡ (if eqb k g then 𝓜.inverse (old k) else old k)
    inverts_g k h = go (ℕ_discrete k g)
      where
        go : Dec (k ≡ g) → new k ≡ (if eqb k g then 𝓜.inverse (old k) else old k)
        go (yes e) = rw (eq-eqb k g e) ((inverts k h).1 e)
        go (no e) = rw (ne_eqb k g e) (sym ((inverts k h).0 e))

  same_level : (k : ℕ) → k ≤ n + m + o → level (inversion g rs) k ≡ level rs k
  same_level k h = inverts_g levels dual_levels k h ∙ either (eqb k g)
    where
      either : (t : Bool) → (if t then level rs k else level rs k) ≡ level rs k
      either true = refl
      either false = refl

  pub inversion_kept : NodesKept 0 n m m o (inverting g) rs (inversion g rs)
  inversion_kept = record {
    formed = inversion_formed;
    values = λ a k h s. inverts_g (values a) (dual_values a) k h;
    levels = λ k h s. omega (arith, same_level k h);
    nodes = λ k h. h;
    gates = λ k h s. h;
    outputs = λ j h. (refl, refl, ne_eqb (suc (n + m + j)) g (λ e. omega (arith, is.upto)));
  }

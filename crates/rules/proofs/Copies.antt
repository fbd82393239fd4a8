-- A copy of the gates up to g, among gates that are inserted before g. Its root has g's value under an assignment that gives the copy's node and the edge
-- to which it is redirected the same value; and where that edge stands no higher than that node, the root stands no higher than g.
use Prim.Native.Nat.{ℕ, zero, suc, ◌+◌, ◌-◌, ◌≤◌, ◌<◌}
use mathlib.Core.Path.{◌≡◌, refl, sym, ap, ◌∙◌}
use mathlib.Core.List.{List, [], ◌∷◌, ◌++◌, map}
use native.Mathlib.Omega.{arith}
use lib.ListN.{length, get_or, take, drop, length-append, length-take, length-drop, length-map, get_or-append, get_or-map}
use lib.Seq.{get_or-append-add, get_or-take, get_or-drop}
use Rattle.majority.specs.Edge.{node_of, redirect, raised, raise}
use Rattle.majority.specs.Table.{blank, record_at, Below, WellFormed}
use Rattle.majority.specs.Node.{Meaning, edge_worth, worth}
use Rattle.majority.specs.Value.{values, value}
use Rattle.majority.specs.Level.{levels, level}
use Rattle.majority.specs.Edit.{edges, redirect_all, insert}
use Rattle.rules.specs.Rules.{plain}
use Rattle.rules.specs.Voter.{Copy, own, in_block, block_of, copied, root}
use Rattle.majority.specs.declared.Record.{Record}
use Rattle.rules.proofs.Placed.{edges_below}
use Rattle.rules.proofs.Edges.{plain_worth, redirect_lowers}
use Rattle.rules.proofs.Redirect.{redirect_formed, redirect_edge_values, redirect_edge_levels}
use Rattle.rules.proofs.GateNodes.{GateOf}
use Rattle.rules.proofs.Raise.{raised_cases, raise_below, raise_node}
use Rattle.rules.proofs.RaiseNodes.{raised_edge}
use Rattle.rules.proofs.Insert.{insert_new}
use Rattle.rules.proofs.InsertNodes.{GatesInOrder, insert_formed}

-- the edge e may stand for node k: it names no later node and stands no higher
pub record StandsFor (rs : List Record) (k e : ℕ) : Type 0 where
  pub some : 0 < k
  pub lower : node_of e ≤ k
  pub deep : edge_worth levels (level rs) e ≤ level rs k

-- a copy among new gates, after those of `front` and before those of `back`
pub record CopyIn (n g : ℕ) (news rs : List Record) (copy : Copy) : Type 0 where
  pub stands : StandsFor rs copy.node copy.edge
  pub front : List Record
  pub back : List Record
  pub split : news ≡ front ++ (copied n g copy rs ++ back)
  pub begins : length front ≡ copy.before

-- under an assignment that gives the copy's node and edge the same value the copy is exact
abbrev pub Exact : ℕ → List Record → Copy → Type 0
Exact a rs copy = value a rs copy.node ≡ edge_worth (values a) (value a rs) copy.edge

-- in a list it is the same what stands past its end
past_end : (l : List Record) (i : ℕ) (r s : Record) → i < length l → get_or l i r ≡ get_or l i s
past_end [] i r s h = absurd (omega arith)
past_end (x ∷ l) zero r s h = refl
past_end (x ∷ l) (suc i) r s h = past_end l i r s (omega arith)

-- a record that is another but for its block is so with its own
own_block : {b : ℕ} {r : Record} (s : Record) → r ≡ in_block b s → r ≡ in_block r.block s
own_block s e = e ∙ ap (λ (q : Record). in_block q.block s) (sym e)

module _ {n m o g : ℕ} {rs : List Record} (is : GateOf n m o g rs) where
  -- the table with the edges replaced, in its own numbers
  abbrev table : Copy → List Record
  table copy = redirect_all copy.node copy.edge rs

  pub copied_length : (copy : Copy) → length (copied n g copy rs) ≡ g - n
  unfolding copied redirect_all
  copied_length copy = simp (length-map, length-take, length-drop) (omega (arith, is.formed.whole, is.from, is.upto))

  -- a record, as it stands in a copy
  abbrev placed : Copy → Record → Record
  placed copy r = in_block (block_of rs g) (edges (own n g copy.before) r)

  copied_at : (copy : Copy) (i : ℕ) → i < g - n → record_at (copied n g copy rs) i ≡ placed copy (record_at (table copy) (n + i))
  unfolding copied
  copied_at copy i h =
      let gates = take (g - n) (drop n (table copy)) in
      past_end (map (placed copy) gates) i blank (placed copy blank) (omega (arith, copied_length copy))
      ∙ get_or-map (placed copy) gates i blank
      ∙ ap (placed copy) (get_or-take (g - n) (drop n (table copy)) i blank h ∙ get_or-drop n (table copy) i blank)

  module _ {news : List Record} {copy : Copy} (here : CopyIn n g news rs copy) where
    -- by how much a copied gate stands higher
    abbrev d : ℕ
    d = g + copy.before - suc n

    formed : WellFormed n m o (table copy)
    formed = redirect_formed copy.node copy.edge is.formed here.stands.some here.stands.lower

    room : copy.before + (g - n) ≤ length news
    room = omega (arith, here.begins, copied_length copy, simp length-append at (ap length here.split))

    pub there : (i : ℕ) → i < g - n → record_at news (copy.before + i) ≡ placed copy (record_at (table copy) (n + i))
    there i h =
        ap (λ (k : ℕ). record_at news (k + i)) (sym here.begins)
        ∙ ap (λ (l : List Record). record_at l (length here.front + i)) here.split
        ∙ get_or-append-add here.front (copied n g copy rs ++ here.back) i blank
        ∙ get_or-append (copied n g copy rs) here.back blank i (omega (arith, copied_length copy))
        ∙ copied_at copy i h

    -- what gate i reads, before that is read in the copy's own numbers
    pub copy_reads : (i : ℕ) → i < g - n → Below (suc (n + i)) (record_at (table copy) (n + i))
    copy_reads i h = (formed.gates (n + i) (omega arith) (omega (arith, is.upto))).1

    -- an edge to a node up to n + i, in the copy's own numbers
    own_reads : (i x : ℕ) → node_of x ≤ n + i → node_of (own n g copy.before x) < g + (copy.before + i)
    own_reads i x h =
        rw (raise_node (suc n) d x) (raised_cases (suc n) d (λ k. k < g + (copy.before + i)) (node_of x) (λ l. omega (arith, is.from)) (λ l. omega (arith, is.from)))

    pub copy_gate : (i : ℕ) → i < g - n → ((record_at news (copy.before + i)).kind ≡ 2) × Below (g + (copy.before + i)) (record_at news (copy.before + i))
    copy_gate i h =
        let w = formed.gates (n + i) (omega arith) (omega (arith, is.upto)) in
        let low = edges_below (own n g copy.before) (λ x l. own_reads i x (omega arith)) w.1 in
        rw (there i h) (w.0, record { first = low.first; second = low.second; third = low.third })

    -- what stands in the table for the plain edge to g
    abbrev top : ℕ
    top = redirect copy.node copy.edge (plain g)

    top_reads : node_of top ≤ g
    top_reads = omega (arith, redirect_lowers copy.node copy.edge here.stands.lower (plain g))

    pub root_reads : node_of (root n g copy) < g + length news
    root_reads =
        let l : node_of (root n g copy) < g + (copy.before + (g - n)) = own_reads (g - n) _ (omega (arith, is.from, top_reads)) in
        omega (arith, room)

    module _ (gates : GatesInOrder g news) where
      abbrev after : List Record
      after = insert g news rs

      gate_after : (j : ℕ) → n ≤ j → j < g → record_at after (j + d) ≡ placed copy (record_at (table copy) j)
      gate_after j from h =
          let p : j + d ≡ g - 1 + (copy.before + (j - n)) = omega (arith, is.from) in
          let q : n + (j - n) ≡ j = omega arith in
          ap (record_at after) p
          ∙ insert_new g news rs (omega arith) (omega (arith, is.formed.whole, is.upto)) (copy.before + (j - n)) (omega (arith, room))
          ∙ there (j - n) (omega arith)
          ∙ ap (λ (i : ℕ). placed copy (record_at (table copy) i)) q

      -- the block of what stands for record j
      abbrev block : ℕ → ℕ
      block j = (record_at after (raised n d j)).block

      record_after : (j : ℕ) → j < g → record_at after (raised (suc n - 1) d j) ≡ in_block (block j) (edges (raise (suc n) d) (record_at (table copy) j))
      record_after j h =
          let one : suc n - 1 ≡ n = omega arith in
          rw one
          (raised_cases n d (λ k. record_at after k ≡ in_block (record_at after k).block (edges (raise (suc n) d) (record_at (table copy) j))) j
          (λ l. rw ((insert_formed is news gates).inputs j l, formed.inputs j l, raise_below (suc n) d 0 (omega arith)))
          (λ l. own_block (edges (raise (suc n) d) (record_at (table copy) j)) (gate_after j l h)))

      inside : g + d ≤ n + (m + length news) + o
      inside = omega (arith, is.from, is.upto, room)

      module _ {A : Type 0} (𝓜 : Meaning A) where
        copy_root : edge_worth 𝓜 (worth 𝓜 (table copy)) top ≡ edge_worth 𝓜 (worth 𝓜 after) (root n g copy)
        copy_root = raised_edge formed (insert_formed is news gates) (suc n) d g (omega arith) (omega (arith, is.upto)) inside block record_after 𝓜 top top_reads

      pub copy_exact : (a : ℕ) → Exact a rs copy → edge_worth (values a) (value a after) (root n g copy) ≡ value a rs g
      copy_exact a same =
          sym (copy_root (values a))
          ∙ sym (redirect_edge_values copy.node copy.edge is.formed here.stands.some here.stands.lower a same (plain g) (omega (arith, is.upto)))
          ∙ plain_worth (values a) (value a rs) g

      pub root_level : edge_worth levels (level after) (root n g copy) < level rs g + 1
      root_level =
          let l = redirect_edge_levels copy.node copy.edge is.formed here.stands.some here.stands.lower here.stands.deep (plain g) (omega (arith, is.upto)) in
          omega (arith, copy_root levels, plain_worth levels (level rs) g)

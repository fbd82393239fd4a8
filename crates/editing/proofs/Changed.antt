-- The records of a table that was changed from one record on, or has grown by gates.
use Rattle.std.proofs.Common.{◌≡◌, ℕ, zero, suc, ◌+◌, ◌-◌, ◌%◌, ◌<◌, ◌≤◌, false, ◌||◌, eqb, List, [], ◌∷◌, ◌++◌, map, length, take, drop, set, sym, refl, ap, ◌∙◌, subst, arith, length-append, length-drop, length-set, length-take, length-take-le, get_or-drop, get_or-take, get_or-append-add, le-ltb, lt-ltb}
use native.Mathlib.Decide.{dec_lt}
use lib.ListN.{length-map, get_or-append}
use lib.Seq.{set-append_left}
use Rattle.majority.specs.Edge.{node_of, redirect, raise}
use Rattle.majority.specs.Table.{blank, record_at}
use Rattle.majority.specs.Edit.{edges}
use Rattle.majority.specs.declared.Record.{Record}
use Rattle.majority.proofs.Logic.{neither}
use Rattle.editing.specs.Edited.{names_node, changed_from, raise16, grown}

-- where a node is redirected, a record that does not name it stays
pub unnamed : (k e : ℕ) (r : Record) → names_node k r ≡ false → edges (redirect k e) r ≡ r
unfolding redirect
unnamed k e r h =
    let w = neither (eqb (node_of r.e1) k || eqb (node_of r.e2) k) (eqb (node_of r.e3) k) h in
    let v = neither (eqb (node_of r.e1) k) (eqb (node_of r.e2) k) w.0 in
    simp (v.0, v.1, w.1)

-- no edge rises by no gates
pub raise_none : (g x : ℕ) → x < 65536 → raise16 g 0 x ≡ x
unfolding raise16 raise
raise_none g x h = go (dec_lt (node_of x) g)
  where
    go : Dec (node_of x < g) → raise16 g 0 x ≡ x
    go (yes l) = rw (lt-ltb _ _ l) (omega arith)
    go (no l) = let e : g ≤ node_of x = omega arith in rw (le-ltb _ _ e) (omega arith)

-- only so much of a number of gates counts as an edge can tell
pub raise_wrapped : (g k x : ℕ) → raise16 g (k % 65536) x ≡ raise16 g k x
unfolding raise16 raise
raise_wrapped g k x = go (dec_lt (node_of x) g)
  where
    go : Dec (node_of x < g) → raise16 g (k % 65536) x ≡ raise16 g k x
    go (yes l) = rw (lt-ltb _ _ l)
    go (no l) = let e : g ≤ node_of x = omega arith in rw (le-ltb _ _ e) (omega arith)

pub map_at : (f : Record → Record) (t : List Record) (j : ℕ) → j < length t → record_at (map f t) j ≡ f (record_at t j)
map_at f [] j h = absurd (omega arith)
map_at f (r ∷ t) zero h = refl
map_at f (r ∷ t) (suc j) h = map_at f t j (omega arith)

-- what stands behind the first i records
behind : (t back : List Record) (i k : ℕ) → i ≤ length t → record_at (take i t ++ back) (i + k) ≡ record_at back k
behind t back i k h =
    subst (λ (n : ℕ). record_at (take i t ++ back) (n + k) ≡ record_at back k) (length-take-le i t h) (get_or-append-add (take i t) back k blank)

ahead : (t back : List Record) (i j : ℕ) → i ≤ length t → j < i → record_at (take i t ++ back) j ≡ record_at t j
ahead t back i j h l = get_or-append (take i t) back blank j (omega (arith, length-take-le i t h)) ∙ get_or-take i t j blank l

module _ (f : Record → Record) (i : ℕ) (t : List Record) (inside : i ≤ length t) where
  pub changed_length : length (changed_from f i t) ≡ length t
  unfolding changed_from
  changed_length = simp (length-append, length-take, length-map, length-drop) (omega arith)

  pub changed_low : (j : ℕ) → j < i → record_at (changed_from f i t) j ≡ record_at t j
  unfolding changed_from
  changed_low j h = ahead t (map f (drop i t)) i j inside h

  pub changed_high : (j : ℕ) → i ≤ j → j < length t → record_at (changed_from f i t) j ≡ f (record_at t j)
  unfolding changed_from
  changed_high j h l =
      let e : j ≡ i + (j - i) = omega arith in
      ap (record_at (take i t ++ map f (drop i t))) e
      ∙ behind t (map f (drop i t)) i (j - i) inside
      ∙ map_at f (drop i t) (j - i) (omega (arith, length-drop i t))
      ∙ ap f (get_or-drop i t (j - i) blank ∙ ap (record_at t) (sym e))

set_append_add : (xs ys : List Record) (j : ℕ) (r : Record) → set (xs ++ ys) (length xs + j) r ≡ xs ++ set ys j r
set_append_add [] ys j r = let e : 0 + j ≡ j = omega arith in rw e
set_append_add (x ∷ xs) ys j r = let e : suc (length xs) + j ≡ suc (length xs + j) = omega arith in rw e (ap (λ (l : List Record). x ∷ l) (set_append_add xs ys j r))

module _ (g : ℕ) (news t : List Record) (inside : g - 1 ≤ length t) where
  pub grown_length : length (grown g news t) ≡ length t + length news
  unfolding grown
  grown_length = simp (length-append, length-take, length-map, length-drop) (omega arith)

  pub grown_low : (j : ℕ) → j < g - 1 → record_at (grown g news t) j ≡ record_at t j
  unfolding grown
  grown_low j h = ahead t _ (g - 1) j inside h

  pub grown_new : (j : ℕ) → j < length news → record_at (grown g news t) (g - 1 + j) ≡ record_at news j
  unfolding grown
  grown_new j h = behind t _ (g - 1) j inside ∙ get_or-append news _ blank j h

  pub grown_high : (j : ℕ) → g - 1 ≤ j → j < length t → record_at (grown g news t) (j + length news) ≡ edges (raise16 g (length news)) (record_at t j)
  unfolding grown
  grown_high j h l =
      let f = edges (raise16 g (length news)) in
      let e : j + length news ≡ g - 1 + (length news + (j - (g - 1))) = omega arith in
      let e2 : g - 1 + (j - (g - 1)) ≡ j = omega arith in
      ap (record_at (take (g - 1) t ++ (news ++ map f (drop (g - 1) t)))) e
      ∙ behind t _ (g - 1) (length news + (j - (g - 1))) inside
      ∙ get_or-append-add news _ (j - (g - 1)) blank
      ∙ map_at f (drop (g - 1) t) (j - (g - 1)) (omega (arith, length-drop (g - 1) t))
      ∙ ap f (get_or-drop (g - 1) t (j - (g - 1)) blank ∙ ap (record_at t) e2)

  -- a new record that becomes another
  pub grown_set : (j : ℕ) (r : Record) → j < length news → set (grown g news t) (g - 1 + j) r ≡ grown g (set news j r) t
  unfolding grown
  grown_set j r h =
      let f = map (edges (raise16 g (length news))) (drop (g - 1) t) in
      ap (λ (i : ℕ). set (take (g - 1) t ++ (news ++ f)) (i + j) r) (sym (length-take-le (g - 1) t inside))
      ∙ set_append_add (take (g - 1) t) (news ++ f) j r
      ∙ ap (λ (l : List Record). take (g - 1) t ++ l) (set-append_left news f j r h)
      ∙ ap (λ (c : ℕ). take (g - 1) t ++ (set news j r ++ map (edges (raise16 g c)) (drop (g - 1) t))) (sym (length-set news j r))

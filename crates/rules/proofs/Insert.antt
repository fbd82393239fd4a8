-- Insert: the records of a table into which gates were put before node g. Records below g stay as they are.
use Prim.Native.Nat.{ℕ, ◌+◌, ◌-◌, ◌*◌, ◌≤◌, ◌<◌}
use mathlib.Core.Path.{◌≡◌, sym, ap, ◌∙◌, subst}
use mathlib.Core.List.{List, ◌++◌, map}
use native.Mathlib.Omega.{arith}
use native.Mathlib.Decide.{dec_lt}
use lib.ListN.{length, get_or, take, drop, length-append, length-take, length-drop, length-map, get_or-append}
use lib.Seq.{length-take-le, get_or-append-add, get_or-take, get_or-drop}
use Rattle.majority.specs.Edge.{raised, raise}
use Rattle.majority.specs.Table.{blank, record_at, WellFormed}
use Rattle.majority.specs.Edit.{edges, insert}
use Rattle.majority.specs.declared.Record.{Record}
use Rattle.majority.proofs.Formed.{reads_lower, reads_nodes}
use Rattle.rules.proofs.Placed.{edges_stay, edges_at}
use Rattle.rules.proofs.KeptByNodes.{Each}
use Rattle.rules.proofs.Raise.{raised_below, raised_from, raised_cases, raise_below, raise_fits}

-- a list with others put before its element i
module _ {A : Type 0} (i : ℕ) (news l : List A) (d : A) (fits : i ≤ length l) where
  abbrev put : List A
  put = take i l ++ (news ++ drop i l)

  put_before : (j : ℕ) → j < i → get_or put j d ≡ get_or l j d
  put_before j h = get_or-append (take i l) (news ++ drop i l) d j (omega (arith, length-take-le i l fits)) ∙ get_or-take i l j d h

  put_past : (t : ℕ) → get_or put (i + t) d ≡ get_or (news ++ drop i l) t d
  put_past t = subst (λ (n : ℕ). get_or put (n + t) d ≡ get_or (news ++ drop i l) t d) (length-take-le i l fits) (get_or-append-add (take i l) (news ++ drop i l) t d)

  put_new : (t : ℕ) → t < length news → get_or put (i + t) d ≡ get_or news t d
  put_new t h = put_past t ∙ get_or-append news (drop i l) d t h

  put_after : (j : ℕ) → i ≤ j → get_or put (j + length news) d ≡ get_or l j d
  put_after j h =
      let p : j + length news ≡ i + (length news + (j - i)) = omega arith in
      let q : i + (j - i) ≡ j = omega arith in
      ap (λ (k : ℕ). get_or put k d) p
      ∙ put_past (length news + (j - i))
      ∙ get_or-append-add news (drop i l) (j - i) d
      ∙ get_or-drop i l (j - i) d
      ∙ ap (λ (k : ℕ). get_or l k d) q

module _ (g : ℕ) (news rs : List Record) (some : 0 < g) (fits : g - 1 ≤ length rs) where
  abbrev table : List Record
  table = map (edges (raise g (length news))) rs

  room : g - 1 ≤ length table
  room = omega (arith, length-map rs (edges (raise g (length news))))

  pub insert_length : length (insert g news rs) ≡ length rs + length news
  unfolding insert
  insert_length = simp (length-append, length-take, length-drop, length-map) (omega arith)

  -- record j, with its edges raised, where it is now
  pub insert_old : (j : ℕ) → record_at (insert g news rs) (raised (g - 1) (length news) j) ≡ edges (raise g (length news)) (record_at rs j)
  unfolding insert
  insert_old j =
      raised_cases (g - 1) (length news) (λ k. record_at (insert g news rs) k ≡ record_at table j) j
      (put_before (g - 1) news table blank room j)
      (put_after (g - 1) news table blank room j)
      ∙ edges_at (raise g (length news)) (raise_below g (length news) 0 (omega arith)) rs j

  pub insert_new : (t : ℕ) → t < length news → record_at (insert g news rs) (g - 1 + t) ≡ record_at news t
  unfolding insert
  insert_new t h = put_new (g - 1) news table blank room t h

  -- every record is an old one or a new one
  pub insert_cases : (P : ℕ → Record → Type 0)
      → ((j : ℕ) → j < length rs → P (raised (g - 1) (length news) j) (edges (raise g (length news)) (record_at rs j)))
      → ((t : ℕ) → t < length news → P (g - 1 + t) (record_at news t))
      → (k : ℕ) → k < length rs + length news → P k (record_at (insert g news rs) k)
  insert_cases P old new k h = go (dec_lt k (g - 1)) (dec_lt k (g - 1 + length news))
    where
      from_old : (j : ℕ) → j < length rs → raised (g - 1) (length news) j ≡ k → P k (record_at (insert g news rs) k)
      from_old j l e = subst (λ (n : ℕ). P n (record_at (insert g news rs) n)) e (rw (insert_old j) (old j l))

      go : Dec (k < g - 1) → Dec (k < g - 1 + length news) → P k (record_at (insert g news rs) k)
      go (yes p) _ = from_old k (omega arith) (raised_below (g - 1) (length news) k p)
      go (no p) (yes q) =
          let e : g - 1 + (k - (g - 1)) ≡ k = omega arith in
          subst (λ (n : ℕ). P n (record_at (insert g news rs) n)) e (rw (insert_new (k - (g - 1)) (omega arith)) (new (k - (g - 1)) (omega arith)))
      go (no p) (no q) = from_old (k - length news) (omega arith) (raised_from (g - 1) (length news) (k - length news) (omega arith) ∙ omega arith)

module _ {n m o : ℕ} {rs : List Record} (formed : WellFormed n m o rs) (g : ℕ) (news : List Record) where
  -- below g nothing is renumbered
  pub raise_lower : (j : ℕ) → j < length rs → j < g → edges (raise g (length news)) (record_at rs j) ≡ record_at rs j
  raise_lower j h l = edges_stay (raise g (length news)) (record_at rs j) (λ x p. raise_below g (length news) x (omega arith)) (reads_lower formed j h)

  -- no raised edge passes the last node's, c higher
  pub raise_within : (c j : ℕ) → j < length rs → Each (λ x. raise g c x ≤ 2 * (n + m + c) + 1) (record_at rs j)
  raise_within c j h =
      let low = reads_nodes formed j h in
      let fits = raise_fits g c (n + m) in
      (fits _ (omega (arith, low.first)), fits _ (omega (arith, low.second)), fits _ (omega (arith, low.third)))

  pub insert_below : 0 < g → g - 1 ≤ length rs → (j : ℕ) → j < g - 1 → record_at (insert g news rs) j ≡ record_at rs j
  insert_below some fits j h =
      ap (record_at (insert g news rs)) (sym (raised_below (g - 1) (length news) j h)) ∙ insert_old g news rs some fits j ∙ raise_lower j (omega arith) (omega arith)

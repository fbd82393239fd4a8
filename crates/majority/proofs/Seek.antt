-- The first number at which a test holds, one turn of a search at a time, and what it means.
use Prim.Native.Nat.{ℕ, zero, suc, ◌+◌, ◌-◌, ◌≤◌, ◌<◌}
use mathlib.Core.Path.{◌≡◌, refl, ◌∙◌}
use mathlib.Core.Bool.{Bool, true, false}
use mathlib.Core.Logic.{⊎_elim}
use native.Mathlib.Nat.{eq-or-lt_of_le, sub-zero}
use native.Mathlib.Numerals.{add-one}
use native.Mathlib.Omega.{arith}
use borrow.Author.Tests.{ltb-false}
use lib.Dec.{ltb}
use Rattle.std.specs.Prelude.{if◌then◌else◌}
use Rattle.majority.specs.Seek.{first_from, first}

-- a loop that seeks w and stands at i: what is left decides
abbrev pub Seeking : (ℕ → Bool) → ℕ → ℕ → ℕ → Type 0
Seeking p n i w = w ≡ first_from p i (n - i)

module _ (p : ℕ → Bool) (n : ℕ) where
  pub seek_start : Seeking p n 0 (first p n)
  seek_start = rw sub-zero

  left : (i : ℕ) → i < n → n - i ≡ suc (n - (i + 1))
  left i h = omega arith

  pub seek_stop : (i w : ℕ) → i < n → p i ≡ true → Seeking p n i w → w ≡ i
  unfolding first_from
  seek_stop i w h t s = s ∙ rw (left i h, t)

  pub seek_next : (i w : ℕ) → i < n → p i ≡ false → Seeking p n i w → Seeking p n (i + 1) w
  unfolding first_from
  seek_next i w h t s = s ∙ rw (left i h, t, add-one i)

  pub seek_end : (i w : ℕ) → n ≤ i → i ≤ n → Seeking p n i w → w ≡ n
  unfolding first_from
  seek_end i w h l s =
      let z : n - i ≡ 0 = omega arith in
      let e : i ≡ n = omega arith in
      s ∙ rw (z, e)

module _ (p : ℕ → Bool) where
  -- where the test fails at every number, the search finds nothing
  pub nothing_there : (k i : ℕ) → ((j : ℕ) → i ≤ j → j < i + k → p j ≡ false) → first_from p i k ≡ i + k
  unfolding first_from
  nothing_there zero i none = omega arith
  nothing_there (suc k) i none = rw (none i (omega arith) (omega arith)) (nothing_there k (suc i) (λ j a b. none j (omega arith) (omega arith)) ∙ omega arith)

  -- the test fails below i and holds at i
  pub found_at : (k i j : ℕ) → i ≤ j → j < i + k → ((l : ℕ) → i ≤ l → l < j → p l ≡ false) → p j ≡ true → first_from p i k ≡ j
  unfolding first_from
  found_at zero i j a b fails holds = absurd (omega arith)
  found_at (suc k) i j a b fails holds =
      ⊎_elim
      (λ e. let t : p i ≡ true = rw e holds in rw t e)
      (λ l. rw (fails i (omega arith) l) (found_at k (suc i) j l (omega arith) (λ m c d. fails m (omega arith) d) holds))
      (eq-or-lt_of_le a)

  -- what is found lies in the range, the test holds there, and fails before it
  pub found_in_lem : (k i : ℕ) → (i ≤ first_from p i k) × (first_from p i k ≤ i + k)
  unfolding first_from
  found_in_lem zero i = (omega arith, omega arith)
  found_in_lem (suc k) i = go (p i) (found_in_lem k (suc i))
    where
      go : (t : Bool) → (suc i ≤ first_from p (suc i) k) × (first_from p (suc i) k ≤ suc i + k)
          → (i ≤ (if t then i else first_from p (suc i) k)) × ((if t then i else first_from p (suc i) k) ≤ i + suc k)
      go true h = (omega arith, omega arith)
      go false h = (omega arith, omega arith)

  pub fails_before : (k i j : ℕ) → i ≤ j → j < first_from p i k → p j ≡ false
  unfolding first_from
  fails_before zero i j a b = absurd (omega arith)
  fails_before (suc k) i j a b = go (p i) refl b (fails_before k (suc i) j)
    where
      go : (t : Bool) → p i ≡ t → j < (if t then i else first_from p (suc i) k) → (suc i ≤ j → j < first_from p (suc i) k → p j ≡ false) → p j ≡ false
      go true q b rest = absurd (omega arith)
      go false q b rest = ⊎_elim (λ u. rw u at q) (λ u. rest u b) (eq-or-lt_of_le a)

  pub holds_there : (k i : ℕ) → first_from p i k < i + k → p (first_from p i k) ≡ true
  unfolding first_from
  holds_there zero i h = absurd (omega arith)
  holds_there (suc k) i h = go (p i) refl h (holds_there k (suc i))
    where
      go : (t : Bool) → p i ≡ t → (if t then i else first_from p (suc i) k) < i + suc k
          → (first_from p (suc i) k < suc i + k → p (first_from p (suc i) k) ≡ true) → p (if t then i else first_from p (suc i) k) ≡ true
      go true q h rest = q
      go false q h rest = rest (omega arith)

  past : (k m i : ℕ) → k ≤ m → i + k ≤ first_from p i k → first_from p i m ≡ first_from p (i + k) (m - k)
  unfolding first_from
  past zero m i l h =
      let e : i + 0 ≡ i = omega arith in
      let d : m - 0 ≡ m = omega arith in
      rw (e, d)
  past (suc k) zero i l h = absurd (omega arith)
  past (suc k) (suc m) i l h = go (p i) h (past k m (suc i) (omega arith))
    where
      go : (t : Bool) → i + suc k ≤ (if t then i else first_from p (suc i) k)
          → (suc i + k ≤ first_from p (suc i) k → first_from p (suc i) m ≡ first_from p (suc i + k) (m - k))
          → (if t then i else first_from p (suc i) m) ≡ first_from p (i + suc k) (suc m - suc k)
      go true h rest = absurd (omega arith)
      go false h rest =
          let e : i + suc k ≡ suc i + k = omega arith in
          let d : suc m - suc k ≡ m - k = omega arith in
          rw (e, d) (rest (omega arith))

  -- a search of the numbers from a up to n, after one up to b
  module _ (a b n : ℕ) (start : a ≤ b) (inside : b ≤ n) where
    pub seek_found : first_from p a (b - a) < b → first_from p a (n - a) ≡ first_from p a (b - a)
    seek_found h =
        let w = found_in_lem (b - a) a in
        found_at (n - a) a (first_from p a (b - a)) w.0 (omega arith) (fails_before (b - a) a) (holds_there (b - a) a (omega arith))

    pub seek_past : b ≤ first_from p a (b - a) → first_from p a (n - a) ≡ first_from p b (n - b)
    seek_past h =
        let e : a + (b - a) ≡ b = omega arith in
        let d : n - a - (b - a) ≡ n - b = omega arith in
        past (b - a) (n - a) a (omega arith) (omega arith) ∙ rw (e, d)

  -- a search over n numbers that found none below n
  pub all_fail : (n : ℕ) → ltb (first p n) n ≡ false → (j : ℕ) → j < n → p j ≡ false
  all_fail n e j h =
      let l : n ≤ first p n = ltb-false _ _ e in
      fails_before n 0 j (omega arith) (omega arith)

-- two tests that agree find the same
pub same_found : (p q : ℕ → Bool) (k i : ℕ) → ((j : ℕ) → i ≤ j → j < i + k → p j ≡ q j) → first_from p i k ≡ first_from q i k
unfolding first_from
same_found p q zero i same = refl
same_found p q (suc k) i same = rw (same i (omega arith) (omega arith), same_found p q k (suc i) (λ j a b. same j (omega arith) (omega arith)))

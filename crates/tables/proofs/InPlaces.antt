-- Places of which the first were changed: how many there are, what each holds, and one more changed.
use Prim.Native.Nat.{ℕ, zero, suc, ◌+◌, ◌≤◌, ◌<◌}
use mathlib.Core.Path.{◌≡◌, refl, ap, ◌∙◌}
use mathlib.Core.List.{List, [], ◌∷◌}
use native.Mathlib.Omega.{arith}
use native.Mathlib.Nat.{add-zero}
use native.Mathlib.Numerals.{add-one}
use lib.ListN.{length, get_or, set}
use Rattle.tables.specs.Places.{in_places}

module _ (f : ℕ → ℕ → ℕ) where
  pub places_none : (g : ℕ) (ps : List ℕ) → in_places f g 0 ps ≡ ps
  unfolding in_places
  places_none g ps = refl

  pub places_length : (g m : ℕ) (ps : List ℕ) → length (in_places f g m ps) ≡ length ps
  unfolding in_places
  places_length g zero ps = refl
  places_length g (suc m) [] = refl
  places_length g (suc m) (e ∷ ps) = ap suc (places_length (suc g) m ps)

  -- each of the first m
  pub place_changed : (g m : ℕ) (ps : List ℕ) (j : ℕ) → j < m → j < length ps → get_or (in_places f g m ps) j 0 ≡ f (g + j) (get_or ps j 0)
  unfolding in_places
  place_changed g zero ps j h l = absurd (omega arith)
  place_changed g (suc m) [] j h l = absurd (omega arith)
  place_changed g (suc m) (e ∷ ps) zero h l = rw (add-zero g)
  place_changed g (suc m) (e ∷ ps) (suc j) h l =
      let e : suc g + j ≡ g + suc j = omega arith in
      place_changed (suc g) m ps j (omega arith) (omega arith) ∙ rw e

  -- and each of the others
  pub place_left : (g m : ℕ) (ps : List ℕ) (j : ℕ) → m ≤ j → get_or (in_places f g m ps) j 0 ≡ get_or ps j 0
  unfolding in_places
  place_left g zero ps j h = refl
  place_left g (suc m) [] j h = refl
  place_left g (suc m) (e ∷ ps) zero h = absurd (omega arith)
  place_left g (suc m) (e ∷ ps) (suc j) h = place_left (suc g) m ps j (omega arith)

  -- one more
  place_next : (g m : ℕ) (ps : List ℕ) → m < length ps → set (in_places f g m ps) m (f (g + m) (get_or ps m 0)) ≡ in_places f g (suc m) ps
  unfolding in_places
  place_next g m [] h = absurd (omega arith)
  place_next g zero (e ∷ ps) h = rw (add-zero g)
  place_next g (suc m) (e ∷ ps) h =
      let s : g + suc m ≡ suc g + m = omega arith in
      rw s (ap (λ (qs : List ℕ). f g e ∷ qs) (place_next (suc g) m ps (omega arith)))

  pub places_turn : (g i : ℕ) (ps qs : List ℕ) (x : ℕ) → i < length ps → qs ≡ in_places f g i ps → x ≡ f (g + i) (get_or qs i 0) → set qs i x ≡ in_places f g (i + 1) ps
  places_turn g i ps qs x h is e =
      let held : get_or qs i 0 ≡ get_or ps i 0 = ap (λ (l : List ℕ). get_or l i 0) is ∙ place_left g i ps i (omega arith) in
      rw (add-one, e, held, is) (place_next g i ps h)

-- a change that leaves each as it was
pub places_still : (f : ℕ → ℕ) (m : ℕ) (ps : List ℕ) → ((e : ℕ) → f e ≡ e) → (g : ℕ) → in_places (λ g e. f e) g m ps ≡ ps
unfolding in_places
places_still f zero ps still g = refl
places_still f (suc m) [] still g = refl
places_still f (suc m) (e ∷ ps) still g = let rest = places_still f m ps still (suc g) in λ d. still e d ∷ rest d

-- one change after another
pub places_twice : (f h : ℕ → ℕ → ℕ) (g m : ℕ) (ps : List ℕ) → in_places f g m (in_places h g m ps) ≡ in_places (λ j e. f j (h j e)) g m ps
unfolding in_places
places_twice f h g zero ps = refl
places_twice f h g (suc m) [] = refl
places_twice f h g (suc m) (e ∷ ps) = ap (λ (qs : List ℕ). f g (h g e) ∷ qs) (places_twice f h (suc g) m ps)

-- another change that comes to the same in each of them
pub places_same : (f f' : ℕ → ℕ → ℕ) (g g' m : ℕ) (ps : List ℕ) → ((j : ℕ) → j < m → j < length ps → f (g + j) (get_or ps j 0) ≡ f' (g' + j) (get_or ps j 0)) → in_places f g m ps ≡ in_places f' g' m ps
unfolding in_places
places_same f f' g g' zero ps same = refl
places_same f f' g g' (suc m) [] same = refl
places_same f f' g g' (suc m) (e ∷ ps) same =
    let here : f g e ≡ f' g' e = rw (add-zero g, add-zero g') at (same 0 (omega arith) (omega arith)) in
    let rest = places_same f f' (suc g) (suc g') m ps (λ j h l.
    let p : g + suc j ≡ suc g + j = omega arith in
    let q : g' + suc j ≡ suc g' + j = omega arith in
    rw (p, q) at (same (suc j) (omega arith) (omega arith))) in
    λ d. here d ∷ rest d

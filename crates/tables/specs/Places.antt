-- Lent places, one for each of some things in their order (SPEC 4 and 5.7).
use Rattle.std.specs.Prelude.{ℕ, zero, suc, List, [], ◌∷◌}

-- the places ps, of which the first has the number g: m of them with f of the number and of what the place held, and the others as they were
unfoldable pub in_places : (ℕ → ℕ → ℕ) → ℕ → ℕ → List ℕ → List ℕ
in_places f g zero ps = ps
in_places f g (suc m) [] = []
in_places f g (suc m) (e ∷ ps) = f g e ∷ in_places f (suc g) m ps

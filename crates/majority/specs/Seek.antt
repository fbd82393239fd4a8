-- The first number at which a test holds (SPEC 3: the first bad record).
use Rattle.std.specs.Prelude.{ℕ, zero, suc, Bool, if◌then◌else◌}

-- of the k numbers from i on, the first at which p holds; i + k where it holds at none
unfoldable pub first_from : (ℕ → Bool) → ℕ → ℕ → ℕ
first_from p i zero = i
first_from p i (suc k) = if p i then i else first_from p (suc i) k

-- the first number below n at which p holds, or n
abbrev pub first : (ℕ → Bool) → ℕ → ℕ
first p n = first_from p 0 n

-- What a text spells in decimal (SPEC 9: an assignment as argument).
use Rattle.std.specs.Prelude.{ℕ, ◌+◌, ◌-◌, ◌*◌, ◌^◌, Bool, true, ◌&&◌, List, [], ◌∷◌, length, leb, ltb, eqb, if◌then◌else◌, Option, Some, None}

-- the ASCII codes of the digits 0 to 9
abbrev pub is_digit : ℕ → Bool
is_digit d = leb 48 d && leb d 57

unfoldable pub digits_alone : List ℕ → Bool
digits_alone [] = true
digits_alone (d ∷ ds) = is_digit d && digits_alone ds

-- the number v with the digit d behind it
abbrev pub with_digit : ℕ → ℕ → ℕ
with_digit v d = v * 10 + (d - 48)

-- the number v with a byte behind it: a number below 2^32 where the byte is a digit
unfoldable pub with_byte : ℕ → ℕ → Option ℕ
with_byte v d = if is_digit d && ltb (with_digit v d) (2 ^ 32) then Some (with_digit v d) else None

-- the number v with the digits ds behind it
unfoldable pub with_digits : ℕ → List ℕ → ℕ
with_digits v [] = v
with_digits v (d ∷ ds) = with_digits (with_digit v d) ds

-- what ds spells behind v: a number below 2^32 where it is digits alone
unfoldable pub spelled_after : ℕ → List ℕ → Option ℕ
spelled_after v ds = if digits_alone ds && ltb (with_digits v ds) (2 ^ 32) then Some (with_digits v ds) else None

-- what a text spells: an empty one spells no number
unfoldable pub spelled : List ℕ → Option ℕ
spelled text = if eqb (length text) 0 then None else spelled_after 0 text

-- Values (SPEC 2.3): of a gate, of every node under an assignment, and of the outputs as a number.
use Rattle.std.specs.Prelude.{ℕ, zero, suc, ◌+◌, ◌-◌, ◌/◌, ◌%◌, ◌^◌, Bool, false, not, ◌&&◌, ◌||◌, List, eqb, if◌then◌else◌}
use Rattle.majority.specs.Table.{record_at}
use Rattle.majority.specs.Node.{Meaning, edge_worth, worth}
use Rattle.majority.specs.declared.Record.{Record}

-- at least two of the three are true
unfoldable pub majority_of : Bool → Bool → Bool → Bool
majority_of a b c = (a && b) || (a && c) || (b && c)

-- bit i of a number, the lowest being bit 0
abbrev pub bit : ℕ → ℕ → Bool
bit a i = eqb (a / 2 ^ i % 2) 1

-- 6: a bit is set at position n or above
abbrev pub bit_past : ℕ → ℕ → Bool
bit_past a n = not (eqb (a / 2 ^ n) 0)

-- what values mean under the assignment a: input k is bit k - 1
abbrev pub values : ℕ → Meaning Bool
values a = record { constant = false; input = λ k. bit a (k - 1); inverse = not; gate = majority_of }

-- the value of node k under the assignment a
abbrev pub value : ℕ → List Record → ℕ → Bool
value a = worth (values a)

-- the value of output j, counted from 0, of a table of n inputs and m gates: that of its edge
unfoldable pub output_value : ℕ → ℕ → ℕ → List Record → ℕ → Bool
output_value a n m rs j = edge_worth (values a) (value a rs) (record_at rs (n + m + j)).e1

-- the number of k bits of which bit i is f i
unfoldable pub number : (ℕ → Bool) → ℕ → ℕ
number f zero = 0
number f (suc k) = number f k + (if f k then 2 ^ k else 0)

-- the outputs' number: bit j is output j, counted from 0, and higher bits are zero
unfoldable pub output_number : ℕ → ℕ → ℕ → ℕ → List Record → ℕ
output_number a n m o rs = number (output_value a n m rs) o

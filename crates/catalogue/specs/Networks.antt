-- The networks of the catalogue (SPEC 12): three inputs, the entry's gates, all of block 0, and one output.
use Rattle.std.specs.Prelude.{ℕ, zero, suc, ◌+◌, ◌*◌, ◌/◌, ◌%◌, ◌^◌, List, [], ◌∷◌, ◌++◌, get_or}
use Rattle.majority.specs.Table.{input, gate, output}
use Rattle.majority.specs.declared.Record.{Record}
use Rattle.catalogue.specs.Entries.{entries}

-- hexadecimal digit k of x, four bits from bit 4 * k on, the lowest being digit 0
unfoldable pub digit : ℕ → ℕ → ℕ
digit x k = x / 2 ^ (4 * k) % 16

-- the number of gates of the entry x
abbrev pub gate_count : ℕ → ℕ
gate_count x = digit x 0

-- the gate of the entry x that k others follow
abbrev pub gate_of : ℕ → ℕ → Record
gate_of x k = gate 0 (digit x (3 * k + 4)) (digit x (3 * k + 3)) (digit x (3 * k + 2))

-- the last k gates of the entry x
unfoldable pub gates_of : ℕ → ℕ → List Record
gates_of x zero = []
gates_of x (suc k) = gate_of x k ∷ gates_of x k

-- the table of the entry x
unfoldable pub network_of : ℕ → List Record
network_of x = input ∷ input ∷ input ∷ (gates_of x (gate_count x) ++ output (digit x 1) ∷ [])

-- the entry of the function with the number n
unfoldable pub entry_of : ℕ → ℕ
entry_of n = get_or entries n 0

-- its table
abbrev pub network : ℕ → List Record
network n = network_of (entry_of n)

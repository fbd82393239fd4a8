-- What copying the gates up to g leaves in a buffer (SPEC 5.3, rule 9), with edges of 16 bits.
use Rattle.std.specs.Prelude.{◌≡◌, ℕ, suc, ◌+◌, ◌-◌, ◌*◌, ◌%◌, ◌<◌, ◌≤◌, ltb, List, length, drop, ◌==◌, nat_lt, if◌then◌else◌}
use Rattle.majority.specs.Edge.{flip, redirect}
use Rattle.majority.specs.Edit.{edges}
use Rattle.rules.specs.Voter.{in_block}
use Rattle.tables.specs.Bytes.{record_in}
use Rattle.editing.specs.Edited.{raise16}
use Rattle.rewriting.specs.declared.voting.Copying.{Copying}

-- by how many places a copy stands above the gates that it copies, among n inputs, where `before` inserted gates stand below it
abbrev pub above : ℕ → ℕ → ℕ → ℕ
above n g before = g + before - suc n

-- the edge x in such a copy, in which node k is redirected to the edge e
abbrev pub copy_edge : ℕ → ℕ → ℕ → ℕ → ℕ → ℕ → ℕ
copy_edge n g before k e x = raise16 (suc n) (above n g before) (redirect k e x)

-- how the code copies: the two edges to node k, what stands for each, and where the edges of gates begin and how far they rise
abbrev pub copying_of : ℕ → ℕ → ℕ → ℕ → ℕ → Copying
copying_of n g before k e = record { plain = 2 * k; inverted = 2 * k + 1; to = e; other = flip e; first = 2 * suc n; rise = 2 * above n g before }

unfoldable pub replaced_by : Copying → ℕ → ℕ
replaced_by copy x = if x == copy.plain then copy.to else if x == copy.inverted then copy.other else x

unfoldable pub rise_by : Copying → ℕ → ℕ
rise_by copy x = if nat_lt x copy.first then 0 else copy.rise

unfoldable pub copied_by : Copying → ℕ → ℕ
copied_by copy x = (replaced_by copy x + rise_by copy (replaced_by copy x)) % 65536

-- there is a gate to copy, its copies and the node k have small numbers, and the buffer has their places
pub record Copyable (n g before k : ℕ) (xs : List ℕ) : Type 0 where
  pub some : n < g
  pub small : g + before ≤ 5000
  pub known : k ≤ 5000
  pub room : 8 * (g + above n g before) ≤ length xs

-- ys is xs with copies of its records from the first gate up to g, all in the block b
pub record Copied (n g before k e b : ℕ) (xs ys : List ℕ) : Type 0 where
  pub long : length ys ≡ length xs
  pub rest : drop (8 * (g + above n g before)) ys ≡ drop (8 * (g + above n g before)) xs
  pub records : (j : ℕ) → j < g + above n g before
      → record_in ys j ≡ (if ltb j (n + above n g before) then record_in xs j else in_block b (edges (copy_edge n g before k e) (record_in xs (j - above n g before))))

-- The places of followed gates, one step on (SPEC 5.7).
use Rattle.std.specs.Prelude.{ℕ, ◌+◌, ◌*◌, ◌<◌, ◌≤◌, Bool, ◌&&◌, List, [], ◌∷◌, length, ◌==◌, nat_lt, slice_index, if◌then◌else◌}
use Rattle.majority.specs.Edge.{node_of, flip}
use Rattle.majority.specs.declared.Record.{Record}
use Rattle.majority.specs.declared.Counts.{Counts}
use Rattle.rules.specs.Sweep.{stays}
use Rattle.rules.specs.declared.Step.{Step}
use Rattle.rewriting.specs.Through.{through_steps}
use Rattle.rewriting.specs.Follow.{followed_places}
use Rattle.rewriting.specs.inner.Applied.{used_by}
use Rattle.rewriting.specs.inner.ClosedUp.{new_number, renumber_by}

-- among n inputs and m gates, the edge e is 0 or names a gate
pub record Placed (n m e : ℕ) : Type 0 where
  pub from : 0 < e → n < node_of e
  pub upto : node_of e ≤ n + m

-- and so does each of the first k places
pub record Places (n m k : ℕ) (ps : List ℕ) : Type 0 where
  pub room : k ≤ length ps
  pub each : (j : ℕ) → j < k → Placed n m (slice_index ps j)

-- the first k places after a step on the table with these counts in xs, where it is taken
abbrev pub past_step : List ℕ → Counts → Step → ℕ → List ℕ → List ℕ
past_step xs c s k ps = through_steps (followed_places c.inputs k) xs (used_by c) (s ∷ []) ps

-- the edge e after c gates were put before node g, or after node g was inverted, where t is true
unfoldable pub edited_edge : ℕ → ℕ → Bool → ℕ → ℕ
edited_edge g c t e = if nat_lt (node_of e) g then e else if t && node_of e == g then flip e else e + 2 * c

-- the new number of node k of the table t, 0 where it is dropped
unfoldable pub number_left : List Record → ℕ → ℕ
number_left t k = if stays t k then new_number t k else 0

-- the edge e with its node's number in ns, 0 where that is 0
unfoldable pub left_by : List ℕ → ℕ → ℕ
left_by ns e = if slice_index ns (node_of e) == 0 then 0 else renumber_by ns e

-- Probes (SPEC 5.6): a gate of a first table is followed through steps. It may be swept away; while it is present, it has its first value or the inverse of it, and its first block.
use Rattle.std.specs.Prelude.{ℕ, ◌+◌, ◌%◌, ◌≤◌, ◌<◌, ◌≡◌, Bool, ◌&&◌, List, eqb, if◌then◌else◌}
use Rattle.majority.specs.Edge.{node_of, is_inverted}
use Rattle.majority.specs.Node.{edge_worth}
use Rattle.majority.specs.Value.{values, value}
use Rattle.rules.specs.Voter.{edge_to, block_of}
use Rattle.rules.specs.Kept.{Moves, moves_by, turned}
use Rattle.rules.specs.declared.Step.{Step}
use Rattle.majority.specs.declared.Record.{Record}

-- what became of the gate: its node number now, and how many inversion steps taken named it, each at its number of that moment; or it was swept away
pub data Probe : Type 0 where
  stands : ℕ → ℕ → Probe
  swept : Probe

-- 1 where the step is an inversion, rule 6, and names node k, else 0
abbrev pub inverts : Step → ℕ → ℕ
inverts s k = if eqb s.rule 6 && eqb k s.gate then 1 else 0

-- what becomes of it by a step taken on the table rs of n inputs: insertion and sweep move it, and sweep may take it away
abbrev pub followed : ℕ → List Record → Step → Probe → Probe
followed n rs s (stands k named) = if (moves_by n rs s).stays k then stands ((moves_by n rs s).place k) (named + inverts s k) else swept
followed n rs s swept = swept

abbrev pub odd : ℕ → Bool
odd k = eqb (k % 2) 1

-- the edge that has the gate's first value: to where it stands, inverted where an odd number of inversion steps named it. 0 where it was swept away
abbrev pub edge_of : Probe → ℕ
edge_of (stands k named) = edge_to (odd named) k
edge_of swept = 0

-- what becomes of that edge where the nodes move: 0 stays 0, and so becomes the edge to a node that does not stay
unfoldable pub moved_edge : Moves → ℕ → ℕ
moved_edge moves e =
    let k = node_of e in
    if eqb e 0 then 0
    else if moves.stays k then edge_to (turned (moves.inverted k) (is_inverted e)) (moves.place k)
    else 0

-- and so by a step taken on the table rs of n inputs
abbrev pub followed_edge : ℕ → List Record → Step → ℕ → ℕ
followed_edge n rs s = moved_edge (moves_by n rs s)

-- node g of the table `first` is node k of the table rs of n inputs and m gates, after so many inversion steps that named it
pub record Present (n m : ℕ) (first rs : List Record) (g k named : ℕ) : Type 0 where
  -- it is a gate
  pub from : n < k
  pub upto : k ≤ n + m
  -- its value under each assignment is its first value, or its inverse where that number is odd
  pub same : (a : ℕ) → value a rs k ≡ turned (odd named) (value a first g)
  -- and so the edge has its first value
  pub edge : (a : ℕ) → edge_worth (values a) (value a rs) (edge_of (stands k named)) ≡ value a first g
  -- its block is its first block
  pub block : block_of rs k ≡ block_of first g

-- what the probe p of node g of the table `first` shows in the table rs, and the edge e that is kept for it
pub record Shows (n m : ℕ) (first rs : List Record) (g : ℕ) (p : Probe) (e : ℕ) : Type 0 where
  pub present : (k named : ℕ) → p ≡ stands k named → Present n m first rs g k named
  pub edge : e ≡ edge_of p

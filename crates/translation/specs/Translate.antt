-- The translation to RM3 (SPEC 6.2), in either mode: a node's helper is made anew at each need, or once.
use Rattle.std.specs.Prelude.{ℕ, ◌+◌, ◌-◌, Bool, true, false, List, [], ◌∷◌, ◌++◌, eqb, length, get_or, take, drop, if◌then◌else◌}
use Rattle.majority.specs.Edge.{node_of, is_inverted}
use Rattle.majority.specs.Table.{input, output}
use Rattle.majority.specs.Node.{by_kind}
use Rattle.translation.specs.Rm3.{operation}
use Rattle.majority.specs.declared.Record.{Record}
use Rattle.translation.specs.declared.Class.{Class}
use Rattle.translation.specs.declared.Class.TheVariants.{Constant, Plain, Inverted}
use Rattle.translation.specs.declared.Mode.{Mode}
use Rattle.translation.specs.declared.Mode.TheVariants.{Anew, Once}

-- an edge is constant, or plain or inverted on a node from 1 up
unfoldable pub class_of : ℕ → Class
class_of e = if eqb (node_of e) 0 then Constant else if is_inverted e then Inverted else Plain

abbrev pub by_class : {A : Type 0} → Class → A → A → A → A
by_class Constant c p i = c
by_class Plain c p i = p
by_class Inverted c p i = i

abbrev pub is_constant : Class → Bool
is_constant k = by_class k true false false

abbrev pub is_inverted_class : Class → Bool
is_inverted_class k = by_class k false false true

-- the middle place, counted from 1: the first inverted edge; if none, the first constant edge; if none, the second edge
unfoldable pub middle : Class → Class → Class → ℕ
middle a b c =
    if is_inverted_class a then 1 else if is_inverted_class b then 2 else if is_inverted_class c then 3
    else if is_constant a then 1 else if is_constant b then 2 else if is_constant c then 3
    else 2

-- an edge in this class needs a helper: the middle one where it is plain, any other where it is inverted
abbrev pub needs_helper : Bool → Class → Bool
needs_helper isMiddle k = by_class k false isMiddle (if isMiddle then false else true)

-- the RM3 table so far, and the operand of each node's helper so far, 0 where it has none
pub record Draft : Type 0 where
  pub table : List Record
  pub helpers : ℕ → ℕ

-- with one record more
abbrev pub more : Draft → Record → Draft
more d r = record { table = d.table ++ r ∷ []; helpers = d.helpers }

-- the helper of node k that serves again, 0 where none does: made once it does, made anew it never does
abbrev pub again : Mode → (ℕ → ℕ) → ℕ → ℕ
again Anew helpers k = 0
again Once helpers k = helpers k

-- the helpers so far with x, which is that of node k
abbrev pub noted : ℕ → ℕ → (ℕ → ℕ) → ℕ → ℕ
noted k x helpers i = if eqb i k then x else helpers i

-- an operand for an edge, and the draft with the helper that it may need
pub record Placed : Type 0 where
  pub operand : ℕ
  pub draft : Draft

-- the helper of node k, whose operand is `node`: the one that serves again; else (0, node, 1), of block b, made at the end of the table so far
abbrev pub helper : Mode → ℕ → ℕ → ℕ → Draft → Placed
helper mode b k node d =
    let next = length d.table + 2 in
    if eqb (again mode d.helpers k) 0 then record { operand = next; draft = record { table = d.table ++ operation b 0 node 1 ∷ []; helpers = noted k next d.helpers } }
    else record { operand = again mode d.helpers k; draft = d }

-- the operand for the edge e: that of its node where no helper is needed, else the helper's, of block b where it is made; a constant is itself, and in the
-- middle place its opposite. `operands` has the operand of each node
unfoldable pub place : Mode → ℕ → Bool → List ℕ → ℕ → Draft → Placed
place mode b isMiddle operands e d =
    let node = get_or operands (node_of e) 0 in
    if is_constant (class_of e) then record { operand = if isMiddle then 1 - e else e; draft = d }
    else if needs_helper isMiddle (class_of e) then helper mode b (node_of e) node d
    else record { operand = node; draft = d }

-- the operation of a gate of block b: the first other edge, the middle, the last other edge
abbrev pub in_order_of : ℕ → ℕ → ℕ → ℕ → ℕ → Record
in_order_of b mid x y z = if eqb mid 1 then operation b y x z else if eqb mid 2 then operation b x y z else operation b x z y

-- a gate is translated: helpers in edge order, then its operation, all that is made of its block
unfoldable pub gate3 : Mode → List ℕ → Record → Draft → Draft
gate3 mode operands r d =
    let mid = middle (class_of r.e1) (class_of r.e2) (class_of r.e3) in
    let p = place mode r.block (eqb mid 1) operands r.e1 d in
    let q = place mode r.block (eqb mid 2) operands r.e2 p.draft in
    let s = place mode r.block (eqb mid 3) operands r.e3 q.draft in
    more s.draft (in_order_of r.block mid p.operand q.operand s.operand)

-- the draft with what stands for the node of the record r: an input is itself, a gate is translated
abbrev pub after : Mode → List ℕ → Draft → Record → Draft
after mode operands d r = by_kind r.kind (more d input) (gate3 mode operands r d) d d

-- the operands of the nodes so far, and the draft
pub record Nodes3 : Type 0 where
  pub operands : List ℕ
  pub draft : Draft

-- inputs and gates are translated in order; the operand of each is the last one of the table so far
abbrev pub nodes3 : Mode → List ℕ → Draft → List Record → Nodes3
nodes3 mode operands d [] = record { operands = operands; draft = d }
nodes3 mode operands d (r ∷ rs) =
    let next = after mode operands d r in
    nodes3 mode (operands ++ (length next.table + 1) ∷ []) next rs

-- at first there is node 0 alone, whose operand is 0, and no node has a helper
abbrev pub start : Draft
start = record { table = []; helpers = λ k. 0 }

abbrev pub all_nodes3 : Mode → ℕ → ℕ → List Record → Nodes3
all_nodes3 mode n m rs = nodes3 mode (0 ∷ []) start (take (n + m) rs)

-- the operand of each node of a table of n inputs and m gates
unfoldable pub operands_of : Mode → ℕ → ℕ → List Record → List ℕ
operands_of mode n m rs = (all_nodes3 mode n m rs).operands

-- the draft of inputs and operations with the helpers of the outputs, and the outputs' records
pub record Outputs3 : Type 0 where
  pub draft : Draft
  pub outputs : List Record

-- each output names its edge's operand; an inverted one that is no constant gets a helper, of block 0 where it is made, in output order
abbrev pub outputs3 : Mode → List ℕ → Draft → List Record → List Record → Outputs3
outputs3 mode operands d os [] = record { draft = d; outputs = os }
outputs3 mode operands d os (r ∷ rs) =
    let p = place mode 0 false operands r.e1 d in
    outputs3 mode operands p.draft (os ++ output p.operand ∷ []) rs

-- the parts of the translation of a table of n inputs and m gates: nodes first, and after all gates the outputs
unfoldable pub parts3 : Mode → ℕ → ℕ → List Record → Outputs3
parts3 mode n m rs =
    let done = all_nodes3 mode n m rs in
    outputs3 mode done.operands done.draft [] (drop (n + m) rs)

-- the RM3 table of a table of n inputs and m gates
unfoldable pub translation : Mode → ℕ → ℕ → List Record → List Record
translation mode n m rs = (parts3 mode n m rs).draft.table ++ (parts3 mode n m rs).outputs

-- how many operations it has
unfoldable pub operations : Mode → ℕ → ℕ → List Record → ℕ
operations mode n m rs = length (parts3 mode n m rs).draft.table - n

-- `Writer::place` meets its contract: a constant, a helper that serves again, one that is put, or the operand of the edge's node.
use Prim.Native.Nat.{ℕ}
use borrow.Author.Rules.{rules}
use mathlib.Core.Path.{◌≡◌, sym, ap, ◌∙◌}
use lib.ListN.{get_or}
use Rattle.majority.specs.Edge.{node_of}
use Rattle.translation.specs.Rm3.{operation as operation_record}
use Rattle.translation.specs.Translate.{again as again_of}
use Rattle.tables.specs.Bytes.{put_record}
use Rattle.rm3.specs.inner.Laid.{helper_in}
use Rattle.rm3.proofs.EdgeLaid.{places_constant, places_direct, places_again, places_made}
use Rattle.rm3.proofs.writing.Writer.place.Goals as goal

pub returns-then-middle-clause-places : goal.returns-then-middle-clause-places
returns-then-middle-clause-places c = let a = c.args in
    rw c.if-middle.true (places_constant a.self.now.mode _ _ a.self.now.operands.now a.edge (sym c.node-k.ensures ∙ c.if-k-eq0.true))

pub returns-else-middle-clause-places : goal.returns-else-middle-clause-places
returns-else-middle-clause-places c = let a = c.args in
    rw c.if-middle.false (places_constant a.self.now.mode _ _ a.self.now.operands.now a.edge (sym c.node-k.ensures ∙ c.if-k-eq0.true))

pub returns-then-not-helped-clause-places : goal.returns-then-not-helped-clause-places
returns-then-not-helped-clause-places c = let a = c.args in
    rw c.node-k.ensures
    (places_direct a.self.now.mode _ _ a.self.now.operands.now a.edge (λ q. c.if-k-eq0.false (c.node-k.ensures ∙ q)) (sym c.requires.1 ∙ c.if-not-helped.true))

pub returns-then-known-ne0-clause-places : goal.returns-then-known-ne0-clause-places
returns-then-known-ne0-clause-places c = let a = c.args in
    let is : c.match-self.known ≡ again_of a.self.now.mode (helper_in a.self.now.helpers.now) (node_of a.edge) = search rules in
    places_again a.self.now.mode _ _ a.self.now.operands.now a.edge _ is (λ q. c.if-k-eq0.false (c.node-k.ensures ∙ q)) (sym c.requires.1 ∙ c.if-not-helped.false) c.if-known-ne0.true

pub returns-clause-places : goal.returns-clause-places
returns-clause-places c = let a = c.args in
    let is : c.match-self.known ≡ again_of a.self.now.mode (helper_in a.self.now.helpers.now) (node_of a.edge) = search rules in
    let helper = c.operation.ensures ∙ ap (λ (k : ℕ). operation_record a.block 0 (get_or a.self.now.operands.now k 0) 1) c.node-k.ensures in
    rw (c.put.ensures.bytes ∙ ap (put_record a.self.now.out.now a.self.now.at) helper, c.put.ensures.at, c.put.ensures.helpers, c.node-k.ensures)
    (places_made a.self.now.mode _ _ a.self.now.operands.now a.edge _ is (λ q. c.if-k-eq0.false (c.node-k.ensures ∙ q)) (sym c.requires.1 ∙ c.if-not-helped.false) c.if-known-ne0.false c.requires.0)

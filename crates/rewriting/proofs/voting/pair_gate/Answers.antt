-- `voting::pair_gate` meets its contract: the loop ends at the first gate that has the pair.
use Rattle.std.proofs.Common.{◌≡◌, ◌+◌, max, sym, ap, refl, ◌∙◌, arith}
use Rattle.majority.specs.declared.Counts.{Counts}
use Rattle.rules.specs.Voter.{has_pair}
use Rattle.rewriting.proofs.PairSearch.{pair_found, pair_none}
use Rattle.rewriting.proofs.voting.pair_gate.Goals as goal

pub returns-then-has_pair : goal.returns-then-has_pair
returns-then-has_pair c = let a = c.args in
    let first : c.first_above-c.result ≡ max a.table.now.counts.inputs a.a + 1 =
    c.first_above-c.ensures ∙ ap (λ (k : Counts). max k.inputs a.a + 1) c.counts.ensures.counts
    in
    pair_found c.counts.ensures.formed c.requires.from c.requires.upto a.a a.b (omega (arith, c.requires.order, c.requires.below)) c.loop-c.c
    (λ j p q. c.loop-c.invariant j (omega (arith, first)) q)
    (omega (arith, first, c.loop-c.auto.c))
    (omega (arith, c.loop-c-test.true))
    (ap (has_pair a.a a.b) (sym c.record.ensures.record) ∙ sym c.has_pair.ensures ∙ c.if-has_pair.true)

pub returns : goal.returns
returns c = let a = c.args in
    let first : c.first_above-c.result ≡ max a.table.now.counts.inputs a.a + 1 =
    c.first_above-c.ensures ∙ ap (λ (k : Counts). max k.inputs a.a + 1) c.counts.ensures.counts
    in
    pair_none c.counts.ensures.formed c.requires.from c.requires.upto a.a a.b (omega (arith, c.requires.order, c.requires.below)) (a.gate + 1)
    (λ j p q. c.loop-c.invariant j (omega (arith, first)) (omega (arith, c.loop-c-test.false)))
    refl

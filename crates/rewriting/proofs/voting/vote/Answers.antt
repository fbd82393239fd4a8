-- `voting::vote` meets its contract: room is made, the copies are put there from the last to the first, and the gate becomes their vote.
use Rattle.std.proofs.Common.{◌≡◌, refl, ap, ◌∙◌, arith}
use Rattle.majority.specs.Table.{gate}
use Rattle.majority.specs.declared.Record.{Record}
use Rattle.rules.specs.Voter.{edge_to, pair_polarity, block_of, root, first_copy, second_copy, third_copy}
use Rattle.tables.specs.Sound.{table_in}
use Rattle.rewriting.proofs.Gate.{at_few, at_node}
use Rattle.rewriting.proofs.VoterBytes.{voting_start, third_made, second_made, first_made, found, can_copy, polarity_read, first_root, second_root, third_root, voter_holding}
use Rattle.rewriting.proofs.voting.vote.Goals as goal

pub pair_in-inverted-requires-clause-a : goal.pair_in-inverted-requires-clause-a
pair_in-inverted-requires-clause-a c = omega (arith, c.requires.order, c.requires.below, at_node c.requires.at)

pub pair_in-inverted-requires-clause-b : goal.pair_in-inverted-requires-clause-b
pair_in-inverted-requires-clause-b c = omega (arith, c.requires.below, at_node c.requires.at)

pub edge_to-to_a-requires : goal.edge_to-to_a-requires
edge_to-to_a-requires c = omega (arith, c.requires.order, c.requires.below, at_node c.requires.at)

pub edge_to-to_b-requires : goal.edge_to-to_b-requires
edge_to-to_b-requires c = omega (arith, c.requires.below, at_node c.requires.at)

pub edge_to-not_a-requires : goal.edge_to-not_a-requires
edge_to-not_a-requires c = omega (arith, c.requires.order, c.requires.below, at_node c.requires.at)

pub records-requires : goal.records-requires
records-requires c = at_few c.requires.at

pub copy_gates-requires : goal.copy_gates-requires
copy_gates-requires c = can_copy c.requires _ _ (omega arith) (omega (arith, c.pair_gate-c.ensures, found c.requires)) (voting_start c.requires (rw c.records.ensures at c.make_room.ensures)).long

pub plain-own-requires : goal.plain-own-requires
plain-own-requires c = omega (arith, at_node c.requires.at)

pub returns : goal.returns
returns c = let v = c.args in
    let polarity : c.pair_in-inverted.result ≡ pair_polarity v.counts.inputs v.gate v.a v.b (table_in v.s.now v.counts) = c.pair_in-inverted.ensures ∙ rw (c.node_record.ensures, c.pair_gate-c.ensures, polarity_read c.requires) in
    let to_a : c.edge_to-to_a.result ≡ edge_to (pair_polarity v.counts.inputs v.gate v.a v.b (table_in v.s.now v.counts)) v.a = c.edge_to-to_a.ensures ∙ rw polarity in
    let to_b : c.edge_to-to_b.result ≡ edge_to (pair_polarity v.counts.inputs v.gate v.a v.b (table_in v.s.now v.counts)) v.b = c.edge_to-to_b.ensures ∙ rw polarity in
    let block : c.node_record-block.result.block ≡ block_of (table_in v.s.now v.counts) v.gate =
    ap (λ (r : Record). r.block) c.node_record-block.ensures
    in
    let room = voting_start c.requires (rw c.records.ensures at c.make_room.ensures) in
    let three = third_made c.requires room (rw (c.pair_gate-c.ensures, to_b, block) at c.copy_gates.ensures) in
    let two = second_made c.requires three (rw (c.pair_gate-c.ensures, to_a, block) at c.copy_gates-2.ensures) in
    let one = first_made c.requires two (rw (c.edge_to-not_a.ensures, block) at c.copy_gates-3.ensures) in
    let first : c.edge-first.result ≡ root v.counts.inputs v.gate (first_copy v.counts.inputs v.gate v.a v.b (table_in v.s.now v.counts)) =
    c.edge-first.ensures ∙ rw (c.new.ensures, c.plain-own.ensures, c.edge_to-not_a.ensures) (first_root c.requires)
    in
    let second : c.edge-second.result ≡ root v.counts.inputs v.gate (second_copy v.counts.inputs v.gate v.a v.b (table_in v.s.now v.counts)) =
    c.edge-second.ensures ∙ rw (c.new-2.ensures, c.plain-own.ensures, c.pair_gate-c.ensures, to_a) (second_root c.requires)
    in
    let third : c.edge-third.result ≡ root v.counts.inputs v.gate (third_copy v.counts.inputs v.gate v.a v.b (table_in v.s.now v.counts)) =
    c.edge-third.ensures ∙ rw (c.new-3.ensures, c.plain-own.ensures, c.pair_gate-c.ensures, to_b) (third_root c.requires)
    in
    voter_holding c.requires _ _ (λ i. (c.slice_known-5-1.given i).fits) one refl (λ d. gate (block d) (first d) (second d) (third d)) c.put_record.ensures (λ i. (c.slice_known-6-1.given i).fits)

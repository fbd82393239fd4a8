-- `voting::copy_gates` meets its contract. The loop's invariant: so many records below the gate's place and its own are copied.
use Rattle.std.proofs.Common.{◌≡◌, ◌+◌, ◌-◌, arith}
use Rattle.majority.specs.Edit.{edges}
use Rattle.rules.specs.Voter.{in_block}
use Rattle.rewriting.specs.inner.Copied.{above, copied_by}
use Rattle.rewriting.proofs.CopiedGates.{copying_start, copying_next, copying_end}
use Rattle.rewriting.proofs.voting.copy_gates.Goals as goal

pub loop-done-init : goal.loop-done-init
loop-done-init c = let v = c.args in
    let all : v.gate - 0 ≡ v.gate = omega arith in
    rw all (copying_start (λ r. in_block v.block (edges (copied_by c.new-copy.result) r)) _ _ _)

pub loop-done-preserved : goal.loop-done-preserved
loop-done-preserved c = let v = c.args in
    let place : v.gate - 1 - c.loop-done.done ≡ v.gate - (c.loop-done.done + 1) = omega arith in
    let back : v.gate - (c.loop-done.done + 1) + 1 ≡ v.gate - c.loop-done.done = omega (arith, c.loop-done-test.true) in
    let rise : v.gate + v.before - v.inputs - 1 ≡ above v.inputs v.gate v.before = omega arith in
    let next = copying_next (λ r. in_block v.block (edges (copied_by c.new-copy.result) r)) v.gate (above v.inputs v.gate v.before) v.s.now c.requires.room c.loop-done.s (v.gate - (c.loop-done.done + 1)) (omega (arith, c.loop-done-test.true)) (rw back c.loop-done.invariant) in
    rw (c.put_record.ensures, c.«record».ensures, c.record_at-r.ensures, rise, place) next

pub returns : goal.returns
returns c = let v = c.args in
    let down : v.gate - c.loop-done.done ≡ v.inputs = omega (arith, c.loop-done.auto.done-end, c.loop-done-test.false, c.requires.some) in
    copying_end v.inputs v.gate v.before v.from v.to v.block v.s.now c.loop-done.s (rw (down, c.new-copy.ensures) at c.loop-done.invariant)

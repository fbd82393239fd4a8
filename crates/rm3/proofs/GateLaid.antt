-- A gate's records in bytes: three edges get their operands, one after the other, and the operation follows.
use Prim.Native.Nat.{ℕ, ◌+◌}
use mathlib.Core.Path.{◌≡◌}
use mathlib.Core.List.{List}
use native.Mathlib.Omega.{arith}
use lib.Dec.{eqb}
use Rattle.translation.specs.Translate.{Draft, more, Placed, place, in_order_of, gate3}
use Rattle.majority.specs.declared.Record.{Record}
use Rattle.translation.specs.declared.Mode.{Mode}
use Rattle.translation.proofs.Begins.{length_more}
use Rattle.translation.proofs.Rm3Place.{place_begins}
use Rattle.translation.proofs.Rm3Gate.{middle_of}
use Rattle.tables.specs.Bytes.{put_record}
use Rattle.rm3.specs.inner.Laid.{Grows, Drafted, Writes, Places}
use Rattle.rm3.proofs.TableLaid.{grows_then, grows_put, writes_put}

module _ (mode : Mode) (operands : List ℕ) (gate : Record) {at first second third at1 at2 at3 : ℕ} {hs hs1 hs2 hs3 xs xs1 xs2 xs3 : List ℕ}
    (one : Places (place mode gate.block (eqb (middle_of gate) 1) operands gate.e1) at first at1 hs hs1 xs xs1)
    (two : Places (place mode gate.block (eqb (middle_of gate) 2) operands gate.e2) at1 second at2 hs1 hs2 xs1 xs2)
    (three : Places (place mode gate.block (eqb (middle_of gate) 3) operands gate.e3) at2 third at3 hs2 hs3 xs2 xs3) where
  abbrev made : Record
  made = in_order_of gate.block (middle_of gate) first second third

  -- from one draft of `at` records
  module _ (d : Draft) (so : Drafted at hs d) where
    abbrev p : Placed
    p = place mode gate.block (eqb (middle_of gate) 1) operands gate.e1 d

    abbrev q : Placed
    q = place mode gate.block (eqb (middle_of gate) 2) operands gate.e2 p.draft

    abbrev s : Placed
    s = place mode gate.block (eqb (middle_of gate) 3) operands gate.e3 q.draft

    after_first : Drafted at1 hs1 p.draft
    after_first = one.writes.drafts d so

    after_second : Drafted at2 hs2 q.draft
    after_second = two.writes.drafts p.draft after_first

    after_third : Drafted at3 hs3 s.draft
    after_third = three.writes.drafts q.draft after_second

    whole : gate3 mode operands gate d ≡ more s.draft made
    unfolding gate3
    whole = rw (one.operand d so, two.operand p.draft after_first, three.operand q.draft after_second)

    drafts : Drafted (at3 + 1) hs3 (gate3 mode operands gate d)
    drafts = rw whole ((writes_put made at3 hs3 xs3).drafts s.draft after_third)

    grows : Grows d.table (gate3 mode operands gate d).table xs (put_record xs3 at3 made)
    grows =
        rw (whole, ← after_third.here)
        (grows_then (omega (arith, (place_begins mode gate.block operands gate.e3 q.draft (eqb (middle_of gate) 3)).longer, length_more s.draft.table made))
        (grows_then (place_begins mode gate.block operands gate.e2 p.draft (eqb (middle_of gate) 2)).longer (one.writes.grows d so) (two.writes.grows p.draft after_first))
        (grows_then (omega (arith, length_more s.draft.table made)) (three.writes.grows q.draft after_second) (grows_put s.draft.table made xs3)))

  pub gate_writes : Writes (gate3 mode operands gate) at (at3 + 1) hs hs3 xs (put_record xs3 at3 made)
  gate_writes = record { drafts = drafts; grows = grows }

-- `editing::make_room` meets its contract. The first loop's invariant: as many records as are done have moved up, and those below are as they were. The second
-- loop's: if that was so where it began, it is so.
use Rattle.std.proofs.Common.{◌≡◌, ℕ, ◌+◌, ◌-◌, ◌*◌, ◌/◌, ◌≤◌, false, List, length}
use Rattle.tables.proofs.Encoded.{Bytes}
use Rattle.editing.specs.Edited.{no_room_of}
use Rattle.editing.proofs.Loops.{Moving}
use Rattle.editing.proofs.make_room.Given as goal

abbrev pub invariant-loop-done : goal.invariant-loop-done
invariant-loop-done l = (8 * (l.n + l.k) ≤ length l.initial.s) × (l.done ≤ l.moved) × Bytes l.s × Moving l.initial.s l.n l.g l.k (l.n - l.done) l.s

abbrev pub decreases-loop-done : goal.decreases-loop-done
decreases-loop-done l = l.moved - l.done

abbrev pub invariant-loop-done-2 : goal.invariant-loop-done-2
invariant-loop-done-2 l =
    (8 * (l.n + l.k) ≤ length l.initial.s)
    × (l.done ≤ l.moved)
    × Bytes l.s
    × (length l.s ≡ length l.initial.s)
    × ((xs : List ℕ) → no_room_of (length xs / 8) l.n l.g l.k ≡ false → Moving xs l.n l.g l.k (l.n - l.initial.done) l.initial.s → Moving xs l.n l.g l.k (l.n - l.done) l.s)

abbrev pub decreases-loop-done-2 : goal.decreases-loop-done-2
decreases-loop-done-2 l = l.moved - l.done

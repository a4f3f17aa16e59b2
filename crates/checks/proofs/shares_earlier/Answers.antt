-- `shares_earlier` meets its contract: both rooms are wide and tall.
use Rattle.std.proofs.Common.{arith}
use Rattle.finite.specs.Marks.{marks_more}
use Rattle.checks.proofs.Places.{corners_wide_and_tall}
use Rattle.checks.proofs.shares_earlier.Goals as goal

pub share-found-requires-clause-first_has_size : goal.share-found-requires-clause-first_has_size
share-found-requires-clause-first_has_size c =
    let early = corners_wide_and_tall c.args.lists.now c.requires.not_room_size c.loop-i.i
    (omega (arith, c.loop-i-test.true, c.requires.j_in_bounds)) in
    rw c.room.ensures (omega arith)

pub share-found-requires-clause-second_has_size : goal.share-found-requires-clause-second_has_size
share-found-requires-clause-second_has_size c =
    let late = corners_wide_and_tall c.args.lists.now c.requires.not_room_size c.args.j c.requires.j_in_bounds in
    rw c.room-room.ensures (omega arith)

pub loop-i-preserved : goal.loop-i-preserved
loop-i-preserved c = marks_more _ c.loop-i.i c.loop-i.found c.share-found.result c.loop-i.invariant
    (rw (c.room.ensures, c.room-room.ensures) at c.share-found.ensures)

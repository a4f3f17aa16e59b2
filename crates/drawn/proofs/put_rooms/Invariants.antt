-- After i turns the first i elements are the first i rooms, and the rest is as it was.
use Rattle.std.proofs.Common.{◌≡◌, suc}
use Rattle.finite.specs.Fill.{filled}
use Rattle.drawing.specs.Corners.{room_in}
use Rattle.drawn.proofs.put_rooms.Given as goal

abbrev pub invariant-loop-i : goal.invariant-loop-i
invariant-loop-i l = l.rooms ≡ filled (λ i. room_in l.corners (suc i)) l.i l.initial.rooms

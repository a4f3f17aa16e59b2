use Rattle.std.proofs.Common.{◌+◌, ◌*◌, ◌≤◌}
use Rattle.record.specs.Labels.{label_at}
use Rattle.drawing.specs.Corners.{room_in}
use Rattle.finite.specs.Put.{Put}
use Rattle.text.specs.Places.{corners}
use Rattle.shapes.specs.Picture.{rooms_drawn}
use Rattle.picture.proofs.put_rooms.Given as goal

abbrev pub invariant-loop-i : goal.invariant-loop-i
invariant-loop-i l = record {
  put : Put l.initial.text l.start (rooms_drawn (label_at l.labels) (room_in (corners l.left l.bottom l.right l.top)) l.n l.i) l.text l.at;
  short : l.at ≤ l.start + 154 * l.i;
}

-- `append_rooms`: after i turns the rooms at the first i positions are appended.
use Rattle.std.proofs.Common.{◌≡◌, ◌++◌, ◌+◌, ◌*◌, ◌≤◌, length}
use Rattle.record.specs.Labels.{label_at}
use Rattle.drawing.specs.Corners.{room_in}
use Rattle.shapes.specs.Picture.{rooms_drawn}
use Rattle.picture.proofs.append.append_rooms.Given as goal

abbrev pub invariant-loop-i : goal.invariant-loop-i
invariant-loop-i g l = record {
  put : l.text.items ≡ l.initial.text.items ++ rooms_drawn (label_at l.plan.labels) (room_in l.plan.corners) l.plan.n l.i;
  short : length l.text.items ≤ length l.initial.text.items + 154 * l.i;
}

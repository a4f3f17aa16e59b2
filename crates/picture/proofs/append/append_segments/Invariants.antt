-- `append_segments`: before the turn of line k the segments on the lines below it are appended.
use Rattle.std.proofs.Common.{◌≡◌, ◌++◌, ◌+◌, ◌*◌, ◌-◌, ◌≤◌, length}
use Rattle.record.specs.Labels.{label_at}
use Rattle.drawing.specs.Corners.{room_in}
use Rattle.shapes.specs.Picture.{segments_drawn}
use Rattle.picture.proofs.append.append_segments.Given as goal

abbrev pub invariant-loop-k : goal.invariant-loop-k
invariant-loop-k g l = record {
  put : l.text.items ≡ l.initial.text.items ++ segments_drawn (label_at l.plan.labels) (room_in l.plan.corners) l.plan.n (l.k - 1);
  short : length l.text.items ≤ length l.initial.text.items + 62 * (l.k - 1);
}

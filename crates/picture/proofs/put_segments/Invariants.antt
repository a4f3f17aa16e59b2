use Rattle.std.proofs.Common.{◌+◌, ◌*◌, ◌≤◌}
use Rattle.record.specs.Labels.{label_at}
use Rattle.drawing.specs.Corners.{room_in}
use Rattle.finite.specs.Put.{Put}
use Rattle.text.specs.Places.{corners}
use Rattle.shapes.specs.Picture.{segments_drawn}
use Rattle.picture.proofs.put_segments.Given as goal

abbrev pub invariant-loop-k : goal.invariant-loop-k
invariant-loop-k l = record {
  put :
      Put l.initial.text l.start
      (segments_drawn (label_at l.labels) (room_in (corners l.left l.bottom l.right l.top)) l.n l.k) l.text l.at;
  short : l.at ≤ l.start + 62 * l.k;
}

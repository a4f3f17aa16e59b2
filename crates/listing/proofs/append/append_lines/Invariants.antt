-- `append_lines`: after i turns the lines of the first i positions are appended.
use Rattle.std.proofs.Common.{◌≡◌, ◌++◌, ◌+◌, ◌*◌, ◌≤◌, length}
use Rattle.record.specs.Labels.{label_at}
use Rattle.drawing.specs.Corners.{room_in}
use Rattle.listing.specs.Text.{lines_of}
use Rattle.listing.proofs.append.append_lines.Given as goal

abbrev pub invariant-loop-i : goal.invariant-loop-i
invariant-loop-i g l = record {
  put : l.text.items ≡ l.initial.text.items ++ lines_of (label_at l.plan.labels) (room_in l.plan.corners) l.i;
  short : length l.text.items ≤ length l.initial.text.items + 36 * l.i;
}

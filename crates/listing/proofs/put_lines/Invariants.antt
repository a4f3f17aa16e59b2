use Rattle.std.proofs.Common.{◌+◌, ◌*◌, ◌≤◌}
use Rattle.finite.specs.Put.{Put}
use Rattle.text.specs.Places.{view_in}
use Rattle.listing.specs.Text.{lines_of}
use Rattle.listing.proofs.put_lines.Given as goal

abbrev pub invariant-loop-i : goal.invariant-loop-i
invariant-loop-i l = record {
  put : Put l.initial.text l.start (view_in lines_of l.labels l.left l.bottom l.right l.top l.i) l.text l.at;
  short : l.at ≤ l.start + 36 * l.i;
}

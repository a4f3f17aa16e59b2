-- The indices from i on are done.
use Rattle.std.proofs.Common.{◌-◌, ◌<◌}
use Rattle.record.specs.Record.{triple_in}
use Rattle.backward.proofs.Back.{Left}
use Rattle.backward.specs.Written.{Written}
use Rattle.backward.proofs.Ends.{EndsAt}
use Rattle.backward.proofs.walk.Given as goal

abbrev pub invariant-loop-i : goal.invariant-loop-i
invariant-loop-i l = record {
  left : Left (triple_in l.body) l.n (l.i - 1) l.below l.above l.runs.below l.runs.above l.lowest;
  ends : EndsAt (triple_in l.body) l.n (l.i - 1) l.tops l.rights l.runs.below l.runs.above l.end_up l.end_right;
  written : Written (triple_in l.body) l.n l.i l.initial.labels l.initial.right l.initial.top l.labels l.right l.top;
  more : l.earliest < l.i;
}

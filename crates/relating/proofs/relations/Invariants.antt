use Prim.Native.Nat.{◌-◌}
use Rattle.relating.proofs.Meeting.{Meeting, Ends}
use Rattle.relating.proofs.relations.Given as goal

abbrev pub invariant-loop-k : goal.invariant-loop-k
invariant-loop-k l = Meeting l.body l.first l.second l.n l.k l.lines.across_below l.lines.across_above l.lines.up_below l.lines.up_above l.runs.below l.runs.above l.right l.top l.some_left l.some_below
    × Ends l.last l.end l.some_left l.some_below

abbrev pub decreases-loop-k : goal.decreases-loop-k
decreases-loop-k l = l.n - l.k

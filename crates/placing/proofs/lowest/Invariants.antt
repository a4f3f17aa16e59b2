use Rattle.placing.proofs.Lowering.{Lowering}
use Rattle.placing.proofs.lowest.Given as goal

abbrev pub invariant-loop-k : goal.invariant-loop-k
invariant-loop-k l = Lowering l.body l.widths l.heights l.initial.x l.initial.y l.k l.x l.y l.lines.across_below l.lines.across_above l.lines.up_below l.lines.up_above l.runs.below l.runs.above l.right l.top

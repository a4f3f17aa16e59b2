use Rattle.holding.proofs.Holding.{Holding}
use Rattle.holding.proofs.keeps.Given as goal

abbrev pub invariant-loop-k : goal.invariant-loop-k
invariant-loop-k l = Holding l.body l.widths l.heights l.x l.y l.k l.lines.across_below l.lines.across_above l.lines.up_below l.lines.up_above l.runs.below l.runs.above l.right l.top

use Rattle.grouping.proofs.Bytes.{Looked}
use Rattle.grouping.proofs.in_common.Given as goal

abbrev pub invariant-loop-i : goal.invariant-loop-i
invariant-loop-i l = Looked l.first l.second l.i l.both

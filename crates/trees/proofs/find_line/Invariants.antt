use Prim.Native.Nat.{◌-◌}
use Rattle.record.specs.Labels.{label_at}
use Rattle.slicing.proofs.LineSearch.{Searching}
use Rattle.trees.proofs.find_line.Given as goal

abbrev pub invariant-loop-end : goal.invariant-loop-end
invariant-loop-end l = Searching (label_at l.labels) l.cut l.from l.to l.lowest l.i l.end l.j l.start

abbrev pub decreases-loop-end : goal.decreases-loop-end
decreases-loop-end l = l.j - l.i

use Prim.Native.Nat.{◌-◌}
use lib.ListN.{length}
use Rattle.replaying.proofs.Judging.{Held}
use Rattle.replaying.proofs.judge.Given as goal

abbrev pub invariant-loop-at : goal.invariant-loop-at
invariant-loop-at l = Held l.trace l.kept l.at l.moves l.plan

abbrev pub decreases-loop-at : goal.decreases-loop-at
decreases-loop-at l = length l.trace - l.at

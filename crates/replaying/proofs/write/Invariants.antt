use Prim.Native.Nat.{◌-◌}
use lib.ListN.{length}
use Rattle.replaying.proofs.Writing.{Written}
use Rattle.replaying.proofs.write.Given as goal

abbrev pub invariant-loop-at : goal.invariant-loop-at
invariant-loop-at l = Written l.trace l.initial.states l.states l.kept l.at l.moves l.rooms l.entry

abbrev pub decreases-loop-at : goal.decreases-loop-at
decreases-loop-at l = length l.trace - l.at

use Prim.Native.Nat.{◌-◌}
use lib.ListN.{length}
use Rattle.bookkeeping.specs.Found.{summary_in}
use Rattle.bookkeeping.proofs.Summing.{Summing}
use Rattle.bookkeeping.proofs.sum_up.Given as goal

abbrev pub invariant-loop-place : goal.invariant-loop-place
invariant-loop-place l = Summing l.book l.place (summary_in l.sums)

abbrev pub decreases-loop-place : goal.decreases-loop-place
decreases-loop-place l = length l.book - l.place

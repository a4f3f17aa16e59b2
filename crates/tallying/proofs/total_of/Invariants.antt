use Prim.Native.Nat.{◌-◌}
use Rattle.tallying.specs.Shows.{BothPlanes}
use Rattle.tallying.proofs.total_of.Given as goal

abbrev pub invariant-loop-k : goal.invariant-loop-k
invariant-loop-k l = BothPlanes (l.n - l.k) (l.k - 1) l.pair

use Prim.Native.Nat.{◌≤◌}
use Rattle.numbers.proofs.Passing.{Passing}
use Rattle.numbers.proofs.read.Given as goal

abbrev pub invariant-loop-i : goal.invariant-loop-i
invariant-loop-i l = Passing l.line l.i l.place l.count l.starts × (l.count ≤ 255)

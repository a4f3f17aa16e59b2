use Rattle.tallying.specs.Plane.{Swept}
use Rattle.tallying.proofs.sweep.Given as goal

abbrev pub invariant-loop-i : goal.invariant-loop-i
invariant-loop-i l = Swept l.start l.i l.columns l.initial.planes l.planes

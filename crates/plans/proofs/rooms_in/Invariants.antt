-- `plans::rooms_in` meets its contract: each room that is passed stands at its place in the arrays, where there is such a place.
use Rattle.entering.specs.Gathered.{Holds}
use Rattle.plans.proofs.rooms_in.Given as goal

abbrev pub invariant-loop-i : goal.invariant-loop-i
invariant-loop-i l = Holds l.rooms l.i l.copied

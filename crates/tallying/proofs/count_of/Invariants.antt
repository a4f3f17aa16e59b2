use Rattle.tallying.specs.Shows.{Planes}
use Rattle.tallying.proofs.count_of.Given as goal

abbrev pub invariant-loop-rises_left : goal.invariant-loop-rises_left
invariant-loop-rises_left l = Planes l.rises l.falls l.rises_left l.planes

-- `tallying::sweep_row` meets its contract: each figure from what stood there at the start.
use Rattle.finite.specs.Fill.{Filling}
use Rattle.tallying.specs.Plane.{cell_of}
use Rattle.tallying.proofs.sweep_row.Given as goal

abbrev pub invariant-loop-at : goal.invariant-loop-at
invariant-loop-at l = Filling (cell_of l.initial.planes) l.start l.at l.initial.planes l.planes

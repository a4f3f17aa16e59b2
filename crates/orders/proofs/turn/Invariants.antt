-- `turn` meets its contract: before each turn the links before the one at hand are turned.
use Rattle.finite.specs.Fill.{Filling}
use Rattle.points.specs.Listed.{number_at}
use Rattle.orders.specs.Turns.{turn_of}
use Rattle.orders.proofs.turn.Given as goal

abbrev pub invariant-loop-j : goal.invariant-loop-j
invariant-loop-j l = Filling (turn_of (number_at l.links)) 0 l.j l.initial.turned l.turned

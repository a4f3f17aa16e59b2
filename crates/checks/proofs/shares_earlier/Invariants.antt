-- `shares_earlier` meets its contract: `found` marks whether a room before `i` shares a unit square with room `j`.
use Rattle.finite.specs.Marks.{Marks}
use Rattle.finite.specs.Search.{Some}
use Rattle.rooms.specs.Causes.{ShareSquare}
use Rattle.rooms.specs.Lists.{room_at}
use Rattle.checks.proofs.shares_earlier.Given as goal

abbrev pub invariant-loop-i : goal.invariant-loop-i
invariant-loop-i l = Marks l.found (Some (λ k. ShareSquare (room_at l.lists k) (room_at l.lists l.j)) 0 l.i)

-- `flat` meets its contract: `found` marks whether a room before `i` is flat.
use Rattle.finite.specs.Marks.{Marks}
use Rattle.finite.specs.Search.{Some}
use Rattle.rooms.specs.Lists.{room_at}
use Rattle.checks.specs.CornerLists.{Flat}
use Rattle.checks.proofs.flat.Given as goal

abbrev pub invariant-loop-i : goal.invariant-loop-i
invariant-loop-i l = Marks l.found (Some (λ k. Flat (room_at l.lists k)) 0 l.i)

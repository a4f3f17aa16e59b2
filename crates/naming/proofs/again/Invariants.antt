-- `again` meets its contract: `found` marks whether a room before `i` has the name of room `j`, which is not 0.
use Rattle.std.proofs.Common.{◌≡◌, ◌≢◌, get_or}
use Rattle.finite.specs.Marks.{Marks}
use Rattle.finite.specs.Search.{Some}
use Rattle.naming.proofs.again.Given as goal

abbrev pub invariant-loop-i : goal.invariant-loop-i
invariant-loop-i l =
    (l.name ≡ get_or l.names l.j 0) × (l.name ≢ 0) × Marks l.found (Some (λ k. get_or l.names k 0 ≡ get_or l.names l.j 0) 0 l.i)

use Rattle.std.proofs.Common.{◌≡◌, get_or}
use Rattle.finite.specs.Extremes.{least}
use Rattle.rooms.proofs.lowest.Given as goal

abbrev pub invariant-loop-i : goal.invariant-loop-i
invariant-loop-i l = l.smallest ≡ least (λ k. get_or l.corner k 0) l.i

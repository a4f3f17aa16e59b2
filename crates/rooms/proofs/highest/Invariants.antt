use Rattle.std.proofs.Common.{◌≡◌, get_or}
use Rattle.finite.specs.Extremes.{greatest}
use Rattle.rooms.proofs.highest.Given as goal

abbrev pub invariant-loop-x : goal.invariant-loop-x
invariant-loop-x l = l.largest ≡ greatest (λ k. get_or l.corner k 0) l.x-index

-- `areas` meets its contract: `total` is the sum of the areas before `i`, and at most 65535 times 65535 for each of them, so that it fits.
use Rattle.std.proofs.Common.{◌≡◌, ◌*◌, ◌≤◌}
use Rattle.finite.specs.Sum.{sum}
use Rattle.rooms.specs.Lists.{room_at}
use Rattle.checks.specs.Area.{area_of}
use Rattle.checks.proofs.areas.Given as goal

abbrev pub invariant-loop-i : goal.invariant-loop-i
invariant-loop-i l = (l.total ≡ sum (λ k. area_of (room_at l.lists k)) 0 l.i) × (l.total ≤ 65535 * 65535 * l.i)

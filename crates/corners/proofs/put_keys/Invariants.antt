use Rattle.std.proofs.Common.{◌≡◌, length}
use Rattle.points.specs.Listed.{number_at}
use Rattle.corners.specs.Corners.{Keyed}
use Rattle.corners.proofs.put_keys.Given as goal

abbrev pub invariant-loop-i : goal.invariant-loop-i
invariant-loop-i l = (length l.keys ≡ length l.initial.keys) × Keyed l.i (number_at l.lists.left.now) (number_at l.lists.bottom.now)
    (number_at l.lists.right.now) (number_at l.lists.top.now) (number_at l.keys)

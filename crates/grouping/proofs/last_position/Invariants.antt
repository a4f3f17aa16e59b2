use Prim.Native.Nat.{◌≤◌}
use Rattle.groups.specs.Group.{EachIn}
use Rattle.grouping.proofs.last_position.Given as goal

abbrev pub invariant-loop-i : goal.invariant-loop-i
invariant-loop-i l = (l.i ≤ 256) × EachIn l.group (λ j. j ≤ l.i)

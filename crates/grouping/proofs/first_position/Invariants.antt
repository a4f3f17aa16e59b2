use Prim.Native.Nat.{◌<◌}
use Rattle.groups.specs.Group.{EachIn}
use Rattle.grouping.proofs.first_position.Given as goal

abbrev pub invariant-loop-i : goal.invariant-loop-i
invariant-loop-i l = EachIn l.group (λ j. l.i < j)

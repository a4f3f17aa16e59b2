use Prim.Native.Nat.{◌*◌, ◌≤◌}
use Rattle.groups.specs.Group.{EachIn}
use Rattle.grouping.proofs.bytes_used.Given as goal

abbrev pub invariant-loop-i : goal.invariant-loop-i
invariant-loop-i l = (l.i ≤ 32) × EachIn l.group (λ k. k ≤ 8 * l.i)

use Prim.Native.Nat.{◌*◌, ◌<◌}
use Rattle.groups.specs.Group.{EachIn}
use Rattle.grouping.proofs.bytes_unused.Given as goal

abbrev pub invariant-loop-unused : goal.invariant-loop-unused
invariant-loop-unused l = EachIn l.group (λ k. 8 * l.unused < k)

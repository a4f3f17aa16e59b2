use Rattle.std.proofs.Common.{◌+◌}
use Rattle.orders.specs.Walks.{WalkBoth}
use Rattle.orders.proofs.Walking.{OnTheWay}
use Rattle.orders.proofs.ToGo.{way_of}
use Rattle.orders.proofs.walk.Given as goal

abbrev pub invariant-loop-k : goal.invariant-loop-k
invariant-loop-k l = (w : WalkBoth l.lists l.up l.down l.first_up l.first_down)
    → OnTheWay w.by_position l.initial.by_position l.k l.at l.by_position × OnTheWay w.by_label l.initial.by_label l.j l.other l.by_label

abbrev pub decreases-loop-k : goal.decreases-loop-k
decreases-loop-k l =
    way_of l.lists.left.now l.lists.bottom.now l.lists.top.now l.k l.at + way_of l.lists.left.now l.lists.top.now l.lists.bottom.now l.j l.other

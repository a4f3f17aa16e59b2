use Rattle.std.proofs.Common.{get_or}
use Rattle.finite.specs.Fill.{Filling}
use Rattle.orders.proofs.label_list.Given as goal

abbrev pub invariant-loop-k : goal.invariant-loop-k
invariant-loop-k l = Filling (λ q. get_or l.labels (get_or l.by q 0) 0) 0 l.k l.initial.list l.list

-- `by_position` meets its contract: the names of the rooms at the positions up to k stand in the list.
use Rattle.std.proofs.Common.{get_or}
use Rattle.finite.specs.Fill.{Filling}
use Rattle.naming.proofs.by_position.Given as goal

abbrev pub invariant-loop-k : goal.invariant-loop-k
invariant-loop-k l = Filling (λ q. get_or l.names (get_or l.by q 0) 0) 0 l.k l.initial.list l.list

-- `twice_in_pairs` meets its contract: no room before `j` is named as an earlier one is.
use Rattle.std.proofs.Common.{get_or}
use Rattle.finite.specs.Search.{Some}
use Rattle.naming.specs.Twice.{Again}
use Rattle.naming.proofs.twice_in_pairs.Given as goal

abbrev pub invariant-loop-j : goal.invariant-loop-j
invariant-loop-j l = ¬ Some (Again (λ k. get_or l.names k 0)) 0 l.j

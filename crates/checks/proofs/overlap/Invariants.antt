-- `overlap` meets its contract: no room before `j` shares a unit square with an earlier one.
use Rattle.finite.specs.Search.{Some}
use Rattle.checks.specs.CornerLists.{SharesEarlier}
use Rattle.checks.proofs.overlap.Given as goal

abbrev pub invariant-loop-j : goal.invariant-loop-j
invariant-loop-j l = ¬ Some (SharesEarlier l.lists) 0 l.j

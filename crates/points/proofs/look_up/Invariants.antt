-- `look_up` meets its contract: the keys listed after the one at hand were passed, and none of them is the one that is looked for.
use lib.ListN.{length}
use Rattle.points.specs.Listed.{number_at}
use Rattle.points.proofs.Listings.{Passed}
use Rattle.points.proofs.look_up.Given as goal

abbrev pub invariant-loop-at : goal.invariant-loop-at
invariant-loop-at l = Passed (length l.newest) (number_at l.keys) (length l.keys) l.key l.at

abbrev pub decreases-loop-at : goal.decreases-loop-at
decreases-loop-at l = l.at

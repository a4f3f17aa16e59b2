use Rattle.record.specs.Labels.{label_at}
use lib.ListN.{length}
use Rattle.patterns.specs.Scope.{NoneIn, StartsBefore}
use Rattle.searching.proofs.Placed.search.Given as goal

abbrev pub invariant-loop-i : goal.invariant-loop-i
invariant-loop-i l = NoneIn (label_at l.self.labels.now) (length l.self.labels.now) (StartsBefore l.i)

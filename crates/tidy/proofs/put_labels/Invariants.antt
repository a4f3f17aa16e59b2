use Rattle.tidy.proofs.Fields.{Putting}
use Rattle.tidy.proofs.put_labels.Given as goal

abbrev pub invariant-loop-k : goal.invariant-loop-k
invariant-loop-k l = Putting l.labels l.k l.initial.tidy l.tidy l.at

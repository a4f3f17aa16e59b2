use Rattle.finite.specs.Search.{Each}
use Rattle.record.specs.Labels.{label_at}
use Rattle.patterns.specs.Sides.{Beyond}
use Rattle.searching.proofs.Placed.first_beyond.Given as goal

abbrev pub invariant-loop-at : goal.invariant-loop-at
invariant-loop-at l = Each (λ p. ¬ Beyond (label_at l.self.labels.now) l.above l.label p) l.from l.at

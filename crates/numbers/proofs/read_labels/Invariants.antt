-- `numbers::read_labels` meets its contract: each turn puts one number into the list.
use lib.ListN.{get_or}
use Rattle.finite.specs.Fill.{Filling}
use Rattle.numbers.specs.Number.{number_at, as_byte}
use Rattle.numbers.proofs.read_labels.Given as goal

abbrev pub invariant-loop-k : goal.invariant-loop-k
invariant-loop-k l = Filling (λ j. as_byte (number_at l.line (get_or l.starts j 0))) 0 l.k l.initial.list l.list

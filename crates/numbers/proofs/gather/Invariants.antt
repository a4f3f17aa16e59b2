-- `numbers::gather` meets its contract: each turn fills one place of each list.
use Prim.Native.Nat.{◌+◌}
use lib.ListN.{get_or}
use Rattle.finite.specs.Fill.{Filling}
use Rattle.numbers.proofs.gather.Given as goal

abbrev pub invariant-loop-k : goal.invariant-loop-k
invariant-loop-k l =
    Filling (λ j. get_or l.line (get_or l.starts j 0) 0) 0 l.k l.initial.digits.first l.digits.first
    × Filling (λ j. get_or l.line (get_or l.starts j 0 + 1) 0) 0 l.k l.initial.digits.second l.digits.second
    × Filling (λ j. get_or l.line (get_or l.starts j 0 + 2) 0) 0 l.k l.initial.digits.third l.digits.third

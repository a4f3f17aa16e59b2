-- `twice` meets its contract: where the largest name is 0 no room is named, and the small table has a bit for each name up to the largest.
use Rattle.std.proofs.Common.{length, get_or, arith}
use Rattle.finite.specs.Extremes.{greatest_ge}
use Rattle.naming.specs.Twice.{unnamed→not_twice}
use Rattle.naming.proofs.twice.Goals as goal

pub returns-then-largest-eq0 : goal.returns-then-largest-eq0
returns-then-largest-eq0 c =
    let names = c.args.names.now in
    unnamed→not_twice (λ i. get_or names i 0) (length names) (omega (arith, c.if-largest-eq0.true, c.highest-largest.ensures))

pub twice_in_bits-requires-clause-names_in_bounds : goal.twice_in_bits-requires-clause-names_in_bounds
twice_in_bits-requires-clause-names_in_bounds c =
    let names = c.args.names.now in
    λ k h. omega (arith, greatest_ge (λ i. get_or names i 0) (length names) k h, c.if-largest-lt2048.true, c.highest-largest.ensures)

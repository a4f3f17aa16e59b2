-- `twice_in_pairs` meets its contract: of two rooms of one name one is the later.
use Rattle.std.proofs.Common.{ℕ, length, get_or, arith}
use Rattle.finite.specs.Marks.{none_at_all}
use Rattle.naming.specs.Twice.{Again, twice→again}
use Rattle.naming.proofs.twice_in_pairs.Goals as goal

pub returns : goal.returns
returns c =
    let names = c.args.names.now in
    let name : ℕ → ℕ = λ k. get_or names k 0 in
    λ twice. none_at_all (Again name) (length names) c.loop-j.j (omega (arith, c.loop-j-test.false)) c.loop-j.invariant
    (twice→again name (length names) twice)

-- `by_position` meets its contract: in the end the names of the rooms at all positions stand in the list.
use Rattle.std.proofs.Common.{◌≡◌, ℕ, length, get_or, subst, arith}
use Rattle.finite.specs.Fill.{Filling, filling_end}
use Rattle.naming.proofs.by_position.Goals as goal

pub returns : goal.returns
returns c =
    let names : ℕ → ℕ = λ k. get_or c.args.names.now (get_or c.args.by.now k 0) 0 in
    let all : c.loop-k.k ≡ length c.args.by.now = omega (arith, c.loop-k-test.false) in
    filling_end names (length c.args.by.now) (subst (λ (k : ℕ). Filling names 0 k c.args.list.now c.loop-k.list) all c.loop-k.invariant)
    c.requires.places.1

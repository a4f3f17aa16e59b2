-- `rank_all` meets its contract: before each turn the rooms of the ranks up to k have theirs.
use Rattle.std.proofs.Common.{arith}
use Rattle.orders.proofs.Ranking.{ranks_all}
use Rattle.orders.proofs.rank_all.Goals as goal

pub returns : goal.returns
returns c = λ f o. ranks_all o (omega (arith, c.loop-k-test.false)) c.requires.places.1 (c.loop-k.invariant.1 f o)

use Rattle.std.proofs.Common.{◌≡◌, ℕ, length}
use Rattle.orders.specs.InOrder.{Ranking}
use Rattle.orders.proofs.Ranking.{Ranks}
use Rattle.orders.proofs.rank_all.Given as goal

abbrev pub invariant-loop-k : goal.invariant-loop-k
invariant-loop-k l = (length l.ranks ≡ length l.initial.ranks) × ((f : ℕ → ℕ) → Ranking l.by f
    → Ranks (length l.by) f l.k l.initial.ranks l.ranks)

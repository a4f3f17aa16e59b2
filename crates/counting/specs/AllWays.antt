-- The totals by the same recursion, without the number of rises.
use Prim.Native.Nat.{ℕ, zero, suc}
use Rattle.record.specs.Triple.{triple}
use Rattle.record.specs.Walk.{step}
use Rattle.counting.specs.Ways.{over_bit, after_step}

-- the number of sequences of k triples that lead from p and q to 0 and 0
unfoldable pub all_ways : (k p q : ℕ) → ℕ
unfolding step
all_ways zero zero zero = 1
all_ways zero zero (suc q) = 0
all_ways zero (suc p) q = 0
all_ways (suc k) p q = over_bit λ first. over_bit λ second. over_bit λ third. after_step (step (triple first second third) p q) λ p q. all_ways k p q

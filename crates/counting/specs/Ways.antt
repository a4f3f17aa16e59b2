-- Counting by recursion: in how many ways a walk can go on from its counts of runs and end with one run.
use Rattle.std.specs.Prelude.{Bool, true, false, ℕ, zero, suc, ◌+◌}
use Rattle.finite.specs.Sum.{sum}
use Rattle.record.specs.Triple.{triple}
use Rattle.record.specs.Walk.{Counts, missing, counts, step}

-- the sum over the two values of a bit
abbrev pub over_bit : (Bool → ℕ) → ℕ
over_bit f = f false + f true

-- what is counted after a step: nothing where it needs a run that is missing
abbrev pub after_step : Counts → (ℕ → ℕ → ℕ) → ℕ
after_step missing f = 0
after_step (counts p q) f = f p q

-- what is counted after a third bit where r rises are wanted: a bit of 0 is one of them
abbrev pub after_third : (third : Bool) (r : ℕ) → (ℕ → ℕ) → ℕ
after_third true r f = f r
after_third false zero f = 0
after_third false (suc r) f = f r

-- the number of sequences of k triples, of which r are rises, that lead from p and q to 0 and 0
unfoldable pub ways : (k p q r : ℕ) → ℕ
unfolding step
ways zero zero zero zero = 1
ways zero zero zero (suc r) = 0
ways zero zero (suc q) r = 0
ways zero (suc p) q r = 0
ways (suc k) p q r = over_bit λ first. over_bit λ second. over_bit λ third. after_third third r λ r. after_step (step (triple first second third) p q) λ p q. ways k p q r

-- the number of accepted records of n rooms that have r rises: the triples of positions 2 to n lead from no runs to no runs
unfoldable pub plan_count : (n r : ℕ) → ℕ
plan_count zero r = 0
plan_count (suc k) r = ways k 0 0 r

-- "and the total"
unfoldable pub plan_total : ℕ → ℕ
plan_total n = sum (plan_count n) 0 n

-- A loop that adds up numbers: what one more does to the sum.
use mathlib.Core.Path.{◌≡◌}
use Prim.Native.Nat.{ℕ, ◌+◌}
use native.Mathlib.Numerals.{add-one}
use Rattle.finite.specs.Sum.{sum}
use Rattle.finite.specs.SumBelow.{sum_next}

-- one more number under a sum
pub sum_more : (f : ℕ → ℕ) (n : ℕ) → sum f 0 (n + 1) ≡ sum f 0 n + f n
sum_more f n = rw (add-one n) (sum_next f n)

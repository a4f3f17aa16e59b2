-- What the program plancount prints: "one line per pair for all 17 values of n: n, rises, count, one space between, by rising n and then
-- rising rises, and no other line." `count n rises` is the count of a pair.
use Rattle.std.specs.Prelude.{List, [], ◌++◌, ◌≡◌, ℕ, zero, suc, ◌≤◌}
use Rattle.finite.specs.HowMany.{HowMany}
use Rattle.counting.specs.Counted.{AcceptedWithRises}
use Rattle.digits.specs.Decimal.{space, newline, field}

-- "n, rises, count, one space between"
abbrev pub line_of : (n rises figure : ℕ) → List ℕ
line_of n rises figure = field n space ++ field rises space ++ field figure newline

-- the lines of n rooms with fewer than m rises, "by rising rises"
unfoldable pub lines_of : (count : ℕ → ℕ → ℕ) (n m : ℕ) → List ℕ
lines_of count n zero = []
lines_of count n (suc rises) = lines_of count n rises ++ line_of n rises (count n rises)

-- all lines of 1 to m rooms, "by rising n": n rooms have 0 to n − 1 rises
unfoldable pub up_to : (count : ℕ → ℕ → ℕ) (m : ℕ) → List ℕ
unfolding lines_of
up_to count zero = []
up_to count (suc k) = up_to count k ++ lines_of count (suc k) (suc k)

-- "for all 17 values of n", and each count is how many accepted records of n rooms have so many rises
pub record Printed (text : List ℕ) : Type 0 where
  pub count : ℕ → ℕ → ℕ
  pub how_many : (n rises : ℕ) → n ≤ 17 → HowMany (AcceptedWithRises n rises) (count n rises)
  pub lines : text ≡ up_to count 17

-- The lowest corners. "A room starts where the furthest room left of it ends, or at 0, and likewise upward." "The slack each way is the
-- outline less the needed length, the furthest end of any room in that direction at the lowest corners, and may be negative."
use Prim.Native.Nat.{ℕ, zero, suc, ◌+◌}
use Rattle.std.specs.Prelude.{ℤ, pos, ◌-ℤ◌}
use Rattle.finite.specs.Extremes.{greatest, greatest_of}
use Rattle.sizes.specs.Direction.{Direction, Before, dec_before}

-- one direction of a plan of n rooms, where f is the label at a position and `size` the width there, or upward the height
module _ (f : ℕ → ℕ) (way : Direction) (size : ℕ → ℕ) (n : ℕ) where
  -- where the furthest room before room j ends, or 0 where there is none, if each room i starts at `start i`
  abbrev pub furthest_before : (start : ℕ → ℕ) → (j : ℕ) → ℕ
  furthest_before start j =
      greatest_of (λ i. Before f way (suc i) j) (λ i. dec_before f way (suc i) j) (λ i. start (suc i) + size (suc i)) n

  -- where room j starts, as far as chains of at most k rooms before it tell
  unfoldable pub start_by : (k : ℕ) → (j : ℕ) → ℕ
  unfolding greatest dec_before
  start_by zero j = 0
  start_by (suc k) j = furthest_before (start_by k) j

  -- where it starts: no chain has more rooms than the plan
  abbrev pub start_at : (j : ℕ) → ℕ
  start_at = start_by n

  -- "the furthest end of any room in that direction at the lowest corners"
  abbrev pub needed_length : ℕ
  needed_length = greatest (λ i. start_at (suc i) + size (suc i)) n

  -- "the outline less the needed length", which "may be negative"
  abbrev pub slack : (outline : ℕ) → ℤ
  slack outline = pos outline -ℤ pos needed_length

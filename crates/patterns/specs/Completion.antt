-- How a position i is completed to a pattern of one condition. The last position is told by its label, which is next to i's. Between the
-- two the first position on that side of i's label and after it the first on the other side are the first in order: an earlier j leaves
-- no less choice for k.
use Rattle.std.specs.Prelude.{Bool, ◌≡◌, ℕ, ◌≤◌, ◌<◌}
use Rattle.record.specs.Labels.{EachOnce}
use Rattle.patterns.specs.Sides.{NextTo}

-- p is the last of the first k positions that has the label; or it is 0, and none has it
pub record Place (f : ℕ → ℕ) (k label p : ℕ) : Type 0 where
  pub within : p ≤ k
  pub own : 1 ≤ p → f p ≡ label
  pub after : (q : ℕ) → p < q → q ≤ k → ¬ (f q ≡ label)

-- a search from position i: the last label of a pattern can stand at l only
pub record Started (f : ℕ → ℕ) (n : ℕ) (above : Bool) (i l : ℕ) : Type 0 where
  pub each : EachOnce f n
  pub start : 1 ≤ i
  pub last : ℕ
  pub next : NextTo above (f i) last
  pub place : Place f n last l

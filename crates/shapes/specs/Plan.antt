-- What the functions over a store ask of a plan: that its rooms lie in the outline of n rooms.
use Rattle.std.specs.Prelude.{List, ℕ, suc, ◌<◌}
use Rattle.drawing.specs.Corners.{room_in}
use Rattle.drawing.specs.Within.{Within}
use Rattle.text.specs.Places.{Places, corners}

-- the labels and corners of n rooms, by position, in lists
pub record Plan (n : ℕ) (labels left bottom right top : List ℕ) : Type 0 where
  pub places : Places n labels
  pub within : (k : ℕ) → k < n → Within n (room_in (corners left bottom right top) (suc k))

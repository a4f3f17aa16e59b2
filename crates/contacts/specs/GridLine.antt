-- The inner segments of the grid drawing: one on each of the lines 1 to n - 1.
use Rattle.std.specs.Prelude.{◌≡◌, List, ℕ, suc, ◌≤◌, ◌<◌, length}
use Rattle.std.proofs.Math.Logic.{ite}
use Rattle.std.proofs.Math.Decide.{dec_lt}
use Rattle.drawing.specs.declared.Room.{Room}
use Rattle.drawing.specs.Drawing.{drawing_of}
use Rattle.rooms.specs.Segment.{upright, flat, Stretch, Segment}
use Rattle.contacts.specs.Inner.{InnerSegment}

-- s is inner, and it is the only segment on the line x = k and on the line y = k
pub record OnlyInnerSegment (rooms : List Room) (k : ℕ) (s : Stretch) : Type 0 where
  pub inner : InnerSegment rooms s
  pub line : s.line ≡ k
  pub only : (other : Stretch) → Segment rooms other → other.line ≡ k → other ≡ s

-- Where it is: between the rooms at positions k and k + 1. Where the label rises from `first` to `second` it is vertical, from the
-- bottom of the later room to the top of the earlier one; where it falls it is horizontal, from the left of the later room to the
-- right of the earlier one.
abbrev pub vertical_at : (k : ℕ) (earlier later : Room) → Stretch
vertical_at k earlier later = record { direction = upright; line = k; from = later.bottom; to = earlier.top }

abbrev pub horizontal_at : (k : ℕ) (earlier later : Room) → Stretch
horizontal_at k earlier later = record { direction = flat; line = k; from = later.left; to = earlier.right }

abbrev pub line_between : (k first second : ℕ) (earlier later : Room) → Stretch
line_between k first second earlier later = ite (dec_lt first second) (vertical_at k earlier later) (horizontal_at k earlier later)

-- where `label` and `room` say what stands at a position
abbrev pub line_at : (label : ℕ → ℕ) (room : ℕ → Room) (k : ℕ) → Stretch
line_at label room k = line_between k (label k) (label (suc k)) (room k) (room (suc k))

-- the inner segments of the drawing are these lines: one for each k from 1 to n - 1, and no other
pub record InnerSegmentsAre (labels : List ℕ) (line : ℕ → Stretch) : Type 0 where
  pub each : (k : ℕ) → 1 ≤ k → k < length labels → OnlyInnerSegment (drawing_of labels) k (line k)
  pub every : (s : Stretch) → InnerSegment (drawing_of labels) s → (1 ≤ s.line) × (s.line < length labels) × (s ≡ line s.line)

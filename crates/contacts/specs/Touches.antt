-- Touching rooms (M-101). "Two rooms now touch when one segment that is not an outline side supports both, from the same side or from
-- opposite sides. This replaces the touch rule of document 01."
use Rattle.std.specs.Prelude.{◌⊎◌, List, ℕ, ◌-◌, ◌<◌, length}
use Rattle.drawing.specs.declared.Room.{Room}
use Rattle.drawing.specs.Drawing.{drawing_of}
use Rattle.rooms.specs.Outline.{room_in}
use Rattle.rooms.specs.Segment.{Stretch, Side, left_edge, right_edge, bottom_edge, top_edge, edge, Holds}
use Rattle.contacts.specs.Inner.{InnerSegment}

-- "It supports a room from the side on which it holds that room's edge."
abbrev pub Supports : Stretch → Side → Room → Type 0
Supports s side room = Holds s (edge side room)

abbrev pub opposite : Side → Side
opposite left_edge = right_edge
opposite right_edge = left_edge
opposite bottom_edge = top_edge
opposite top_edge = bottom_edge

-- "supports both, from the same side or from opposite sides"
pub record SupportsBoth (s : Stretch) (first second : Room) : Type 0 where
  pub side : Side
  pub supports_first : Supports s side first
  pub supports_second : Supports s side second ⊎ Supports s (opposite side) second

-- rooms a and b of the list touch
pub record Touches (rooms : List Room) (a b : ℕ) : Type 0 where
  pub a< : a < length rooms
  pub b< : b < length rooms
  pub by : Stretch
  pub inner : InnerSegment rooms by
  pub supports_both : SupportsBoth by (room_in rooms a) (room_in rooms b)

-- two positions touch: their rooms in the grid drawing do, whose list of rooms is by position; a list's places count from 0
abbrev pub PositionsTouch : (labels : List ℕ) (first second : ℕ) → Type 0
PositionsTouch labels first second = Touches (drawing_of labels) (first - 1) (second - 1)

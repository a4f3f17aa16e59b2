-- Outline sides and inner segments. "A segment is a longest unbroken straight run of room edges; the four outline sides are segments
-- too."
use Rattle.std.specs.Prelude.{◌≡◌, List}
use Rattle.drawing.specs.declared.Room.{Room}
use Rattle.rooms.specs.Outline.{outline}
use Rattle.rooms.specs.Segment.{Stretch, Segment, Side, edge}

-- one of "the four outline sides"
abbrev pub OutlineSide : List Room → Stretch → Type 0
OutlineSide rooms s = (side : Side) × (s ≡ edge side (outline rooms))

-- a "segment that is not an outline side"
pub record InnerSegment (rooms : List Room) (s : Stretch) : Type 0 where
  pub segment : Segment rooms s
  pub not_outline_side : ¬ OutlineSide rooms s

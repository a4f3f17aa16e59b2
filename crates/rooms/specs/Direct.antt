-- How two rooms stand to each other, for any of the four sides. "Room a is directly left of b if one segment holds a's right edge and b's
-- left edge. It is left of b if a chain of direct steps leads from a to b. Above and below are formed likewise."
use Rattle.std.specs.Prelude.{List, ℕ}
use Rattle.drawing.specs.declared.Room.{Room}
use Rattle.drawing.specs.declared.Side as relation
use Rattle.drawing.specs.declared.Side.TheVariants.{Left, Right, Above, Below}
use Rattle.drawing.specs.Side.{converse}
use Rattle.rooms.specs.Segment.{Side, left_edge, right_edge, bottom_edge, top_edge}
use Rattle.rooms.specs.Orders.{OneSegment, Chain}

-- where a room stands on a side of another one, the edge with which it faces that
abbrev pub facing : relation.Side → Side
facing Left = right_edge
facing Right = left_edge
facing Above = bottom_edge
facing Below = top_edge

-- room a stands on a side of room b directly, "by one segment that holds their facing edges" (M-102): `DirectlyLeft`, `DirectlyRight`,
-- `DirectlyAbove`, `DirectlyBelow`
abbrev pub Direct : List Room → relation.Side → (a b : ℕ) → Type 0
Direct rooms side = OneSegment rooms (facing side) (facing (converse side))

-- room a stands on a side of room b: `LeftOf`, `RightOf`, `AboveOf`, `BelowOf`
abbrev pub Stands : List Room → relation.Side → (a b : ℕ) → Type 0
Stands rooms side = Chain (Direct rooms side)

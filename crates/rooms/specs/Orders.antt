-- The two orders. "Room a is directly left of b if one segment holds a's right edge and b's left edge. It is left of b if a chain
-- of direct steps leads from a to b. Above and below are formed likewise."
use Rattle.std.specs.Prelude.{List, ℕ, ◌<◌, length}
use Rattle.drawing.specs.declared.Room.{Room}
use Rattle.rooms.specs.Outline.{room_in}
use Rattle.rooms.specs.Segment.{Stretch, Segment, Side, left_edge, right_edge, bottom_edge, top_edge, edge, Holds}

-- one segment holds the edge of room a on the side `of_a` and the edge of room b on the side `of_b`
pub record OneSegment (rooms : List Room) (of_a of_b : Side) (a b : ℕ) : Type 0 where
  pub a< : a < length rooms
  pub b< : b < length rooms
  pub by : Stretch
  pub segment : Segment rooms by
  pub holds_a : Holds by (edge of_a (room_in rooms a))
  pub holds_b : Holds by (edge of_b (room_in rooms b))

-- room a is directly left of room b, directly right of it, directly below it, directly above it
abbrev pub DirectlyLeft : List Room → (a b : ℕ) → Type 0
DirectlyLeft rooms = OneSegment rooms right_edge left_edge

abbrev pub DirectlyRight : List Room → (a b : ℕ) → Type 0
DirectlyRight rooms = OneSegment rooms left_edge right_edge

abbrev pub DirectlyBelow : List Room → (a b : ℕ) → Type 0
DirectlyBelow rooms = OneSegment rooms top_edge bottom_edge

abbrev pub DirectlyAbove : List Room → (a b : ℕ) → Type 0
DirectlyAbove rooms = OneSegment rooms bottom_edge top_edge

-- "a chain of direct steps leads from a to b"
pub data Chain (Direct : ℕ → ℕ → Type 0) : ℕ → ℕ → Type 0 where
  one : {a b : ℕ} → Direct a b → Chain Direct a b
  step : {a b c : ℕ} → Chain Direct a b → Direct b c → Chain Direct a c

-- room a is left of room b, right of it, below it, above it
abbrev pub LeftOf : List Room → (a b : ℕ) → Type 0
LeftOf rooms = Chain (DirectlyLeft rooms)

abbrev pub RightOf : List Room → (a b : ℕ) → Type 0
RightOf rooms = Chain (DirectlyRight rooms)

abbrev pub BelowOf : List Room → (a b : ℕ) → Type 0
BelowOf rooms = Chain (DirectlyBelow rooms)

abbrev pub AboveOf : List Room → (a b : ℕ) → Type 0
AboveOf rooms = Chain (DirectlyAbove rooms)

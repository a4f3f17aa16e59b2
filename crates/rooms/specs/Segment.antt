-- Segments. "A segment is a longest unbroken straight run of room edges; the four outline sides are segments too. It supports a
-- room from the side on which it holds that room's edge." In an accepted list the outline's sides are such runs: that is the
-- theorem `outline_sides_are_segments`.
use Rattle.std.specs.Prelude.{◌≡◌, ◌⊎◌, List, ℕ, suc, ◌≤◌, ◌<◌}
use Rattle.finite.specs.Search.{Each}
use Rattle.drawing.specs.declared.Room.{Room}
use Rattle.rooms.specs.Outline.{room_in, SomeRoom}

pub data Direction : Type 0 where
  upright : Direction
  flat : Direction

-- an upright stretch of the line x = `line` from y = `from` to y = `to`, or a flat one of the line y = `line` from x = `from` to x = `to`
pub record Stretch : Type 0 where
  pub direction : Direction
  pub line : ℕ
  pub from : ℕ
  pub to : ℕ

-- the unit edge of a line from z to z + 1 is a piece of an edge of some room
abbrev pub Drawn : List Room → Direction → (line z : ℕ) → Type 0
Drawn rooms upright line z =
    SomeRoom rooms (λ i. (((room_in rooms i).left ≡ line) ⊎ ((room_in rooms i).right ≡ line)) × ((room_in rooms i).bottom ≤ z) × (z < (room_in rooms i).top))
Drawn rooms flat line z =
    SomeRoom rooms (λ i. (((room_in rooms i).bottom ≡ line) ⊎ ((room_in rooms i).top ≡ line)) × ((room_in rooms i).left ≤ z) × (z < (room_in rooms i).right))

-- "a longest unbroken straight run of room edges": each unit edge of the stretch is drawn, and neither the next one after it nor
-- the last one before it is
pub record Segment (rooms : List Room) (s : Stretch) : Type 0 where
  pub some : s.from < s.to
  pub unbroken : Each (Drawn rooms s.direction s.line) s.from s.to
  pub ends : ¬ Drawn rooms s.direction s.line s.to
  pub starts : (z : ℕ) → suc z ≡ s.from → ¬ Drawn rooms s.direction s.line z

pub data Side : Type 0 where
  left_edge : Side
  right_edge : Side
  bottom_edge : Side
  top_edge : Side

-- an edge of a room
abbrev pub edge : Side → Room → Stretch
edge left_edge room = record { direction = upright; line = room.left; from = room.bottom; to = room.top }
edge right_edge room = record { direction = upright; line = room.right; from = room.bottom; to = room.top }
edge bottom_edge room = record { direction = flat; line = room.bottom; from = room.left; to = room.right }
edge top_edge room = record { direction = flat; line = room.top; from = room.left; to = room.right }

-- the stretch s holds the edge e: all of e lies on s
pub record Holds (s e : Stretch) : Type 0 where
  pub direction : s.direction ≡ e.direction
  pub line : s.line ≡ e.line
  pub from : s.from ≤ e.from
  pub to : e.to ≤ s.to

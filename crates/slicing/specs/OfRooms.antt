-- The cutting tree is that of the floorplan, and not only of the label list: in every accepted room list, and so in the grid drawing,
-- the rooms of a node's child stand left of those of the next, or below them; and in the drawing a line stands between them.
use Rattle.std.specs.Prelude.{List, ℕ, ◌-◌, ◌≤◌}
use Rattle.drawing.specs.declared.Room.{Room}
use Rattle.drawing.specs.declared.Side.{Side}
use Rattle.drawing.specs.declared.Side.TheVariants.{Left, Below}
use Rattle.drawing.specs.Drawing.{room_at, drawing_of}
use Rattle.rooms.specs.LabelList.{room_at_position}
use Rattle.rooms.specs.Direct.{Stands}
use Rattle.slicing.specs.declared.Cut.{Cut}
use Rattle.slicing.specs.declared.Cut.TheVariants.{Vertical, Horizontal}

-- "children stand left to right or bottom to top": on which side of those after a line the rooms before it stand
abbrev pub side_of_cut : Cut → Side
side_of_cut Vertical = Left
side_of_cut Horizontal = Below

-- the rooms at positions i and j of a room list stand so
abbrev pub RoomsStand : List Room → Cut → (m i j : ℕ) → Type 0
RoomsStand rooms cut m i j = Stands rooms (side_of_cut cut) (room_at_position rooms i) (room_at_position rooms j)

-- and in the grid drawing of a label list, which has its rooms by position
abbrev pub DrawnStand : List ℕ → Cut → (m i j : ℕ) → Type 0
DrawnStand labels cut m i j = Stands (drawing_of labels) (side_of_cut cut) (i - 1) (j - 1)

-- where a room starts and where it ends, across or up
abbrev pub start_of : Cut → Room → ℕ
start_of Vertical room = room.left
start_of Horizontal room = room.bottom

abbrev pub end_of : Cut → Room → ℕ
end_of Vertical room = room.right
end_of Horizontal room = room.top

-- in the grid drawing the line before position m stands at m - 1, across or up: the room at i ends there or before, and the room at j
-- starts there or after
abbrev pub LineBetween : (ℕ → ℕ) → (n : ℕ) → Cut → (m i j : ℕ) → Type 0
LineBetween f n cut m i j = (end_of cut (room_at f n i) ≤ m - 1) × (m - 1 ≤ start_of cut (room_at f n j))

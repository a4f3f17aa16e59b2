-- Rooms that are placed: what they cover, which outlines they fit, and how the relations of a floorplan's rooms bind them. A room goes by
-- its position.
use Rattle.std.specs.Prelude.{List, ◌≡◌, ℕ, suc, ◌+◌, ◌≤◌, ◌<◌, ℤ, pos, length}
use Rattle.finite.specs.Search.{Each}
use Rattle.drawing.specs.Squares.{BoxCovers}
use Rattle.drawing.specs.declared.Room.{Room}
use Rattle.rooms.specs.Outline.{room_in}
use Rattle.rooms.specs.Orders.{LeftOf, BelowOf}
use Rattle.rooms.specs.LabelList.{position_of}
use Rattle.sizes.specs.Direction.{Direction, across, upward}
use Rattle.sizes.specs.Lists.{EachWay, number_at}

-- where the room at position i starts and ends, in one direction
abbrev pub start_of : (corners : EachWay (List ℕ)) → Direction → (i : ℕ) → ℕ
start_of corners way i = number_at (corners way) i

abbrev pub end_of : (sizes corners : EachWay (List ℕ)) → Direction → (i : ℕ) → ℕ
end_of sizes corners way i = number_at (corners way) i + number_at (sizes way) i

-- the room at position i covers the unit square (x, y)
abbrev pub PlacedCovers : (sizes corners : EachWay (List ℕ)) → (i x y : ℕ) → Type 0
PlacedCovers sizes corners i x y =
    BoxCovers (start_of corners across i) (start_of corners upward i) (end_of sizes corners across i) (end_of sizes corners upward i) x y

-- n rooms fit an outline from 0 on
abbrev pub FitsOutline : (n : ℕ) (sizes corners : EachWay (List ℕ)) (outline : EachWay ℕ) → Type 0
FitsOutline n sizes corners outline = (way : Direction) → Each (λ i. end_of sizes corners way i ≤ outline way) 1 (suc n)

-- a whole number of 0 or more
abbrev pub NotNegative : ℤ → Type 0
NotNegative z = (k : ℕ) × (z ≡ pos k)

-- ---- the relations of a floorplan's rooms
-- room a of a list stands before room b: it is left of it, or upward below it
abbrev pub StandsBefore : List Room → Direction → (a b : ℕ) → Type 0
StandsBefore rooms across = LeftOf rooms
StandsBefore rooms upward = BelowOf rooms

-- each room ends no later than every room begins that it stands before, at the corners and sizes of their positions
abbrev pub RoomsHonour : List Room → (sizes corners : EachWay (List ℕ)) → Type 0
RoomsHonour rooms sizes corners = (way : Direction) (a b : ℕ) → a < length rooms → b < length rooms → StandsBefore rooms way a b
    → end_of sizes corners way (position_of rooms a) ≤ start_of corners way (position_of rooms b)

-- the lists hold the sizes and the lower-left corners that the rooms have themselves
pub record OwnCorners (rooms : List Room) (sizes corners : EachWay (List ℕ)) : Type 0 where
  pub left : (a : ℕ) → a < length rooms → start_of corners across (position_of rooms a) ≡ (room_in rooms a).left
  pub right : (a : ℕ) → a < length rooms → end_of sizes corners across (position_of rooms a) ≡ (room_in rooms a).right
  pub bottom : (a : ℕ) → a < length rooms → start_of corners upward (position_of rooms a) ≡ (room_in rooms a).bottom
  pub top : (a : ℕ) → a < length rooms → end_of sizes corners upward (position_of rooms a) ≡ (room_in rooms a).top

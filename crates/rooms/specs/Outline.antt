-- Rooms and the outline. "A room is four unsigned 16-bit numbers: left, bottom, right, top. Right is greater than left and top
-- greater than bottom; y grows upward. The outline is the smallest box round all rooms and may start anywhere." "The list may stand
-- in any order." "A room now carries a 16-bit name beside its four corners. Name 0 means unnamed" (M-106).
use Rattle.std.specs.Prelude.{◌≡◌, ◌⊎◌, List, ℕ, ◌<◌, length, get_or}
use Rattle.finite.specs.Search.{Some, Each}
use Rattle.finite.specs.Extremes.{least, greatest}
use Rattle.drawing.specs.declared.Room.{Room}
-- a room covers the unit square (x, y), the one from the point (x, y) to the point (x + 1, y + 1)
pub use Rattle.drawing.specs.Squares.{Covers}

-- room i of a list: a room goes by its place there, counted from 0
abbrev pub room_in : List Room → ℕ → Room
room_in rooms i = get_or rooms i (record { left = 0; bottom = 0; right = 0; top = 0; name = 0 })

-- some room of the list has the property
abbrev pub SomeRoom : List Room → (ℕ → Type 0) → Type 0
SomeRoom rooms P = Some P 0 (length rooms)

-- "four unsigned 16-bit numbers": each corner of each room is one; "a 16-bit name" (M-106)
abbrev pub SixteenBits : List Room → Type 0
SixteenBits rooms = Each (λ i. ((room_in rooms i).left < 65536) × ((room_in rooms i).bottom < 65536) × ((room_in rooms i).right < 65536)
    × ((room_in rooms i).top < 65536) × ((room_in rooms i).name < 65536)) 0 (length rooms)

-- the point (x, y) is a corner of the room
abbrev pub Corner : Room → (x y : ℕ) → Type 0
Corner room x y = ((room.left ≡ x) ⊎ (room.right ≡ x)) × ((room.bottom ≡ y) ⊎ (room.top ≡ y))

-- "the smallest box round all rooms"
abbrev pub outline : List Room → Room
outline rooms = record {
  left = least (λ i. (room_in rooms i).left) (length rooms);
  bottom = least (λ i. (room_in rooms i).bottom) (length rooms);
  right = greatest (λ i. (room_in rooms i).right) (length rooms);
  top = greatest (λ i. (room_in rooms i).top) (length rooms);
  name = 0;
}

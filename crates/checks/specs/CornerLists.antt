-- What is tested of the rooms whose corners stand in four lists of one length.
use Rattle.std.specs.Prelude.{◌⊎◌, ℕ, ◌≤◌}
use Rattle.finite.specs.Search.{Some}
use Rattle.finite.specs.Sum.{sum}
use Rattle.drawing.specs.declared.Room.{Room}
use Rattle.rooms.specs.Causes.{ShareSquare}
use Rattle.rooms.specs.declared.CornerLists.{CornerLists}
use Rattle.rooms.specs.Lists.{count_of, room_at}
use Rattle.checks.specs.Area.{area_of}

-- the room has no width or no height
abbrev pub Flat : Room → Type 0
Flat room = (room.right ≤ room.left) ⊎ (room.top ≤ room.bottom)

-- room j shares a unit square with an earlier room
abbrev pub SharesEarlier : CornerLists → (j : ℕ) → Type 0
SharesEarlier lists j = Some (λ i. ShareSquare (room_at lists i) (room_at lists j)) 0 j

-- the sum of the rooms' areas
abbrev pub areas_in : CornerLists → ℕ
areas_in lists = sum (λ i. area_of (room_at lists i)) 0 (count_of lists)

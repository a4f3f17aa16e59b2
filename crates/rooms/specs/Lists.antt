-- The rooms whose corners stand in four lists, as the code has them.
use Rattle.std.specs.Prelude.{List, ℕ, length}
use Rattle.drawing.specs.declared.Room.{Room}
use Rattle.rooms.specs.Corners.{corners_at, rooms_of}
use Rattle.rooms.specs.declared.CornerLists.{CornerLists}

-- how many there are
abbrev pub count_of : CornerLists → ℕ
count_of lists = length lists.left.now

-- the room at place i
abbrev pub room_at : CornerLists → (i : ℕ) → Room
room_at lists = corners_at lists.left.now lists.bottom.now lists.right.now lists.top.now

-- all of them
abbrev pub rooms_in : CornerLists → List Room
rooms_in lists = rooms_of lists.left.now lists.bottom.now lists.right.now lists.top.now (count_of lists)

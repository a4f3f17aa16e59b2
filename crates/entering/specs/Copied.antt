-- Rooms copied into five arrays, one of each side's corners and one of the names, each room's at the room's place.
use Rattle.std.specs.Prelude.{if◌then◌else◌, List, ℕ, nat_lt, get_or, set}
use Rattle.finite.specs.Table.{table}
use Rattle.drawing.specs.declared.Room.{Room}
use Rattle.entering.specs.declared.CopiedRooms.{CopiedRooms}

-- one room more, at place i
abbrev pub stored : CopiedRooms → ℕ → Room → CopiedRooms
stored copied i room = record {
  left = set copied.left i room.left;
  bottom = set copied.bottom i room.bottom;
  right = set copied.right i room.right;
  top = set copied.top i room.top;
  name = set copied.name i room.name;
}

-- where there is such a place
abbrev pub put : CopiedRooms → ℕ → Room → CopiedRooms
put copied i room = if nat_lt i 255 then stored copied i room else copied

-- the room at place i, and the first n rooms
abbrev pub copied_at : CopiedRooms → ℕ → Room
copied_at copied i = record {
  left = get_or copied.left i 0;
  bottom = get_or copied.bottom i 0;
  right = get_or copied.right i 0;
  top = get_or copied.top i 0;
  name = get_or copied.name i 0;
}

abbrev pub copied_rooms : CopiedRooms → ℕ → List Room
copied_rooms copied n = table (copied_at copied) n

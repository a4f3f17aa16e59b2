-- The causes for which a room list is refused. "Order: rooms 1, 2, 3, 4, 5, 15." Cause 1 is that of label lists too. "20 for one nonzero
-- name on two rooms, after 5 and before 15" (M-106).
use Rattle.std.specs.Prelude.{◌⊎◌, ◌≢◌, ◌≡◌, List, ℕ, ◌≤◌, length}
use Rattle.record.specs.Causes.{BadCount}
use Rattle.drawing.specs.declared.Room.{Room}
use Rattle.drawing.specs.Tiling.{Different}
use Rattle.rooms.specs.Outline.{Covers, room_in, SomeRoom, Corner, outline}

-- "room with right ≤ left or top ≤ bottom"
abbrev pub RoomSize : List Room → Type 0
RoomSize rooms = SomeRoom rooms (λ i. ((room_in rooms i).right ≤ (room_in rooms i).left) ⊎ ((room_in rooms i).top ≤ (room_in rooms i).bottom))

-- a unit square lies in both rooms
abbrev pub ShareSquare : Room → Room → Type 0
ShareSquare first second = (x : ℕ) × (y : ℕ) × Covers first x y × Covers second x y

-- "two rooms share a unit square"
abbrev pub Overlap : List Room → Type 0
Overlap rooms = SomeRoom rooms (λ i. SomeRoom rooms (λ j. (i ≢ j) × ShareSquare (room_in rooms i) (room_in rooms j)))

-- "a unit square of the outline is in no room"
abbrev pub Uncovered : List Room → Type 0
Uncovered rooms = (x : ℕ) × (y : ℕ) × Covers (outline rooms) x y × (¬ SomeRoom rooms (λ i. Covers (room_in rooms i) x y))

-- a point is a corner of each of the four rooms
abbrev pub MeetAtPoint : (a b c d : Room) → Type 0
MeetAtPoint a b c d = (x : ℕ) × (y : ℕ) × Corner a x y × Corner b x y × Corner c x y × Corner d x y

-- "four rooms meet at a point"
abbrev pub FourMeet : List Room → Type 0
FourMeet rooms =
    SomeRoom rooms (λ a. SomeRoom rooms (λ b. SomeRoom rooms (λ c. SomeRoom rooms (λ d.
    Different a b c d × MeetAtPoint (room_in rooms a) (room_in rooms b) (room_in rooms c) (room_in rooms d)))))

-- "one nonzero name on two rooms"
abbrev pub NameTwice : List Room → Type 0
NameTwice rooms = SomeRoom rooms (λ i. SomeRoom rooms (λ j.
    (i ≢ j) × ((room_in rooms i).name ≢ 0) × ((room_in rooms i).name ≡ (room_in rooms j).name)))

-- "A room list is accepted if it has none of the causes that its order names before 15."
pub record AcceptedRooms (rooms : List Room) : Type 0 where
  pub count : ¬ BadCount (length rooms)
  pub size : ¬ RoomSize rooms
  pub overlap : ¬ Overlap rooms
  pub uncovered : ¬ Uncovered rooms
  pub four_meet : ¬ FourMeet rooms
  pub names : ¬ NameTwice rooms

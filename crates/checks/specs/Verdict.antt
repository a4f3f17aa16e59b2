-- What each verdict says of a room list, and of the corners. "Order: rooms 1, 2, 3, 4, 5, 15."
use Rattle.std.specs.Prelude.{List, ℕ, Result, Ok, Err}
use Rattle.record.specs.declared.Refusal.{Refusal}
use Rattle.record.specs.declared.Refusal.TheVariants as refusal
use Rattle.drawing.specs.declared.Room.{Room}
use Rattle.rooms.specs.Causes.{RoomSize, Overlap, Uncovered, FourMeet, AcceptedRooms}
use Rattle.rooms.specs.Plan.{Plan}
use Rattle.corners.specs.Corners.{CornersPairedIn}

-- the list has the cause, and none of the earlier ones; no other refusal is given
abbrev pub FirstCause : List Room → Refusal → Type 0
FirstCause rooms refusal.RoomSize = RoomSize rooms
FirstCause rooms refusal.Overlap = (¬ RoomSize rooms) × Overlap rooms
FirstCause rooms refusal.Uncovered = (¬ RoomSize rooms) × (¬ Overlap rooms) × Uncovered rooms
FirstCause rooms refusal.FourMeet = (¬ RoomSize rooms) × (¬ Overlap rooms) × (¬ Uncovered rooms) × FourMeet rooms
FirstCause rooms _ = ⊥

-- the list is accepted, or refused with its first cause
abbrev pub VerdictOf : List Room → Result (Unit {0}) Refusal → Type 0
VerdictOf rooms (Ok _) = AcceptedRooms rooms
VerdictOf rooms (Err cause) = FirstCause rooms cause

-- the corners of an accepted list are paired
abbrev pub PairedWhere : Result (Unit {0}) Refusal → (p : Plan) (there back : List ℕ) → Type 0
PairedWhere (Ok _) p there back = CornersPairedIn p there back
PairedWhere (Err cause) p there back = Unit

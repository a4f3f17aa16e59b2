-- The room at a position, of which the corners stand in four lists by position.
use Rattle.std.specs.Prelude.{ℕ}
use Rattle.record.specs.Labels.{label_at}
use Rattle.drawing.specs.declared.Corners.{Corners}
use Rattle.drawing.specs.declared.Room.{Room}

abbrev pub room_in : Corners → (position : ℕ) → Room
room_in corners position = record {
  left = label_at corners.left position;
  bottom = label_at corners.bottom position;
  right = label_at corners.right position;
  top = label_at corners.top position;
  name = 0;
}

-- Plans of which the labels and corners stand in five lists, by position, and a view of them.
use Rattle.std.specs.Prelude.{List, ℕ, ◌≤◌, length}
use Rattle.record.specs.Labels.{label_at}
use Rattle.drawing.specs.Corners.{room_in}
use Rattle.drawing.specs.declared.Corners.{Corners}
use Rattle.text.specs.View.{View}

-- there are places for n rooms: the corners stand in arrays of 255
pub record Places (n : ℕ) (labels : List ℕ) : Type 0 where
  pub few : n ≤ 255
  pub labels_length : n ≤ length labels

-- the corners in four lists
abbrev pub corners : (left bottom right top : List ℕ) → Corners
corners left bottom right top = record { left = left; bottom = bottom; right = right; top = top }

-- the view of the first n
abbrev pub view_in : View → (labels left bottom right top : List ℕ) (n : ℕ) → List ℕ
view_in view labels left bottom right top n = view (label_at labels) (room_in (corners left bottom right top)) n

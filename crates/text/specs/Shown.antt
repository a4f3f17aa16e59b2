-- A plan that is read, the record that it is read of, and a view of it.
use Rattle.std.specs.Prelude.{List, ◌≡◌, ℕ, suc, ◌<◌, length}
use Rattle.record.specs.Labels.{label_at}
use Rattle.record.specs.Read.{labels_of}
use Rattle.record.specs.Checked.{Readable}
use Rattle.drawing.specs.Corners.{room_in}
use Rattle.drawing.specs.Drawing.{room_at}
use Rattle.drawing.specs.declared.Corners.{Corners}
use Rattle.text.specs.View.{View}
use Rattle.text.specs.declared.record_plan.Plan.{Plan}

abbrev pub shown : View → Plan → List ℕ
shown view plan = view (label_at plan.labels) (room_in plan.corners) plan.n

-- the first n labels and rooms are those of the record, which is not refused
pub record Holds (bytes : List ℕ) (n : ℕ) (labels : List ℕ) (corners : Corners) : Type 0 where
  pub readable : Readable bytes
  pub count : n ≡ length (labels_of bytes)
  pub each_label : (k : ℕ) → k < n → label_at labels (suc k) ≡ label_at (labels_of bytes) (suc k)
  pub each_room : (k : ℕ) → k < n → room_in corners (suc k) ≡ room_at (label_at (labels_of bytes)) n (suc k)

abbrev pub IsPlanOf : (bytes : List ℕ) → Plan → Type 0
IsPlanOf bytes plan = Holds bytes plan.n plan.labels plan.corners

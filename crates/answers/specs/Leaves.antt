-- What reading a record into the corners of one struct leaves: what `reading::read` leaves, with as many places as the slice has for labels.
use Rattle.std.specs.Prelude.{List, ℕ, length, Result}
use Rattle.record.specs.declared.Refusal.{Refusal}
use Rattle.drawing.specs.declared.Corners.{Corners}
use Rattle.reading.specs.Answer.{Leaves}

abbrev pub LeavesIn : Result ℕ Refusal → (bytes : List ℕ) (earliest : ℕ) (labels₀ : List ℕ) (corners₀ : Corners) (labels : List ℕ)
    → (corners : Corners) → Type 0
LeavesIn result bytes earliest labels₀ corners₀ labels corners =
    Leaves result bytes earliest (length labels₀) corners.left corners.bottom
    labels₀ corners₀.right corners₀.top labels corners.right corners.top

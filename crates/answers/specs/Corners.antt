-- What reading the corners of a record's rooms answers and leaves, for all that make rooms of them: Record in, and the programs.
use Rattle.std.specs.Prelude.{List, ◌≡◌, ℕ, suc, ◌≤◌, length, Result, Ok, Err}
use Rattle.finite.specs.Table.{table}
use Rattle.record.specs.Read.{labels_of}
use Rattle.record.specs.declared.Refusal.{Refusal}
use Rattle.drawing.specs.Corners.{room_in}
use Rattle.drawing.specs.Drawing.{drawing_of}
use Rattle.drawing.specs.declared.Corners.{Corners}
use Rattle.drawing.specs.declared.Room.{Room}
use Rattle.answers.specs.Answer.{record_answer, count_of, Few, written}

-- the first n rooms of these corners
abbrev pub rooms_from : Corners → (n : ℕ) → List Room
rooms_from corners n = table (λ i. room_in corners (suc i)) n

-- they are the record's drawing, where it is read
abbrev pub HoldDrawing : Result ℕ Refusal → (bytes : List ℕ) → Corners → Type 0
HoldDrawing (Ok n) bytes corners = rooms_from corners n ≡ drawing_of (labels_of bytes)
HoldDrawing (Err refusal) bytes corners = Unit

-- the answer for these bytes where there are `places` for rooms and the labels' slice held `before`, what that slice holds then, and
-- the corners that are read
pub record CornersIn (bytes before : List ℕ) (places : ℕ) (answer : Result ℕ Refusal) (after : List ℕ) (read : Corners) : Type 0 where
  pub answered : answer ≡ record_answer bytes (length before) places
  pub few : Few answer
  pub fit : count_of answer ≤ places
  pub labels_are : after ≡ written answer (labels_of bytes) before
  pub corners_are : HoldDrawing answer bytes read

-- What a program prints for a record: its plan in the program's own view, or the line of its refusal.
-- "A refused record prints `refused` and the number on one line."
use Rattle.std.specs.Prelude.{List, ◌≡◌, ℕ, suc, ◌<◌, length}
use Rattle.record.specs.Labels.{label_at}
use Rattle.record.specs.Read.{labels_of}
use Rattle.record.specs.Checked.{checked}
use Rattle.record.specs.Refusal.{number_of}
use Rattle.drawing.specs.Drawing.{room_at}
use Rattle.drawing.specs.declared.Room.{Room}
use Rattle.digits.specs.Ascii.{ascii}
use Rattle.digits.specs.Decimal.{word_line}

-- "`refused` and the number on one line"
abbrev pub refused_line : ℕ → List ℕ
refused_line number = word_line (ascii "refused") number

-- a view of plans: the text for a plan of n rooms, where `label` and `room` say what stands at a position
abbrev pub View : Type 0
View = (label : ℕ → ℕ) (room : ℕ → Room) (n : ℕ) → List ℕ

-- a view looks at positions 1 to n alone
abbrev pub Local : View → Type 0
Local view = (label other : ℕ → ℕ) (room another : ℕ → Room) (n : ℕ)
    → ((k : ℕ) → k < n → label (suc k) ≡ other (suc k)) → ((k : ℕ) → k < n → room (suc k) ≡ another (suc k))
    → view label room n ≡ view other another n

-- what is printed for the labels of a record that is not refused
abbrev pub view_of : View → (labels : List ℕ) → List ℕ
view_of view labels = let n = length labels in view (label_at labels) (room_at (label_at labels) n) n

-- what is printed for a record; the refusals are those of Record in, without 15, since the programs have places for any record
abbrev pub printed : View → (bytes : List ℕ) → List ℕ
printed view bytes = checked (λ refusal. refused_line (number_of refusal)) bytes (view_of view (labels_of bytes))

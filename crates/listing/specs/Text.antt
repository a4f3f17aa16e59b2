-- What the program planlist prints: "prints a header line, the word `rooms` and n, then one line per position: position, label,
-- left, bottom, right, top, one space between."
use Rattle.std.specs.Prelude.{List, [], ◌++◌, ℕ, zero, suc}
use Rattle.drawing.specs.declared.Room.{Room}
use Rattle.digits.specs.Ascii.{ascii}
use Rattle.digits.specs.Decimal.{space, newline, field, word_line}
use Rattle.text.specs.View.{View, printed}

-- "a header line, the word `rooms` and n"
abbrev pub head_of : ℕ → List ℕ
head_of n = word_line (ascii "rooms") n

-- "position, label, left, bottom, right, top, one space between"
abbrev pub line_of : (position label : ℕ) → Room → List ℕ
line_of position label room =
    field position space ++ field label space ++ field room.left space
    ++ field room.bottom space ++ field room.right space ++ field room.top newline

-- "one line per position": those of positions 1 to n, where `label` and `room` say what stands at a position
unfoldable pub lines_of : (label : ℕ → ℕ) (room : ℕ → Room) (n : ℕ) → List ℕ
lines_of label room zero = []
lines_of label room (suc i) = lines_of label room i ++ line_of (suc i) (label (suc i)) (room (suc i))

abbrev pub listing : View
listing label room n = head_of n ++ lines_of label room n

abbrev pub text_of : (bytes : List ℕ) → List ℕ
text_of = printed listing

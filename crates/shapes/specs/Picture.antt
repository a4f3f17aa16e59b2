-- The picture of a plan as SVG: "rooms as rectangles with label and position, segments drawn so that the T-junctions can be seen".
-- A grid step is 40 units, and the margin is 20. SVG counts y downward.
use Rattle.std.specs.Prelude.{List, [], ◌++◌, ℕ, zero, suc, ◌+◌, ◌*◌, ◌-◌, min}
use Prim.Native.String.{String}
use Rattle.std.proofs.Math.Decide.{dec_lt}
use Rattle.drawing.specs.declared.Room.{Room}
use Rattle.rooms.specs.Segment.{Direction, upright, flat, Stretch}
use Rattle.contacts.specs.GridLine.{line_at}
use Rattle.digits.specs.Ascii.{ascii}
use Rattle.digits.specs.Decimal.{decimal}
use Rattle.text.specs.View.{View, printed}

-- ---- places
-- the grid lines x across and y up, in a plan of n rooms
abbrev pub across : (x : ℕ) → ℕ
across x = 20 + 40 * x

abbrev pub down : (n y : ℕ) → ℕ
down n y = 20 + 40 * (n - y)

-- a word and a number
abbrev pub value : String → ℕ → List ℕ
value before number = ascii before ++ decimal number

-- one text after another, as a form is read
infixr 60 ◌then◌
abbrev pub ◌then◌ : (first second : List ℕ) → List ℕ
first then second = first ++ second

-- ---- rooms
-- a room's rectangle, 4 units inside its edges
abbrev pub rectangle : (n : ℕ) → Room → List ℕ
rectangle n room =
    value "<rect x=\"" (across room.left + 4)
    then value "\" y=\"" (down n room.top + 4)
    then value "\" width=\"" (40 * (room.right - room.left) - 8)
    then value "\" height=\"" (40 * (room.top - room.bottom) - 8)
    then ascii "\"/>\n"

-- the steps along the shorter side of a room, by which its text is sized
abbrev pub short_side : Room → ℕ
short_side room = min (room.right - room.left) (room.top - room.bottom)

-- a room's middle
abbrev pub middle_across : Room → ℕ
middle_across room = 20 + 20 * (room.left + room.right)

abbrev pub middle_down : (n : ℕ) → Room → ℕ
middle_down n room = 20 + 20 * ((n - room.top) + (n - room.bottom))

-- the label above a room's middle, and the position below it
abbrev pub names : (n position label : ℕ) → Room → List ℕ
names n position label room =
    value "<text x=\"" (middle_across room)
    then value "\" y=\"" (middle_down n room - 2 * short_side room)
    then value "\" font-size=\"" (13 * short_side room)
    then value "\">" label
    then value "<tspan x=\"" (middle_across room)
    then value "\" y=\"" (middle_down n room + 11 * short_side room)
    then value "\">" position
    then ascii "</tspan></text>\n"

-- the rooms at positions 1 to i
unfoldable pub rooms_drawn : (label : ℕ → ℕ) (room : ℕ → Room) (n i : ℕ) → List ℕ
rooms_drawn label room n zero = []
rooms_drawn label room n (suc i) =
    rooms_drawn label room n i ++ (rectangle n (room (suc i)) ++ names n (suc i) (label (suc i)) (room (suc i)))

abbrev pub rooms : View
rooms label room n = rooms_drawn label room n n

-- ---- segments
-- a segment on the line `at`: it stops 6 units short of the segments on which it ends
abbrev pub line : Direction → (n at from to : ℕ) → List ℕ
line upright n at from to =
    value "<line class=\"v\" x1=\"" (across at)
    then value "\" y1=\"" (down n to + 6)
    then value "\" x2=\"" (across at)
    then value "\" y2=\"" (down n from - 6)
    then ascii "\"/>\n"
line flat n at from to =
    value "<line class=\"h\" x1=\"" (across from + 6)
    then value "\" y1=\"" (down n at)
    then value "\" x2=\"" (across to - 6)
    then value "\" y2=\"" (down n at)
    then ascii "\"/>\n"

abbrev pub segment_drawn : (n : ℕ) → Stretch → List ℕ
segment_drawn n s = line s.direction n s.line s.from s.to

-- the segments on the lines 1 to k, each between two positions that follow each other: that they are the inner segments of the drawing
-- is the theorem `m101_lines_are_inner_segments`
unfoldable pub segments_drawn : (label : ℕ → ℕ) (room : ℕ → Room) (n k : ℕ) → List ℕ
unfolding dec_lt
segments_drawn label room n zero = []
segments_drawn label room n (suc k) =
    segments_drawn label room n k ++ segment_drawn n (line_at label room (suc k))

-- one on each of the lines 1 to n - 1
abbrev pub segments : View
segments label room n = segments_drawn label room n (n - 1)

-- ---- the picture
abbrev pub head : (n : ℕ) → List ℕ
head n =
    value "<svg xmlns=\"http://www.w3.org/2000/svg\" viewBox=\"0 0 " (40 + 40 * n)
    then value " " (40 + 40 * n)
    then ascii "\" font-family=\"sans-serif\" text-anchor=\"middle\">\n<style>"
    then ascii "rect{fill:#eaf0f6}text{fill:#16222e;font-weight:bold}tspan{fill:#5f7588;font-weight:normal}"
    then ascii "line{stroke-width:3}.v{stroke:#b5482f}.h{stroke:#2f6ea5}.o{fill:#fff;stroke:#16222e;stroke-width:3}</style>\n"
    then value "<rect class=\"o\" x=\"20\" y=\"20\" width=\"" (40 * n)
    then value "\" height=\"" (40 * n)
    then ascii "\"/>\n"

abbrev pub picture : View
picture label room n = head n ++ rooms label room n ++ segments label room n ++ ascii "</svg>\n"

-- "a refused record gives the same line as planlist"
abbrev pub picture_of : (bytes : List ℕ) → List ℕ
picture_of = printed picture

-- M-102: direct, or through others. What is answered for a record and two positions is so in every floorplan that has the record, and the
-- corners of the grid drawing tell it.
use Rattle.std.specs.Prelude.{◌≡◌, ◌≢◌, ◌⊎◌, ◌↔◌, List, ℕ, suc, ◌-◌, ◌≤◌, ◌<◌, length}
use Rattle.std.proofs.Common.{subst₂, arith}
use Rattle.record.specs.Labels.{label_at}
use Rattle.record.specs.Barred.{Baxter}
use Rattle.drawing.specs.declared.Room.{Room}
use Rattle.drawing.specs.declared.Side.{Side}
use Rattle.drawing.specs.Drawing.{room_at, drawing_of}
use Rattle.drawing.specs.Side.{side_of}
use Rattle.drawing.specs.InnerLine.{FaceOnOneLine}
use Rattle.rooms.specs.Causes.{AcceptedRooms}
use Rattle.rooms.specs.LabelList.{position_of, label_list}
use Rattle.rooms.specs.Direct.{Direct, Stands}
use Rattle.rooms.specs.Equivalent.{Equivalent}
use Rattle.rooms.specs.PlanOf.{accepted→floorplan}
use Rattle.contacts.specs.Touches.{Touches}
use Rattle.contacts.specs.Direct.{ChainOfMore, OnlyThrough, PositionsDirect}
use Rattle.contacts.proofs.DirectFacts.{direct→no_chain_of_more, direct_or_only_through, direct→touches, direct_iff_partners_direct}
use Rattle.contacts.proofs.GridDirect.{drawing_direct_iff_face_on_one_line}
use Rattle.contacts.specs.ByPosition.{ByPosition, by_position}

-- "direct .. or only through a chain of more steps": a room that stands on a side of another does so in one of the two ways
pub m102_direct_or_only_through : (rooms : List Room) → AcceptedRooms rooms → (side : Side) (a b : ℕ) → Stands rooms side a b
    → Direct rooms side a b ⊎ OnlyThrough rooms side a b
m102_direct_or_only_through = direct_or_only_through

-- and never in both: where it does so directly, no chain of more steps leads there
pub m102_never_both : (rooms : List Room) → AcceptedRooms rooms → (side : Side) (a b : ℕ) → Direct rooms side a b
    → ¬ ChainOfMore rooms side a b
m102_never_both = direct→no_chain_of_more

-- "Two rooms in a direct relation always touch."
pub m102_direct_rooms_touch : (rooms : List Room) → AcceptedRooms rooms → (side : Side) (a b : ℕ) → Direct rooms side a b
    → Touches rooms a b
m102_direct_rooms_touch rooms accepted = direct→touches rooms (accepted→floorplan rooms accepted)

-- direct is the same for equivalent floorplans: the partners of two rooms are in a direct relation exactly if the two rooms are
pub m102_partners_direct : (rooms others : List Room) (e : Equivalent rooms others) (side : Side) (a b : ℕ)
    → a < length rooms → b < length rooms → Direct rooms side a b ↔ Direct others side (e.pair_rooms.to a) (e.pair_rooms.to b)
m102_partners_direct = direct_iff_partners_direct

-- two rooms of an accepted room list are in a direct relation exactly if their positions are in the grid drawing of its label list
pub m102_rooms_direct_iff_positions_direct : (rooms : List Room) → AcceptedRooms rooms → (side : Side) (a b : ℕ)
    → a < length rooms → b < length rooms
    → Direct rooms side a b ↔ PositionsDirect (label_list rooms) side (position_of rooms a) (position_of rooms b)
m102_rooms_direct_iff_positions_direct rooms accepted side a b ha hb =
    subst₂ (λ (x y : ℕ). Direct rooms side a b ↔ Direct (drawing_of (label_list rooms)) side x y) (drawn.place a ha) (drawn.place b hb)
    (direct_iff_partners_direct rooms (drawing_of (label_list rooms)) drawn.same side a b ha hb)
  where
    drawn : ByPosition rooms
    drawn = by_position rooms accepted

-- in the grid drawing of a Baxter list two positions are in a direct relation exactly if one of their rooms ends where the other starts
pub m102_positions_direct_iff_face_on_one_line : (labels : List ℕ) → Baxter labels → length labels ≤ 255
    → (first second : ℕ) → 1 ≤ first → first ≤ length labels → 1 ≤ second → second ≤ length labels → first ≢ second
    → let f = label_at labels in let room = room_at f (length labels) in
    PositionsDirect labels (side_of f first second) first second ↔ FaceOnOneLine (room first) (room second)
m102_positions_direct_iff_face_on_one_line labels baxter few first second some most some-too most-too differ =
    let one : suc (first - 1) ≡ first = omega arith in
    let other : suc (second - 1) ≡ second = omega arith in
    subst₂ (λ (i j : ℕ). Direct (drawing_of labels) (side_of f i j) (first - 1) (second - 1) ↔ FaceOnOneLine (room i) (room j)) one other
    (drawing_direct_iff_face_on_one_line labels baxter (omega arith) few (first - 1) (second - 1) (omega arith) (omega arith) (omega arith))
  where
    f : ℕ → ℕ
    f = label_at labels

    room : ℕ → Room
    room = room_at f (length labels)

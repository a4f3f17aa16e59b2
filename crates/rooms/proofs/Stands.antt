-- The side that is answered for two positions is that on which their rooms stand, in every accepted room list with these labels. "For
-- positions i < j, room i is left of j if its label is smaller, else below j" (000, Observation 3.4).
use Rattle.std.specs.Prelude.{◌≡◌, ◌≢◌, List, ℕ, suc, ◌≤◌, ◌<◌, length}
use Rattle.std.proofs.Common.{subst, subst₂, arith}
use Rattle.std.proofs.Math.Logic.{ite}
use Rattle.std.proofs.Math.Decide.{dec_lt}
use Rattle.record.specs.Labels.{label_at}
use Rattle.record.specs.Barred.{Baxter}
use Rattle.drawing.specs.declared.Room.{Room}
use Rattle.drawing.specs.declared.Side.TheVariants.{Left, Right, Above, Below}
use Rattle.drawing.specs.Drawing.{drawing_of}
use Rattle.drawing.specs.Side.{side_of}
use Rattle.rooms.specs.Causes.{AcceptedRooms}
use Rattle.rooms.specs.LabelList.{label_of, position_of, label_list}
use Rattle.rooms.proofs.Steps.{left_of→right_of, below_of→above_of}
use Rattle.rooms.specs.Direct.{Stands}
use Rattle.rooms.proofs.LabelFacts.{labels_are_1_to_n, positions_are_1_to_n, label_list_by_position, left_iff_smaller_label, below_iff_larger_label}
use Rattle.rooms.specs.GridFloorplan.{length_drawing, drawing_accepted}
use Rattle.rooms.proofs.GridLabels.{drawing_position, drawing_has_labels}

pub rooms_stand : (rooms : List Room) → AcceptedRooms rooms → (a b : ℕ) → a < length rooms → b < length rooms → a ≢ b
    → Stands rooms (side_of (label_at (label_list rooms)) (position_of rooms a) (position_of rooms b)) a b
unfolding side_of
rooms_stand rooms accepted a b ha hb ne = go (dec_lt p q) (dec_lt (f p) (f q)) (dec_lt (f q) (f p))
  where
    f : ℕ → ℕ
    f = label_at (label_list rooms)

    p : ℕ
    p = position_of rooms a

    q : ℕ
    q = position_of rooms b

    of_a : f p ≡ label_of rooms a
    of_a = label_list_by_position rooms accepted a ha

    of_b : f q ≡ label_of rooms b
    of_b = label_list_by_position rooms accepted b hb

    positions : p ≢ q
    positions e = ne ((positions_are_1_to_n rooms accepted).once a b ha hb e)

    differ : label_of rooms a ≢ label_of rooms b
    differ e = ne ((labels_are_1_to_n rooms accepted).once a b ha hb e)

    go : (order : Dec (p < q)) (smaller : Dec (f p < f q)) (larger : Dec (f q < f p))
        → Stands rooms (ite order (ite smaller Left Below) (ite larger Right Above)) a b
    go (yes h) (yes l) larger = (left_iff_smaller_label rooms accepted a b ha hb h).1 (omega (arith, of_a, of_b))
    go (yes h) (no l) larger = (below_iff_larger_label rooms accepted a b ha hb h).1 (omega (arith, of_a, of_b, differ))
    go (no h) smaller (yes l) = left_of→right_of rooms
        ((left_iff_smaller_label rooms accepted b a hb ha (omega (arith, positions))).1 (omega (arith, of_a, of_b)))
    go (no h) smaller (no l) = below_of→above_of rooms
        ((below_iff_larger_label rooms accepted b a hb ha (omega (arith, positions))).1 (omega (arith, of_a, of_b, differ)))

-- so it is in the grid drawing of a Baxter list, whose list of rooms is by position
pub drawing_stands : (labels : List ℕ) → Baxter labels → 1 ≤ length labels → length labels ≤ 255 → (a b : ℕ)
    → a < length labels → b < length labels → a ≢ b → Stands (drawing_of labels) (side_of (label_at labels) (suc a) (suc b)) a b
drawing_stands labels baxter some few a b la lb ne =
    let rooms = drawing_of labels in
    let ha : a < length rooms = omega (arith, length_drawing labels) in
    let hb : b < length rooms = omega (arith, length_drawing labels) in
    subst₂ (λ (p q : ℕ). Stands rooms (side_of (label_at labels) p q) a b)
    (drawing_position labels baxter some a ha) (drawing_position labels baxter some b hb)
    (subst (λ (list : List ℕ). Stands rooms (side_of (label_at list) (position_of rooms a) (position_of rooms b)) a b)
    (drawing_has_labels labels baxter some)
    (rooms_stand rooms (drawing_accepted labels baxter.each_once some few) a b ha hb ne))

-- An accepted room list and the grid drawing of its label list are equivalent, and a room's partner stands in the place of its position.
use Rattle.std.specs.Prelude.{◌≡◌, List, ℕ, suc, ◌-◌, ◌≤◌, ◌<◌, length}
use Rattle.std.proofs.Common.{sym, ◌∙◌, arith}
use Rattle.drawing.specs.declared.Room.{Room}
use Rattle.drawing.specs.Drawing.{drawing_of}
use Rattle.rooms.specs.Causes.{AcceptedRooms}
use Rattle.rooms.specs.LabelList.{position_of, label_list}
use Rattle.rooms.specs.Equivalent.{Equivalent}
use Rattle.rooms.proofs.Demand3.{BaxterOf, rooms_give_baxter}
use Rattle.rooms.specs.PlanOf.{accepted→floorplan}
use Rattle.rooms.proofs.PartnerSegments.{same_labels→equivalent}
use Rattle.rooms.proofs.SameLabels.{equivalent→same_position}
use Rattle.rooms.proofs.GridLabels.{DrawnAs, baxter_gives_drawing, drawing_position}

pub record ByPosition (rooms : List Room) : Type 0 where
  pub accepted : AcceptedRooms (drawing_of (label_list rooms))
  pub same : Equivalent rooms (drawing_of (label_list rooms))
  pub place : (a : ℕ) → a < length rooms → same.pair_rooms.to a ≡ position_of rooms a - 1

pub by_position : (rooms : List Room) → AcceptedRooms rooms → ByPosition rooms
by_position rooms accepted = record { accepted = drawn.accepted; same = same; place = λ a h. omega (arith, position a h) }
  where
    labels : List ℕ
    labels = label_list rooms

    of : BaxterOf rooms
    of = rooms_give_baxter rooms accepted

    some : 1 ≤ length labels
    some = omega (arith, of.some, of.size)

    drawn : DrawnAs labels (drawing_of labels)
    drawn = baxter_gives_drawing labels of.baxter some (omega (arith, of.few, of.size))

    same : Equivalent rooms (drawing_of labels)
    same = same_labels→equivalent rooms (drawing_of labels) (accepted→floorplan rooms accepted) (accepted→floorplan (drawing_of labels) drawn.accepted)
        (sym drawn.has_labels)

    there : ℕ → ℕ
    there = same.pair_rooms.to

    position : (a : ℕ) → a < length rooms → suc (there a) ≡ position_of rooms a
    position a h = sym (drawing_position labels of.baxter some (there a) (same.pair_rooms.to_has a h))
        ∙ equivalent→same_position rooms (drawing_of labels) (accepted→floorplan rooms accepted) (accepted→floorplan (drawing_of labels) drawn.accepted) same a h

-- The relations that a placing honours are those of every accepted room list which has the labels, for the rooms at the positions.
use Rattle.std.specs.Prelude.{List, ◌↔◌, ◌≡◌, ℕ, suc, ◌≤◌, ◌<◌, length}
use Rattle.std.proofs.Common.{sym, subst₂, arith}
use Rattle.finite.specs.Search.{Some}
use Rattle.record.specs.Labels.{label_at}
use Rattle.drawing.specs.declared.Room.{Room}
use Rattle.rooms.specs.Causes.{AcceptedRooms}
use Rattle.rooms.specs.LabelList.{label_of, position_of, label_list}
use Rattle.rooms.proofs.LabelFacts.{positions_are_1_to_n, label_list_by_position, left_iff_smaller_label, below_iff_larger_label}
use Rattle.rooms.specs.Plan.{Floorplan, swap_floorplan, left→right≤left}
use Rattle.rooms.specs.PlanOf.{plan_of, accepted→floorplan}
use Rattle.rooms.proofs.Ranks.{left→earlier, below→earlier, length_label_list}
use Rattle.rooms.proofs.Steps.{left_of→left, below_of→below}
use Rattle.sizes.specs.Direction.{Direction, across, upward, Before}
use Rattle.sizes.specs.Lists.{EachWay, HonoursAll}
use Rattle.sizes.specs.Placed.{start_of, end_of, StandsBefore, RoomsHonour, OwnCorners}

module _ (rooms : List Room) (accepted : AcceptedRooms rooms) where
  abbrev labels : List ℕ
  labels = label_list rooms

  abbrev position : ℕ → ℕ
  position = position_of rooms

  k : Floorplan (plan_of rooms)
  k = accepted→floorplan rooms accepted

  size : length labels ≡ length rooms
  size = length_label_list rooms k

  of : (a : ℕ) → a < length rooms → label_at labels (position a) ≡ label_of rooms a
  of = label_list_by_position rooms accepted

  pub stands→before : (way : Direction) (a b : ℕ) → a < length rooms → b < length rooms → StandsBefore rooms way a b
      → Before (label_at labels) way (position a) (position b)
  stands→before across a b ha hb r = let (l, s) = left→earlier rooms k r in (l, omega (arith, of a ha, of b hb))
  stands→before upward a b ha hb r = let (l, s) = below→earlier rooms k r in (l, omega (arith, of a ha, of b hb))

  pub before→stands : (way : Direction) (a b : ℕ) → a < length rooms → b < length rooms → Before (label_at labels) way (position a) (position b)
      → StandsBefore rooms way a b
  before→stands across a b ha hb (l, s) = (left_iff_smaller_label rooms accepted a b ha hb l).1 (omega (arith, of a ha, of b hb))
  before→stands upward a b ha hb (l, s) = (below_iff_larger_label rooms accepted a b ha hb l).1 (omega (arith, of a ha, of b hb))

  -- the room at a position
  room_at_lem : (i : ℕ) → 1 ≤ i → i < suc (length labels) → Some (λ a. position a ≡ i) 0 (length rooms)
  room_at_lem i a b = (positions_are_1_to_n rooms accepted).each i a (omega (arith, size))

  module _ (sizes corners : EachWay (List ℕ)) where
    pub honours_iff_rooms_honour : HonoursAll labels sizes corners ↔ RoomsHonour rooms sizes corners
    honours_iff_rooms_honour = (to, from)
      where
        to : HonoursAll labels sizes corners → RoomsHonour rooms sizes corners
        to honours way a b ha hb r =
            let pa = (positions_are_1_to_n rooms accepted).range a ha in
            let pb = (positions_are_1_to_n rooms accepted).range b hb in
            honours way (position a) pa.0 (omega (arith, size)) (position b) pb.0 (omega (arith, size)) (stands→before way a b ha hb r)

        from : RoomsHonour rooms sizes corners → HonoursAll labels sizes corners
        from honours way i ai bi j aj bj p =
            let (a, la, ha, ea) = room_at_lem i ai bi in
            let (b, lb, hb, eb) = room_at_lem j aj bj in
            subst₂ (λ (i j : ℕ). end_of sizes corners way i ≤ start_of corners way j) ea eb
            (honours way a b ha hb (before→stands way a b ha hb (subst₂ (Before (label_at labels) way) (sym ea) (sym eb) p)))

    -- a floorplan's own corners honour its relations
    pub own_corners_honour : OwnCorners rooms sizes corners → RoomsHonour rooms sizes corners
    own_corners_honour own across a b ha hb r = omega (arith, own.right a ha, own.left b hb, left→right≤left k (left_of→left rooms r))
    own_corners_honour own upward a b ha hb r =
        omega (arith, own.top a ha, own.bottom b hb, left→right≤left (swap_floorplan k) (below_of→below rooms r))

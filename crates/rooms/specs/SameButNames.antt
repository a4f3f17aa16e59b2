-- Two room lists that differ in names alone. "The record holds no names, equivalence ignores them" (M-106). Whatever is said of a list by
-- its rooms' corners is said by its plan, and the two lists have one plan.
use Rattle.std.specs.Prelude.{◌≡◌, refl, ◌≢◌, ◌⊎◌, List, ℕ, ◌≤◌, ◌<◌, length}
use Rattle.std.proofs.Common.{sym, ap, subst, subst₂, inl, inr, zero-le, arith}
use Rattle.std.proofs.Math.ListN.{get_or-eq_default}
use Rattle.finite.specs.Decide.{le_or_lt}
use Rattle.finite.specs.Search.{Some, Each}
use Rattle.record.specs.Causes.{BadCount}
use Rattle.drawing.specs.declared.Room.{Room}
use Rattle.drawing.specs.Tiling.{Different}
use Rattle.finite.specs.Extremes.{least, greatest}
use Rattle.rooms.specs.Outline.{room_in}
use Rattle.rooms.specs.Causes.{RoomSize, ShareSquare, Overlap, Uncovered, MeetAtPoint, FourMeet, NameTwice, AcceptedRooms}
use Rattle.rooms.specs.Segment.{Direction, upright, flat, Stretch, Drawn, Segment, Side, left_edge, right_edge, bottom_edge, top_edge, edge}
use Rattle.rooms.specs.Plan.{Plan, room_of, RoomCovers, OutlineCovers}
use Rattle.rooms.specs.PlanOf.{plan_of}

-- the two rooms have the same four corners
pub record SameCorners (room other : Room) : Type 0 where
  pub left : room.left ≡ other.left
  pub bottom : room.bottom ≡ other.bottom
  pub right : room.right ≡ other.right
  pub top : room.top ≡ other.top

-- as many rooms, and at each place rooms of the same corners
pub record SameButNames (rooms others : List Room) : Type 0 where
  pub count : length rooms ≡ length others
  pub corners : Each (λ i. SameCorners (room_in rooms i) (room_in others i)) 0 (length rooms)

pub same_but_names_sym : {rooms others : List Room} → SameButNames rooms others → SameButNames others rooms
same_but_names_sym same = record { count = sym same.count; corners = λ i l h. turned (same.corners i l (omega (arith, same.count))) }
  where
    turned : {room other : Room} → SameCorners room other → SameCorners other room
    turned c = record { left = sym c.left; bottom = sym c.bottom; right = sym c.right; top = sym c.top }

module _ {rooms others : List Room} (same : SameButNames rooms others) where
  -- past the last room too: there `room_in` gives a room of no size at 0
  at : (i : ℕ) → SameCorners (room_in rooms i) (room_in others i)
  at i = elim (le_or_lt (length rooms) i) [
    | inr h ↦ same.corners i zero-le h
    | inl past ↦
        let none : Room = record { left = 0; bottom = 0; right = 0; top = 0; name = 0 } in
        subst₂ SameCorners (sym (get_or-eq_default rooms none past))
        (sym (get_or-eq_default others none (omega (arith, same.count))))
        (record { left = refl; bottom = refl; right = refl; top = refl })
  ]

  -- the plan knows no names
  pub same_plan : plan_of rooms ≡ plan_of others
  same_plan = λ j. record {
    count = same.count j;
    left = λ i. (at i).left j;
    bottom = λ i. (at i).bottom j;
    right = λ i. (at i).right j;
    top = λ i. (at i).top j;
    west = least (λ i. (at i).left j) (same.count j);
    south = least (λ i. (at i).bottom j) (same.count j);
    east = greatest (λ i. (at i).right j) (same.count j);
    north = greatest (λ i. (at i).top j) (same.count j);
  }

  -- ---- the causes 2 to 5
  pub same_room_size : RoomSize rooms → RoomSize others
  same_room_size = subst (λ (p : Plan). Some (λ i. (p.right i ≤ p.left i) ⊎ (p.top i ≤ p.bottom i)) 0 p.count) same_plan

  pub same_overlap : Overlap rooms → Overlap others
  same_overlap =
      subst (λ (p : Plan). Some (λ i. Some (λ j. (i ≢ j) × ShareSquare (room_of p i) (room_of p j)) 0 p.count) 0 p.count) same_plan

  pub same_uncovered : Uncovered rooms → Uncovered others
  same_uncovered =
      subst (λ (p : Plan). (x : ℕ) × (y : ℕ) × OutlineCovers p x y × (¬ Some (λ i. RoomCovers p i x y) 0 p.count)) same_plan

  pub same_four_meet : FourMeet rooms → FourMeet others
  same_four_meet =
      subst (λ (p : Plan). Some (λ a. Some (λ b. Some (λ c. Some (λ d.
      Different a b c d × MeetAtPoint (room_of p a) (room_of p b) (room_of p c) (room_of p d))
      0 p.count) 0 p.count) 0 p.count) 0 p.count)
      same_plan

  -- ---- edges
  same_drawn : (direction : Direction) (line z : ℕ) → Drawn rooms direction line z → Drawn others direction line z
  same_drawn upright line z =
      subst (λ (p : Plan). Some (λ i. ((p.left i ≡ line) ⊎ (p.right i ≡ line)) × (p.bottom i ≤ z) × (z < p.top i)) 0 p.count)
      same_plan
  same_drawn flat line z =
      subst (λ (p : Plan). Some (λ i. ((p.bottom i ≡ line) ⊎ (p.top i ≡ line)) × (p.left i ≤ z) × (z < p.right i)) 0 p.count)
      same_plan

  pub same_edge : (side : Side) (i : ℕ) → edge side (room_in rooms i) ≡ edge side (room_in others i)
  same_edge left_edge i = ap (λ (p : Plan). edge left_edge (room_of p i)) same_plan
  same_edge right_edge i = ap (λ (p : Plan). edge right_edge (room_of p i)) same_plan
  same_edge bottom_edge i = ap (λ (p : Plan). edge bottom_edge (room_of p i)) same_plan
  same_edge top_edge i = ap (λ (p : Plan). edge top_edge (room_of p i)) same_plan

-- one list is accepted where the other is, except for its names
pub same_accepted : {rooms others : List Room} → SameButNames rooms others → AcceptedRooms rooms → ¬ NameTwice others → AcceptedRooms others
same_accepted {rooms} {others} same accepted names = let back = same_but_names_sym same in record {
  count = λ c. accepted.count (subst BadCount back.count c);
  size = λ c. accepted.size (same_room_size back c);
  overlap = λ c. accepted.overlap (same_overlap back c);
  uncovered = λ c. accepted.uncovered (same_uncovered back c);
  four_meet = λ c. accepted.four_meet (same_four_meet back c);
  names = names;
}

pub same_segment : {rooms others : List Room} → SameButNames rooms others → (s : Stretch) → Segment rooms s → Segment others s
same_segment same s g = record {
  some = g.some;
  unbroken = λ z l h. same_drawn same s.direction s.line z (g.unbroken z l h);
  ends = λ drawn. g.ends (same_drawn (same_but_names_sym same) s.direction s.line s.to drawn);
  starts = λ z e drawn. g.starts z e (same_drawn (same_but_names_sym same) s.direction s.line z drawn);
}

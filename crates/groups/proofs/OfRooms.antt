-- What is answered for a record and two groups holds in every accepted room list which has the record, for the rooms at the positions.
use Rattle.std.specs.Prelude.{List, ◌≢◌, ◌↔◌, ◌≡◌, ℕ, ◌≤◌, ◌<◌, length}
use Rattle.std.proofs.Common.{inl, inr, sym, subst, subst₂, ◌∙◌, arith}
use Rattle.record.specs.Labels.{label_at}
use Rattle.drawing.specs.Side.{side_of}
use Rattle.drawing.specs.declared.Room.{Room}
use Rattle.drawing.specs.declared.Side.{Side}
use Rattle.rooms.specs.Causes.{AcceptedRooms}
use Rattle.rooms.specs.LabelList.{position_of, label_list}
use Rattle.rooms.proofs.LabelFacts.{positions_are_1_to_n}
use Rattle.rooms.specs.Ranks.{OneToN}
use Rattle.rooms.specs.Direct.{Stands}
use Rattle.rooms.proofs.Stands.{rooms_stand}
use Rattle.rooms.proofs.Demand3.{rooms_give_baxter}
use Rattle.rooms.proofs.RelationFacts.{exactly_one_relation}
use Rattle.groups.specs.Group.{Member, Fits}
use Rattle.groups.specs.Standing.{AllStand}
use Rattle.groups.proofs.StandingFacts.{member_inside}

-- every room of a list whose position is in the first group stands on that side of every room whose position is in the second
abbrev pub RoomsStand : (rooms : List Room) (first second : List ℕ) → Side → Type 0
RoomsStand rooms first second side = (a b : ℕ) → a < length rooms → b < length rooms
    → Member first (position_of rooms a) → Member second (position_of rooms b) → Stands rooms side a b

module _ (rooms : List Room) (accepted : AcceptedRooms rooms) (first second : List ℕ)
    (fits : Fits (length rooms) first second) where
  abbrev f : ℕ → ℕ
  f = label_at (label_list rooms)

  abbrev position : ℕ → ℕ
  position = position_of rooms

  at : OneToN (position_of rooms) (length rooms)
  at = positions_are_1_to_n rooms accepted

  few : length rooms ≤ 255
  few = (rooms_give_baxter rooms accepted).few

  -- a pair of rooms
  module _ {a b : ℕ} (ha : a < length rooms) (hb : b < length rooms) (m : Member first (position a)) (l : Member second (position b)) where
    differ : a ≢ b
    differ e = fits.apart (position a, (at.range a ha).0, omega (arith, few, at.range a ha), (m, subst (λ (z : ℕ). Member second (position z)) (sym e) l))

    stands : Stands rooms (side_of f (position a) (position b)) a b
    stands = rooms_stand rooms accepted a b ha hb differ

    side_only : (side : Side) → Stands rooms side a b → side_of f (position a) (position b) ≡ side
    side_only side s =
        let only = (exactly_one_relation rooms accepted a b ha hb differ).only in
        only (side_of f (position a) (position b)) stands ∙ sym (only side s)

  pub stand_iff_rooms_stand : (side : Side) → AllStand f first second side ↔ RoomsStand rooms first second side
  stand_iff_rooms_stand side = (to, from)
    where
      to : AllStand f first second side → RoomsStand rooms first second side
      to h a b ha hb m l =
          let pa = at.range a ha in
          let pb = at.range b hb in
          subst (λ (s : Side). Stands rooms s a b)
          (h (position a) pa.0 (omega (arith, few)) m (position b) pb.0 (omega (arith, few)) l) (stands ha hb m l)

      from : RoomsStand rooms first second side → AllStand f first second side
      from h i u v m j x y l =
          let (a, _, ha, ea) = at.each i u (member_inside first (λ z. fits.inside (inl z)) i u v m) in
          let (b, _, hb, eb) = at.each j x (member_inside second (λ z. fits.inside (inr z)) j x y l) in
          let of-first = subst (Member first) (sym ea) m in
          let of-second = subst (Member second) (sym eb) l in
          subst₂ (λ (i j : ℕ). side_of f i j ≡ side) ea eb (side_only ha hb of-first of-second side (h a b ha hb of-first of-second))

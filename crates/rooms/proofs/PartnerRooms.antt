-- Two accepted room lists with the same label list: the rooms pair off by position, and left and below agree.
use Rattle.std.specs.Prelude.{◌≡◌, List, ℕ, ◌<◌, length}
use Rattle.std.proofs.Common.{sym, ap, ◌∙◌, arith}
use Rattle.record.specs.Labels.{label_at}
use Rattle.drawing.specs.declared.Room.{Room}
use Rattle.rooms.specs.Orders.{LeftOf, BelowOf}
use Rattle.rooms.specs.LabelList.{label_of, position_of, room_at_position, label_list}
use Rattle.rooms.specs.Plan.{Floorplan}
use Rattle.rooms.specs.PlanOf.{plan_of}
use Rattle.rooms.proofs.RoomOrders.{chain_in_list}
use Rattle.rooms.proofs.Ranks.{positions_1_to_n, left→earlier, below→earlier, smaller→left, larger→below, room_at_position_lem, room_of_its_position, length_label_list, label_by_position}

-- the room over there at the same position
abbrev pub partner : (rooms others : List Room) → ℕ → ℕ
partner rooms others a = room_at_position others (position_of rooms a)

module _ (rooms others : List Room) (k : Floorplan (plan_of rooms)) (ko : Floorplan (plan_of others)) (same : label_list rooms ≡ label_list others) where
  pub same_size : length rooms ≡ length others
  same_size = sym (length_label_list rooms k) ∙ ap length same ∙ length_label_list others ko

  found : (a : ℕ) → a < length rooms
      → (partner rooms others a < length others) × (position_of others (partner rooms others a) ≡ position_of rooms a)
  found a h = let r = (positions_1_to_n rooms k).range a h in room_at_position_lem others ko (position_of rooms a) (omega arith) (omega (arith, same_size))

  pub partner< : (a : ℕ) → a < length rooms → partner rooms others a < length others
  partner< a h = (found a h).0

  partner_label : (a : ℕ) → a < length rooms → label_of others (partner rooms others a) ≡ label_of rooms a
  partner_label a h =
      sym (label_by_position others ko (partner rooms others a) (partner< a h)) ∙ ap (label_at (label_list others)) (found a h).1
      ∙ sym (ap (λ (labels : List ℕ). label_at labels (position_of rooms a)) same) ∙ label_by_position rooms k a h

  -- a room is its partner's partner
  pub partner_of_partner : (a : ℕ) → a < length rooms → partner others rooms (partner rooms others a) ≡ a
  partner_of_partner a h = ap (room_at_position rooms) (found a h).1 ∙ room_of_its_position rooms k a h

  pub partner_left : (a b : ℕ) → LeftOf rooms a b → LeftOf others (partner rooms others a) (partner rooms others b)
  partner_left a b r =
      let (ha, hb) = chain_in_list r in
      let (u, v) = left→earlier rooms k r in
      smaller→left others ko (partner rooms others a) (partner rooms others b) (partner< a ha) (partner< b hb) (omega (arith, (found a ha).1, (found b hb).1)) (omega (arith, partner_label a ha, partner_label b hb))

  pub partner_below : (a b : ℕ) → BelowOf rooms a b → BelowOf others (partner rooms others a) (partner rooms others b)
  partner_below a b r =
      let (ha, hb) = chain_in_list r in
      let (u, v) = below→earlier rooms k r in
      larger→below others ko (partner rooms others a) (partner rooms others b) (partner< a ha) (partner< b hb) (omega (arith, (found a ha).1, (found b hb).1)) (omega (arith, partner_label a ha, partner_label b hb))

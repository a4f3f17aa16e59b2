-- Equivalent room lists have one label list: direct steps are stated by segments, so they carry over, and with them chains, counts,
-- labels and positions.
use Rattle.std.specs.Prelude.{◌≡◌, List, ℕ, suc, ◌≤◌, ◌<◌, length}
use Rattle.std.proofs.Common.{sym, ap, ◌∙◌, inl, inr, arith, ext_get_or}
use Rattle.finite.specs.Count.{keep→size, keep→rank}
use Rattle.record.specs.Labels.{label_at}
use Rattle.drawing.specs.declared.Room.{Room}
use Rattle.rooms.specs.Segment.{Side, left_edge, right_edge, bottom_edge, top_edge}
use Rattle.rooms.specs.Orders.{OneSegment, LeftOf, BelowOf, AboveOf}
use Rattle.rooms.specs.LabelList.{label_of, position_of, room_at_position, label_list}
use Rattle.rooms.specs.Equivalent.{Equivalent}
use Rattle.rooms.specs.Chain.{chain_map}
use Rattle.rooms.specs.Plan.{Floorplan}
use Rattle.rooms.specs.PlanOf.{plan_of}
use Rattle.rooms.specs.TwoOrders.{Before, strict}
use Rattle.rooms.proofs.Equivalence.{equivalent_sym}
use Rattle.rooms.proofs.RoomOrders.{position_orders, label_orders}
use Rattle.rooms.proofs.Ranks.{position_is_rank, label_is_rank, room_at_position_lem, length_label_list, label_list_at, label_by_position}

-- ---- a map of rooms that keeps left, below and above
record KeepsRelations (rooms others : List Room) (there : ℕ → ℕ) : Type 0 where
  there< : (a : ℕ) → a < length rooms → there a < length others
  left : (a b : ℕ) → LeftOf rooms a b → LeftOf others (there a) (there b)
  below : (a b : ℕ) → BelowOf rooms a b → BelowOf others (there a) (there b)
  above : (a b : ℕ) → AboveOf rooms a b → AboveOf others (there a) (there b)

module _ (rooms others : List Room) (k : Floorplan (plan_of rooms)) (ko : Floorplan (plan_of others)) (there : ℕ → ℕ) (c : KeepsRelations rooms others there) where
  keeps_position_order : (a b : ℕ) → Before (position_orders rooms k) a b → Before (position_orders others ko) (there a) (there b)
  keeps_position_order a b r = elim r [ inl u ↦ inl (c.left a b u) | inr u ↦ inr (c.below a b u) ]

  keeps_label_order : (a b : ℕ) → Before (label_orders rooms k) a b → Before (label_orders others ko) (there a) (there b)
  keeps_label_order a b r = elim r [ inl u ↦ inl (c.left a b u) | inr u ↦ inr (c.above a b u) ]

  keeps→size : length rooms ≤ length others
  keeps→size = keep→size (strict (position_orders rooms k)) (strict (position_orders others ko)) there c.there< keeps_position_order

  module _ (size : length rooms ≡ length others) (a : ℕ) (h : a < length rooms) where
    keeps→position : position_of others (there a) ≡ position_of rooms a
    keeps→position = omega (arith, position_is_rank rooms k a, position_is_rank others ko (there a), keep→rank (strict (position_orders rooms k)) (strict (position_orders others ko)) there c.there< keeps_position_order size a h)

    keeps→label : label_of others (there a) ≡ label_of rooms a
    keeps→label = omega (arith, label_is_rank rooms k a, label_is_rank others ko (there a), keep→rank (strict (label_orders rooms k)) (strict (label_orders others ko)) there c.there< keeps_label_order size a h)

-- ---- equivalence keeps direct steps
module _ (rooms others : List Room) (e : Equivalent rooms others) where
  pub equivalent→keeps_one_segment : (of_a of_b : Side) (a b : ℕ) → OneSegment rooms of_a of_b a b
      → OneSegment others of_a of_b (e.pair_rooms.to a) (e.pair_rooms.to b)
  equivalent→keeps_one_segment of_a of_b a b d = record {
    a< = e.pair_rooms.to_has a d.a<;
    b< = e.pair_rooms.to_has b d.b<;
    by = e.pair_segments.to d.by;
    segment = e.pair_segments.to_has d.by d.segment;
    holds_a = (e.holds d.by d.segment a d.a< of_a).0 d.holds_a;
    holds_b = (e.holds d.by d.segment b d.b< of_b).0 d.holds_b;
  }

  equivalent→keeps : KeepsRelations rooms others e.pair_rooms.to
  equivalent→keeps = record {
    there< = e.pair_rooms.to_has;
    left = λ a b r. chain_map e.pair_rooms.to (equivalent→keeps_one_segment right_edge left_edge) r;
    below = λ a b r. chain_map e.pair_rooms.to (equivalent→keeps_one_segment top_edge bottom_edge) r;
    above = λ a b r. chain_map e.pair_rooms.to (equivalent→keeps_one_segment bottom_edge top_edge) r;
  }

module _ (rooms others : List Room) (k : Floorplan (plan_of rooms)) (ko : Floorplan (plan_of others)) (e : Equivalent rooms others) where
  abbrev there : ℕ → ℕ
  there = e.pair_rooms.to

  keeps : KeepsRelations rooms others there
  keeps = equivalent→keeps rooms others e

  same_size : length rooms ≡ length others
  same_size = omega (arith, keeps→size rooms others k ko there keeps, keeps→size others rooms ko k (equivalent_sym e).pair_rooms.to (equivalent→keeps others rooms (equivalent_sym e)))

  -- a room and its partner stand at the same position and have the same label
  pub equivalent→same_position : (a : ℕ) → a < length rooms → position_of others (e.pair_rooms.to a) ≡ position_of rooms a
  equivalent→same_position = keeps→position rooms others k ko there keeps same_size

  pub equivalent→same_label : (a : ℕ) → a < length rooms → label_of others (e.pair_rooms.to a) ≡ label_of rooms a
  equivalent→same_label = keeps→label rooms others k ko there keeps same_size

  pub equivalent→same_labels : label_list rooms ≡ label_list others
  equivalent→same_labels =
      ext_get_or 0 (label_list rooms) (label_list others) (length_label_list rooms k ∙ same_size ∙ sym (length_label_list others ko))
      (λ i h. same i (omega (arith, length_label_list rooms k)))
    where
      same : (i : ℕ) → i < length rooms → label_at (label_list rooms) (suc i) ≡ label_at (label_list others) (suc i)
      same i h =
          let (here, at) = room_at_position_lem rooms k (suc i) (omega arith) h in
          let room = room_at_position rooms (suc i) in
          label_list_at rooms k i h ∙ sym (equivalent→same_label room here) ∙ sym (label_by_position others ko (there room) (keeps.there< room here))
          ∙ ap (label_at (label_list others)) (equivalent→same_position room here ∙ at)

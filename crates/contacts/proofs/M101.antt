-- M-101: touch by segments. What is answered for a record and two positions is so in every floorplan that has the record, and the corners
-- of the grid drawing tell it.
use Rattle.std.specs.Prelude.{◌≡◌, ◌↔◌, List, ℕ, suc, ◌-◌, ◌≤◌, ◌<◌, length}
use Rattle.std.proofs.Common.{subst₂, inl, inr, arith}
use Rattle.record.specs.Labels.{label_at, EachOnce}
use Rattle.drawing.specs.declared.Room.{Room}
use Rattle.drawing.specs.Drawing.{room_at, drawing_of}
use Rattle.drawing.specs.InnerLine.{ShareInnerLine}
use Rattle.rooms.specs.Causes.{AcceptedRooms}
use Rattle.rooms.specs.Segment.{Stretch, Side, left_edge, right_edge, bottom_edge, top_edge}
use Rattle.rooms.specs.LabelList.{position_of, label_list}
use Rattle.rooms.specs.Equivalent.{Equivalent}
use Rattle.contacts.specs.Touches.{Supports, opposite, SupportsBoth, Touches, PositionsTouch}
use Rattle.contacts.proofs.TouchFacts.{touches_iff_partners_touch}
use Rattle.contacts.specs.ByPosition.{ByPosition, by_position}
use Rattle.contacts.proofs.GridTouches.{drawing_touches_iff_share_inner_line}

-- where one room touches another, that touches the one
pub m101_touch_symmetric : (rooms : List Room) (a b : ℕ) → Touches rooms a b → Touches rooms b a
m101_touch_symmetric rooms a b t =
    record { a< = t.b<; b< = t.a<; by = t.by; inner = t.inner; supports_both = turned t.supports_both }
  where
    across : {s : Stretch} {first second : Room} (side : Side) → Supports s side first → Supports s (opposite side) second
        → SupportsBoth s second first
    across left_edge h k = record { side = right_edge; supports_first = k; supports_second = inr h }
    across right_edge h k = record { side = left_edge; supports_first = k; supports_second = inr h }
    across bottom_edge h k = record { side = top_edge; supports_first = k; supports_second = inr h }
    across top_edge h k = record { side = bottom_edge; supports_first = k; supports_second = inr h }

    turned : {s : Stretch} {first second : Room} → SupportsBoth s first second → SupportsBoth s second first
    turned both = elim both.supports_second [
      | inl same ↦ record { side = both.side; supports_first = same; supports_second = inl both.supports_first }
      | inr other ↦ across both.side both.supports_first other
    ]

-- "The answer must be the same for every equivalent floorplan": the partners of two rooms touch exactly if the two rooms do
pub m101_partners_touch : (rooms others : List Room) → AcceptedRooms rooms → AcceptedRooms others → (e : Equivalent rooms others)
    → (a b : ℕ) → a < length rooms → b < length rooms → Touches rooms a b ↔ Touches others (e.pair_rooms.to a) (e.pair_rooms.to b)
m101_partners_touch = touches_iff_partners_touch

-- two rooms of an accepted room list touch exactly if their positions do in the grid drawing of its label list
pub m101_rooms_touch_iff_positions_touch : (rooms : List Room) → AcceptedRooms rooms → (a b : ℕ) → a < length rooms → b < length rooms
    → Touches rooms a b ↔ PositionsTouch (label_list rooms) (position_of rooms a) (position_of rooms b)
m101_rooms_touch_iff_positions_touch rooms accepted a b ha hb =
    subst₂ (λ (x y : ℕ). Touches rooms a b ↔ Touches (drawing_of (label_list rooms)) x y) (drawn.place a ha) (drawn.place b hb)
    (touches_iff_partners_touch rooms (drawing_of (label_list rooms)) accepted drawn.accepted drawn.same a b ha hb)
  where
    drawn : ByPosition rooms
    drawn = by_position rooms accepted

-- in the grid drawing two positions touch exactly if their rooms share one of the lines 1 to n - 1
pub m101_positions_touch_iff_share_inner_line : (labels : List ℕ) → EachOnce (label_at labels) (length labels)
    → (first second : ℕ) → 1 ≤ first → first ≤ length labels → 1 ≤ second → second ≤ length labels
    → let n = length labels in let room = room_at (label_at labels) n in
    PositionsTouch labels first second ↔ ShareInnerLine n (room first) (room second)
m101_positions_touch_iff_share_inner_line labels once first second some most some-too most-too =
    let one : suc (first - 1) ≡ first = omega arith in
    let other : suc (second - 1) ≡ second = omega arith in
    subst₂ (λ (i j : ℕ). PositionsTouch labels first second ↔ ShareInnerLine (length labels) (room i) (room j)) one other
    (drawing_touches_iff_share_inner_line labels once (first - 1) (second - 1) (omega arith) (omega arith))
  where
    room : ℕ → Room
    room = room_at (label_at labels) (length labels)

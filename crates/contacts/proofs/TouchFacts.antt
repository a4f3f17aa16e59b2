-- Rooms that touch in equivalent floorplans: the partners of two rooms touch exactly if the two do, since the partner of an inner segment
-- is inner. A segment is known to be inner by the rooms that it supports, and these carry over.
use Rattle.std.proofs.Common.{subst₂, inl, inr}
use Rattle.std.specs.Prelude.{◌↔◌, List, ℕ, ◌<◌, length}
use Rattle.drawing.specs.declared.Room.{Room}
use Rattle.rooms.specs.Causes.{AcceptedRooms}
use Rattle.rooms.specs.Segment.{Stretch, Segment}
use Rattle.rooms.specs.Equivalent.{Equivalent}
use Rattle.rooms.specs.Plan.{Floorplan}
use Rattle.rooms.specs.PlanOf.{plan_of, accepted→floorplan}
use Rattle.rooms.proofs.Equivalence.{equivalent_sym}
use Rattle.contacts.specs.Inner.{OutlineSide, InnerSegment}
use Rattle.contacts.specs.Touches.{opposite, Touches}
use Rattle.contacts.proofs.InnerFacts.{near_side, far_side, BothSides, outline_side_or_both_sides, both_sides→inside, inside→not_outline_side}

-- a segment is inner exactly if it supports rooms from both sides
pub inner_iff_both_sides : (rooms : List Room) → AcceptedRooms rooms → (s : Stretch) → Segment rooms s
    → (¬ OutlineSide rooms s) ↔ BothSides rooms s
inner_iff_both_sides rooms accepted s g = (
  λ inner. elim (outline_side_or_both_sides rooms k s g) [ inl outer ↦ absurd (inner outer) | inr both ↦ both ],
  λ both. inside→not_outline_side rooms s (both_sides→inside rooms k s both),
)
  where
    k : Floorplan (plan_of rooms)
    k = accepted→floorplan rooms accepted

-- ---- from rooms to their partners
module _ (rooms others : List Room) (accepted : AcceptedRooms rooms) (accepted-others : AcceptedRooms others)
    (e : Equivalent rooms others) where
  inner→partner_inner : (s : Stretch) → InnerSegment rooms s → InnerSegment others (e.pair_segments.to s)
  inner→partner_inner s inner =
      let g = inner.segment in
      let both = (inner_iff_both_sides rooms accepted s g).0 inner.not_outline_side in
      let there = e.pair_segments.to_has s g in
      record {
        segment = there;
        not_outline_side = (inner_iff_both_sides others accepted-others (e.pair_segments.to s) there).1 (record {
          direction = both.direction;
          before = e.pair_rooms.to both.before;
          after = e.pair_rooms.to both.after;
          before< = e.pair_rooms.to_has both.before both.before<;
          after< = e.pair_rooms.to_has both.after both.after<;
          holds_far = (e.holds s g both.before both.before< (far_side both.direction)).0 both.holds_far;
          holds_near = (e.holds s g both.after both.after< (near_side both.direction)).0 both.holds_near;
        });
      }

  touches→partners_touch : (a b : ℕ) → Touches rooms a b → Touches others (e.pair_rooms.to a) (e.pair_rooms.to b)
  touches→partners_touch a b t =
      let g = t.inner.segment in
      let both = t.supports_both in
      record {
        a< = e.pair_rooms.to_has a t.a<;
        b< = e.pair_rooms.to_has b t.b<;
        by = e.pair_segments.to t.by;
        inner = inner→partner_inner t.by t.inner;
        supports_both = record {
          side = both.side;
          supports_first = (e.holds t.by g a t.a< both.side).0 both.supports_first;
          supports_second = elim both.supports_second [
            | inl same ↦ inl ((e.holds t.by g b t.b< both.side).0 same)
            | inr across ↦ inr ((e.holds t.by g b t.b< (opposite both.side)).0 across)
          ];
        };
      }

-- ---- and back
pub touches_iff_partners_touch : (rooms others : List Room) → AcceptedRooms rooms → AcceptedRooms others → (e : Equivalent rooms others)
    → (a b : ℕ) → a < length rooms → b < length rooms → Touches rooms a b ↔ Touches others (e.pair_rooms.to a) (e.pair_rooms.to b)
unfolding equivalent_sym
touches_iff_partners_touch rooms others accepted accepted-others e a b ha hb = (
  touches→partners_touch rooms others accepted accepted-others e a b,
  λ t. subst₂ (Touches rooms) (e.pair_rooms.from_to a ha) (e.pair_rooms.from_to b hb)
      (touches→partners_touch others rooms accepted-others accepted (equivalent_sym e) (e.pair_rooms.to a) (e.pair_rooms.to b) t),
)

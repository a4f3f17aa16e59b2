-- Touch in the grid drawing, read off the corners: each of the lines 1 to n - 1 has one segment, so two edges on such a line are held by
-- one segment. For any list of the labels 1 to n, each once, and so for any Baxter list. Places count from 0 and positions from 1.
use Rattle.std.specs.Prelude.{◌≡◌, ◌⊎◌, ◌↔◌, List, ℕ, suc, ◌≤◌, ◌<◌, length}
use Rattle.std.proofs.Common.{sym, subst, subst₂, ◌∙◌, inl, inr, arith}
use Rattle.std.proofs.Math.Logic.{⊎_swap}
use Rattle.record.specs.Labels.{label_at, EachOnce}
use Rattle.drawing.specs.declared.Room.{Room}
use Rattle.drawing.specs.Drawing.{room_at, drawing_of}
use Rattle.drawing.specs.InnerLine.{InnerLineOf, ShareInnerLine}
use Rattle.rooms.specs.Outline.{room_in}
use Rattle.rooms.specs.Segment.{Direction, upright, flat, Stretch, Side, left_edge, right_edge, bottom_edge, top_edge, edge, Holds}
use Rattle.rooms.specs.Orders.{OneSegment}
use Rattle.rooms.specs.Plan.{Floorplan}
use Rattle.rooms.specs.PlanOf.{plan_of}
use Rattle.rooms.proofs.SegmentOfEdge.{segment_of, segment_line, segment_holds}
use Rattle.rooms.specs.GridFloorplan.{length_drawing, room_in_drawing, drawing_floorplan}
use Rattle.contacts.proofs.InnerFacts.{near_side, far_side}
use Rattle.contacts.specs.Touches.{Supports, opposite, Touches}
use Rattle.contacts.specs.GridLine.{OnlyInnerSegment, line_at}
use Rattle.contacts.proofs.GridSegments.{inner_iff_on_1_to_n_1, one_inner_segment_per_line}

-- ---- lines and corners
-- x is one of a room's two lines in a direction
abbrev LineOf : Direction → Room → ℕ → Type 0
LineOf d room x = (x ≡ (edge (near_side d) room).line) ⊎ (x ≡ (edge (far_side d) room).line)

-- so is the line of a stretch that holds an edge of the room
held→line : (s : Stretch) (room : Room) (side : Side) → Holds s (edge side room) → LineOf s.direction room s.line
held→line s room side h = subst (λ (d : Direction). LineOf d room s.line) (sym h.direction) (go side h.line)
  where
    go : (side : Side) → s.line ≡ (edge side room).line → LineOf (edge side room).direction room s.line
    go left_edge e = inl e
    go right_edge e = inr e
    go bottom_edge e = inl e
    go top_edge e = inr e

common_line→share : (n x : ℕ) (r s : Room) → 1 ≤ x → x < n → (d : Direction) → LineOf d r x → LineOf d s x → ShareInnerLine n r s
common_line→share n x r s lo hi upright (inl e) of-s = inl (inl (subst (InnerLineOf n s.left s.right) e (lo, hi, of-s)))
common_line→share n x r s lo hi upright (inr e) of-s = inl (inr (subst (InnerLineOf n s.left s.right) e (lo, hi, of-s)))
common_line→share n x r s lo hi flat (inl e) of-s = inr (inl (subst (InnerLineOf n s.bottom s.top) e (lo, hi, of-s)))
common_line→share n x r s lo hi flat (inr e) of-s = inr (inr (subst (InnerLineOf n s.bottom s.top) e (lo, hi, of-s)))

module _ (labels : List ℕ) (once : EachOnce (label_at labels) (length labels)) (some : 1 ≤ length labels) (a b : ℕ)
    (ha : a < length (drawing_of labels)) (hb : b < length (drawing_of labels)) where
  abbrev rooms : List Room
  rooms = drawing_of labels

  abbrev n : ℕ
  n = length labels

  k : Floorplan (plan_of rooms)
  k = drawing_floorplan labels once some

  touches→share : Touches rooms a b → ShareInnerLine n (room_in rooms a) (room_in rooms b)
  touches→share t =
      let s = t.by in
      let both = t.supports_both in
      let (lo, hi) = (inner_iff_on_1_to_n_1 labels once some s t.inner.segment).0 t.inner in
      common_line→share n s.line (room_in rooms a) (room_in rooms b) lo hi s.direction
      (held→line s (room_in rooms a) both.side both.supports_first)
      (elim both.supports_second [
        | inl same ↦ held→line s (room_in rooms b) both.side same
        | inr across ↦ held→line s (room_in rooms b) (opposite both.side) across
      ])

  -- ---- an edge of the first room on an inner line, and edges of the second on that line
  module _ (side : Side) (lo : 1 ≤ (edge side (room_in rooms a)).line) (hi : (edge side (room_in rooms a)).line < n) where
    abbrev line : ℕ
    line = (edge side (room_in rooms a)).line

    only : OnlyInnerSegment rooms line (line_at (label_at labels) (room_at (label_at labels) n) line)
    only = one_inner_segment_per_line labels once line lo hi

    supports_on_line : (other : Side) → line ≡ (edge other (room_in rooms b)).line → Supports (segment_of rooms side a) other (room_in rooms b)
    supports_on_line other same = subst (λ (s : Stretch). Supports s other (room_in rooms b))
        (only.only (segment_of rooms other b) (segment_holds rooms k other b hb).0 (segment_line rooms other b ∙ sym same)
        ∙ sym (only.only (segment_of rooms side a) (segment_holds rooms k side a ha).0 (segment_line rooms side a)))
        (segment_holds rooms k other b hb).1

    -- so one segment holds the two edges
    pub on_line→one_segment : (other : Side) → line ≡ (edge other (room_in rooms b)).line → OneSegment rooms side other a b
    on_line→one_segment other same =
        let (segment, holds_a) = segment_holds rooms k side a ha in
        record {
          a< = ha;
          b< = hb;
          by = segment_of rooms side a;
          segment = segment;
          holds_a = holds_a;
          holds_b = supports_on_line other same;
        }

    on_line→touches : (line ≡ (edge side (room_in rooms b)).line) ⊎ (line ≡ (edge (opposite side) (room_in rooms b)).line) → Touches rooms a b
    on_line→touches on =
        let (segment, holds_a) = segment_holds rooms k side a ha in
        record {
          a< = ha;
          b< = hb;
          by = segment_of rooms side a;
          inner = (inner_iff_on_1_to_n_1 labels once some (segment_of rooms side a) segment).1 (omega (arith, segment_line rooms side a));
          supports_both = record {
            side = side;
            supports_first = holds_a;
            supports_second = elim on [ inl same ↦ inl (supports_on_line side same) | inr across ↦ inr (supports_on_line (opposite side) across) ];
          };
        }

  share→touches : ShareInnerLine n (room_in rooms a) (room_in rooms b) → Touches rooms a b
  share→touches (inl (inl (lo, hi, on))) = on_line→touches left_edge lo hi on
  share→touches (inl (inr (lo, hi, on))) = on_line→touches right_edge lo hi (⊎_swap on)
  share→touches (inr (inl (lo, hi, on))) = on_line→touches bottom_edge lo hi on
  share→touches (inr (inr (lo, hi, on))) = on_line→touches top_edge lo hi (⊎_swap on)

-- two rooms of the drawing touch exactly if they share an inner line
pub drawing_touches_iff_share_inner_line : (labels : List ℕ) → EachOnce (label_at labels) (length labels) → (a b : ℕ)
    → a < length labels → b < length labels → let n = length labels in let room = room_at (label_at labels) n in
    Touches (drawing_of labels) a b ↔ ShareInnerLine n (room (suc a)) (room (suc b))
drawing_touches_iff_share_inner_line labels once a b la lb =
    subst₂ (λ (r s : Room). Touches (drawing_of labels) a b ↔ ShareInnerLine (length labels) r s)
    (room_in_drawing labels a ha) (room_in_drawing labels b hb)
    (touches→share labels once (omega arith) a b ha hb, share→touches labels once (omega arith) a b ha hb)
  where
    ha : a < length (drawing_of labels)
    ha = omega (arith, length_drawing labels)

    hb : b < length (drawing_of labels)
    hb = omega (arith, length_drawing labels)

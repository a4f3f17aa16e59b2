-- Direct relations in the grid drawing, read off the corners. Facing edges on one line lie on one of the lines 1 to n - 1, since one room
-- ends there and the other starts; that line has one segment, which holds both. So the four lines tell of the four sides, and as two rooms
-- stand on one side only, whichever of them it is, it is the line of that side. Places count from 0 and positions from 1.
use Rattle.std.specs.Prelude.{◌≡◌, ◌≢◌, ◌↔◌, List, ℕ, suc, ◌≤◌, ◌<◌, length}
use Rattle.std.proofs.Common.{sym, subst, subst₂, ◌∙◌, inl, inr, arith}
use Rattle.record.specs.Labels.{label_at}
use Rattle.record.specs.Barred.{Baxter}
use Rattle.drawing.specs.declared.Room.{Room}
use Rattle.drawing.specs.declared.Side.{Side}
use Rattle.drawing.specs.declared.Side.TheVariants.{Left, Right, Above, Below}
use Rattle.drawing.specs.Drawing.{room_at, drawing_of}
use Rattle.drawing.specs.Side.{side_of, converse}
use Rattle.drawing.specs.InnerLine.{FaceOnOneLine}
use Rattle.drawing.specs.Within.{Within, drawn_within}
use Rattle.rooms.specs.Outline.{room_in}
use Rattle.rooms.specs.Segment.{edge}
use Rattle.rooms.specs.Orders.{one}
use Rattle.rooms.specs.Direct.{facing, Direct, Stands}
use Rattle.rooms.proofs.RelationFacts.{OnlySide, exactly_one_relation}
use Rattle.rooms.specs.GridFloorplan.{length_drawing, room_in_drawing, drawing_accepted}
use Rattle.rooms.proofs.Stands.{drawing_stands}
use Rattle.contacts.proofs.GridTouches.{on_line→one_segment}

-- where r stands on a side of s, their facing edges lie on one line
abbrev FacingLine : Side → Room → Room → Type 0
FacingLine side r s = (edge (facing side) r).line ≡ (edge (facing (converse side)) s).line

face→facing_line : (r s : Room) → FaceOnOneLine r s → (side : Side) × FacingLine side r s
face→facing_line r s (inl (inl e)) = (Right, e)
face→facing_line r s (inl (inr e)) = (Left, e)
face→facing_line r s (inr (inl e)) = (Above, e)
face→facing_line r s (inr (inr e)) = (Below, e)

facing_line→face : (r s : Room) (side : Side) → FacingLine side r s → FaceOnOneLine r s
facing_line→face r s Left e = inl (inr e)
facing_line→face r s Right e = inl (inl e)
facing_line→face r s Above e = inr (inl e)
facing_line→face r s Below e = inr (inr e)

-- it is one of the lines 1 to n - 1
facing_line→inner : (n : ℕ) (r s : Room) → Within n r → Within n s → (side : Side) → FacingLine side r s
    → (1 ≤ (edge (facing side) r).line) × ((edge (facing side) r).line < n)
facing_line→inner n r s of-r of-s Left e = omega arith
facing_line→inner n r s of-r of-s Right e = omega arith
facing_line→inner n r s of-r of-s Above e = omega arith
facing_line→inner n r s of-r of-s Below e = omega arith

module _ (labels : List ℕ) (baxter : Baxter labels) (some : 1 ≤ length labels) (few : length labels ≤ 255) (a b : ℕ)
    (la : a < length labels) (lb : b < length labels) where
  abbrev rooms : List Room
  rooms = drawing_of labels

  abbrev n : ℕ
  n = length labels

  ha : a < length rooms
  ha = omega (arith, length_drawing labels)

  hb : b < length rooms
  hb = omega (arith, length_drawing labels)

  within : (c : ℕ) → c < length rooms → Within n (room_in rooms c)
  within c h = subst (Within n) (sym (room_in_drawing labels c h))
      (drawn_within (label_at labels) n (suc c) (omega arith) (omega (arith, length_drawing labels)))

  facing_line→direct : (side : Side) → FacingLine side (room_in rooms a) (room_in rooms b) → Direct rooms side a b
  facing_line→direct side e =
      let (lo, hi) = facing_line→inner n (room_in rooms a) (room_in rooms b) (within a ha) (within b hb) side e in
      on_line→one_segment labels baxter.each_once some a b ha hb (facing side) lo hi (facing (converse side)) e

  direct→face : (side : Side) → Direct rooms side a b → FaceOnOneLine (room_in rooms a) (room_in rooms b)
  direct→face side d = facing_line→face (room_in rooms a) (room_in rooms b) side (sym d.holds_a.line ∙ d.holds_b.line)

  -- the side on which two different rooms stand is the only one
  face→direct : (side : Side) → Stands rooms side a b → a ≢ b → FaceOnOneLine (room_in rooms a) (room_in rooms b) → Direct rooms side a b
  face→direct side stands differ face =
      let (other, line) = face→facing_line (room_in rooms a) (room_in rooms b) face in
      let direct = facing_line→direct other line in
      subst (λ (s : Side). Direct rooms s a b) (only_side.only other (one direct) ∙ sym (only_side.only side stands)) direct
    where
      only_side : OnlySide rooms a b
      only_side = exactly_one_relation rooms (drawing_accepted labels baxter.each_once some few) a b ha hb differ

  -- so two rooms of the drawing are in a direct relation exactly if one ends where the other starts
  pub drawing_direct_iff_face_on_one_line : a ≢ b → let f = label_at labels in let room = room_at f (length labels) in
      Direct (drawing_of labels) (side_of f (suc a) (suc b)) a b ↔ FaceOnOneLine (room (suc a)) (room (suc b))
  drawing_direct_iff_face_on_one_line differ =
      let side = side_of (label_at labels) (suc a) (suc b) in
      subst₂ (λ (r s : Room). Direct rooms side a b ↔ FaceOnOneLine r s) (room_in_drawing labels a ha) (room_in_drawing labels b hb)
      (direct→face side, face→direct side (drawing_stands labels baxter some few a b la lb differ) differ)

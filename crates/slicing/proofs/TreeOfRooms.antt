-- Labels in order are rooms that stand in order, in every accepted room list; and in the drawing a line stands between them.
use Rattle.std.specs.Prelude.{List, ◌↔◌, ◌≡◌, ℕ, suc, ◌-◌, ◌≤◌, ◌<◌, length}
use Rattle.std.proofs.Common.{inl, inr, sym, ap, subst, ◌∙◌, arith}
use Rattle.std.proofs.Math.Decide.{dec_lt}
use Rattle.finite.specs.Decide.{le_or_lt}
use Rattle.record.specs.Labels.{label_at}
use Rattle.record.specs.Barred.{Baxter}
use Rattle.drawing.specs.declared.Room.{Room}
use Rattle.drawing.specs.Drawing.{last_before, first_later, drawing_of}
use Rattle.drawing.specs.Nearest.{last_nearest, first_nearest}
use Rattle.rooms.specs.Causes.{AcceptedRooms}
use Rattle.rooms.specs.LabelList.{label_of, position_of, label_list, room_at_position}
use Rattle.rooms.specs.Direct.{Stands}
use Rattle.rooms.specs.PlanOf.{accepted→floorplan}
use Rattle.rooms.proofs.Ranks.{room_at_position_lem}
use Rattle.rooms.specs.GridFloorplan.{length_drawing}
use Rattle.rooms.proofs.GridLabels.{baxter_gives_drawing, drawing_position}
use Rattle.rooms.proofs.LabelFacts.{label_list_by_position, left_iff_smaller_label, below_iff_larger_label}
use Rattle.slicing.specs.Cuts.{Before, InOrder, Parted}
use Rattle.slicing.specs.OfRooms.{side_of_cut, RoomsStand, DrawnStand, LineBetween}
use Rattle.slicing.specs.declared.Cut.{Cut}
use Rattle.slicing.specs.declared.Cut.TheVariants.{Vertical, Horizontal}

-- ---- an accepted room list
module _ (rooms : List Room) (accepted : AcceptedRooms rooms) (a b : ℕ) (ha : a < length rooms) (hb : b < length rooms) where
  stands_iff_in_order : (i j : ℕ) → position_of rooms a ≡ i → position_of rooms b ≡ j → i < j → (cut : Cut)
      → Stands rooms (side_of_cut cut) a b ↔ Before cut (label_at (label_list rooms) i) (label_at (label_list rooms) j)
  stands_iff_in_order i j p q earlier cut = go cut
    where
      of_a : label_at (label_list rooms) i ≡ label_of rooms a
      of_a = ap (label_at (label_list rooms)) (sym p) ∙ label_list_by_position rooms accepted a ha

      of_b : label_at (label_list rooms) j ≡ label_of rooms b
      of_b = ap (label_at (label_list rooms)) (sym q) ∙ label_list_by_position rooms accepted b hb

      go : (cut : Cut) → Stands rooms (side_of_cut cut) a b ↔ Before cut (label_at (label_list rooms) i) (label_at (label_list rooms) j)
      go Vertical =
          let iff = left_iff_smaller_label rooms accepted a b ha hb (omega arith) in
          (λ r. omega (arith, of_a, of_b, iff.0 r), λ l. iff.1 (omega (arith, of_a, of_b)))
      go Horizontal =
          let iff = below_iff_larger_label rooms accepted a b ha hb (omega arith) in
          (λ r. omega (arith, of_a, of_b, iff.0 r), λ l. iff.1 (omega (arith, of_a, of_b)))

-- the rooms at two positions
pub rooms_stand_iff_in_order : (rooms : List Room) → AcceptedRooms rooms → (cut : Cut) (m i j : ℕ) → 1 ≤ i → i < j → j ≤ length rooms
    → RoomsStand rooms cut m i j ↔ InOrder (label_at (label_list rooms)) cut m i j
rooms_stand_iff_in_order rooms accepted cut m i j a b c =
    let plan = accepted→floorplan rooms accepted in
    let (here, at) = room_at_position_lem rooms plan i a (omega arith) in
    let (there, at_other) = room_at_position_lem rooms plan j (omega arith) c in
    stands_iff_in_order rooms accepted (room_at_position rooms i) (room_at_position rooms j) here there i j at at_other b cut

-- and those of the grid drawing of a Baxter list, which stand in its list by position
pub drawn_stand_iff_in_order : (labels : List ℕ) → Baxter labels → 1 ≤ length labels → length labels ≤ 255 → (cut : Cut) (m i j : ℕ)
    → 1 ≤ i → i < j → j ≤ length labels → DrawnStand labels cut m i j ↔ InOrder (label_at labels) cut m i j
drawn_stand_iff_in_order labels baxter some few cut m i j a b c =
    let drawn = baxter_gives_drawing labels baxter some few in
    let here : i - 1 < length (drawing_of labels) = omega (arith, length_drawing labels) in
    let there : j - 1 < length (drawing_of labels) = omega (arith, length_drawing labels) in
    subst (λ (list : List ℕ). DrawnStand labels cut m i j ↔ InOrder (label_at list) cut m i j) drawn.has_labels
    (stands_iff_in_order (drawing_of labels) drawn.accepted (i - 1) (j - 1) here there i j
    (omega (arith, drawing_position labels baxter some (i - 1) here)) (omega (arith, drawing_position labels baxter some (j - 1) there))
    b cut)

-- ---- lines in the grid drawing
module _ (f : ℕ → ℕ) (n : ℕ) where
  -- what looks for a property looks no further than a position that has it
  ends : (P : ℕ → Type 0) (d : (k : ℕ) → Dec (P k)) (i m : ℕ) → 1 ≤ i → i < m → m ≤ n → P m → first_later P d i n ≤ m - 1
  ends P d i m a b c p = elim (le_or_lt (first_later P d i n) (m - 1)) [
    | inl h ↦ h
    | inr h ↦ absurd ((first_nearest P d n i a (omega arith)).clear m b (omega arith) p)
  ]

  starts : (P : ℕ → Type 0) (d : (k : ℕ) → Dec (P k)) (j m : ℕ) → 1 ≤ m → m < j → j ≤ n → P m → m ≤ last_before P d j
  starts P d j m a b c p = elim (le_or_lt m (last_before P d j)) [
    | inl h ↦ h
    | inr h ↦ absurd ((last_nearest P d n j (omega arith) c).clear m b h p)
  ]

  -- the room at i is before the line and has the room at m after it, and the room at j is after it and has the room at m - 1 before it
  pub line_between_rooms : (cut : Cut) (s m e : ℕ) → 1 ≤ s → s < m → m ≤ e → e ≤ suc n → Parted (InOrder f) cut s m e
      → Parted (LineBetween f n) cut s m e
  line_between_rooms Vertical s m e a b c d parted i g h j k l = (
    ends (λ x. f i < f x) (λ x. dec_lt (f i) (f x)) i m (omega arith) h (omega arith) (parted i g h m (omega arith) (omega arith)),
    starts (λ x. f x < f j) (λ x. dec_lt (f x) (f j)) j (m - 1) (omega arith) (omega arith) (omega arith)
        (parted (m - 1) (omega arith) (omega arith) j k l),
  )
  line_between_rooms Horizontal s m e a b c d parted i g h j k l = (
    ends (λ x. f x < f i) (λ x. dec_lt (f x) (f i)) i m (omega arith) h (omega arith) (parted i g h m (omega arith) (omega arith)),
    starts (λ x. f j < f x) (λ x. dec_lt (f j) (f x)) j (m - 1) (omega arith) (omega arith) (omega arith)
        (parted (m - 1) (omega arith) (omega arith) j k l),
  )

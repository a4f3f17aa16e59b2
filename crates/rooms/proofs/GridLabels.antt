-- The label list of the grid drawing of a Baxter list is that list (000, Theorem 1): each room stands at its own position and has
-- its own label.
use Rattle.std.specs.Prelude.{◌≡◌, ◌≢◌, List, ℕ, zero, suc, ◌-◌, ◌≤◌, ◌<◌, length}
use Rattle.std.proofs.Common.{sym, ap, ◌∙◌, arith, ext_get_or}
use Rattle.finite.specs.Count.{rising_is_same}
use Rattle.record.specs.Labels.{label_at}
use Rattle.record.specs.Barred.{Baxter}
use Rattle.record.proofs.Rising.{rising_is_label}
use Rattle.drawing.specs.declared.Room.{Room}
use Rattle.drawing.specs.Drawing.{drawing_of}
use Rattle.rooms.specs.Outline.{SixteenBits}
use Rattle.rooms.specs.Causes.{AcceptedRooms}
use Rattle.rooms.specs.LabelList.{label_of, position_of, label_list}
use Rattle.rooms.specs.Plan.{Plan, Floorplan}
use Rattle.rooms.specs.PlanOf.{plan_of}
use Rattle.rooms.specs.Orders.{LeftOf, BelowOf}
use Rattle.rooms.specs.TwoOrders.{Related, along, along_back, across, across_back}
use Rattle.rooms.proofs.Steps.{left_of→left, below_of→below}
use Rattle.rooms.proofs.RoomOrders.{position_orders}
use Rattle.rooms.proofs.Ranks.{positions_1_to_n, labels_1_to_n, left→earlier, below→earlier, length_label_list, label_by_position}
use Rattle.rooms.specs.GridFloorplan.{length_drawing, drawing_floorplan, drawing_accepted, drawing_fits_16_bits}
use Rattle.rooms.specs.GridRelations.{left→earlier_and_smaller, below→earlier_and_larger}

module _ (labels : List ℕ) (baxter : Baxter labels) (some : 1 ≤ length labels) where
  abbrev f : ℕ → ℕ
  f = label_at labels

  abbrev rooms : List Room
  rooms = drawing_of labels

  abbrev plan : Plan
  plan = plan_of rooms

  k : Floorplan plan
  k = drawing_floorplan labels baxter.each_once some

  -- the relation of two rooms, as the list has it
  related : (a b : ℕ) → a < length rooms → b < length rooms → a ≢ b → Related (LeftOf rooms) (BelowOf rooms) a b
  related = (position_orders rooms k).related

  left : {a b : ℕ} → LeftOf rooms a b → (a < b) × (f (suc a) < f (suc b))
  left r = left→earlier_and_smaller labels baxter (left_of→left rooms r)

  below : {a b : ℕ} → BelowOf rooms a b → (a < b) × (f (suc b) < f (suc a))
  below r = below→earlier_and_larger labels baxter (below_of→below rooms r)

  -- positions rise with the places in the list, so they are the places
  pub drawing_position : (a : ℕ) → a < length rooms → position_of (drawing_of labels) a ≡ suc a
  drawing_position a h = omega (arith, range a h, rising_is_same (length rooms) (λ a. position_of rooms a - 1) (λ a h. omega (arith, range a h)) rises a h)
    where
      range : (a : ℕ) → a < length rooms → (1 ≤ position_of rooms a) × (position_of rooms a ≤ length rooms)
      range = (positions_1_to_n rooms k).range

      rises : (a : ℕ) → suc a < length rooms → position_of rooms a - 1 < position_of rooms (suc a) - 1
      rises a h = elim (related a (suc a) (omega arith) h (omega arith)) [
        | along r ↦ omega (arith, range a (omega arith), left→earlier rooms k r)
        | along_back r ↦ absurd (omega (arith, left r))
        | across r ↦ omega (arith, range a (omega arith), below→earlier rooms k r)
        | across_back r ↦ absurd (omega (arith, below r))
      ]

  -- labels rise with the labels of the list
  pub drawing_label : (a : ℕ) → a < length rooms → label_of (drawing_of labels) a ≡ label_at labels (suc a)
  drawing_label a h =
      rising_is_label f (length labels) baxter.each_once at range rises (suc a) (omega arith) (omega (arith, length_drawing labels))
    where
      at : ℕ → ℕ
      at zero = 0
      at (suc a) = label_of rooms a

      range : (i : ℕ) → 1 ≤ i → i ≤ length labels → (1 ≤ at i) × (at i ≤ length labels)
      range zero l h = absurd (omega arith)
      range (suc a) l h = omega (arith, length_drawing labels, (labels_1_to_n rooms k).range a (omega (arith, length_drawing labels)))

      rises : (i j : ℕ) → 1 ≤ i → i ≤ length labels → 1 ≤ j → j ≤ length labels → f j ≡ suc (f i) → at i < at j
      rises zero j l h m g e = absurd (omega arith)
      rises (suc a) zero l h m g e = absurd (omega arith)
      rises (suc a) (suc b) l h m g e =
          elim (related a b (omega (arith, length_drawing labels)) (omega (arith, length_drawing labels))
          (λ q. omega (arith, ap (λ (c : ℕ). f (suc c)) q))) [
            | along r ↦ (left→earlier rooms k r).1
            | along_back r ↦ absurd (omega (arith, left r))
            | across r ↦ absurd (omega (arith, below r))
            | across_back r ↦ (below→earlier rooms k r).1
          ]

  pub drawing_has_labels : label_list (drawing_of labels) ≡ labels
  drawing_has_labels = ext_get_or 0 (label_list rooms) labels (length_label_list rooms k ∙ length_drawing labels) (λ i h.
      let a : i < length rooms = omega (arith, length_label_list rooms k) in
      ap (label_at (label_list rooms)) (sym (drawing_position i a)) ∙ label_by_position rooms k i a ∙ drawing_label i a)

-- the grid drawing of a Baxter list of 1 to 255 labels: an accepted room list of 16-bit numbers, whose label list is that list
-- (000, Theorem 1)
pub record DrawnAs (labels : List ℕ) (rooms : List Room) : Type 0 where
  pub accepted : AcceptedRooms rooms
  pub sixteen_bits : SixteenBits rooms
  pub has_labels : label_list rooms ≡ labels

pub baxter_gives_drawing : (labels : List ℕ) → Baxter labels → 1 ≤ length labels → length labels ≤ 255 → DrawnAs labels (drawing_of labels)
baxter_gives_drawing labels baxter some few = record {
  accepted = drawing_accepted labels baxter.each_once some few;
  sixteen_bits = drawing_fits_16_bits labels baxter.each_once some few;
  has_labels = drawing_has_labels labels baxter some;
}

-- M-106, names on rooms: "The record holds no names, equivalence ignores them". Covers, segments, orders, equivalence, labels, positions
-- and the record are the same for two lists that differ in names alone; and an accepted list's nonzero names are different.
use Rattle.std.specs.Prelude.{◌≡◌, ◌≢◌, ◌↔◌, ℕ, ◌<◌, length}
use Rattle.std.proofs.Math.Path.{sym}
use Rattle.std.proofs.Common.{subst, zero-le, arith}
use mathlib.Core.List.{List}
use Rattle.drawing.specs.declared.Room.{Room}
use Rattle.drawing.specs.declared.Side as relation
use Rattle.rooms.specs.Outline.{Covers, room_in}
use Rattle.rooms.specs.Causes.{AcceptedRooms}
use Rattle.rooms.specs.Segment.{Stretch, Segment}
use Rattle.rooms.specs.Direct.{Stands}
use Rattle.rooms.specs.LabelList.{label_of, position_of, record_of_rooms}
use Rattle.rooms.specs.Equivalent.{Equivalent}
use Rattle.rooms.specs.Chain.{chain_map}
use Rattle.rooms.specs.PlanOf.{accepted→floorplan}
use Rattle.rooms.specs.SameButNames.{SameButNames, same_but_names_sym, same_segment}
use Rattle.rooms.proofs.Equivalence.{equivalent_trans}
use Rattle.rooms.proofs.SameLabels.{equivalent→keeps_one_segment, equivalent→same_position, equivalent→same_label}
unfoldable pub use Rattle.rooms.proofs.NamesAlone.{m106_names_alone_equivalent}
use Rattle.rooms.proofs.Demand3.{demand3_same_record_iff_equivalent}

-- ---- two lists that differ in names alone; NamesAlone shows them equivalent
module _ (rooms others : List Room) (same : SameButNames rooms others) where
  -- the same squares are covered
  pub m106_covers : (i x y : ℕ) → i < length rooms → Covers (room_in rooms i) x y ↔ Covers (room_in others i) x y
  m106_covers i x y h = (to same h, to (same_but_names_sym same) (subst (λ (n : ℕ). i < n) same.count h))
    where
      to : {rooms others : List Room} → SameButNames rooms others → i < length rooms
          → Covers (room_in rooms i) x y → Covers (room_in others i) x y
      to same h covers = let c = same.corners i zero-le h in omega arith

  -- the same stretches are segments
  pub m106_segments : (s : Stretch) → Segment rooms s ↔ Segment others s
  m106_segments s = (same_segment same s, same_segment (same_but_names_sym same) s)

  -- rooms stand on the same sides of each other, directly or not
  pub m106_orders : (side : relation.Side) (a b : ℕ) → Stands rooms side a b ↔ Stands others side a b
  unfolding m106_names_alone_equivalent
  m106_orders side a b = (to same, to (same_but_names_sym same))
    where
      to : {rooms others : List Room} → SameButNames rooms others → Stands rooms side a b → Stands others side a b
      to {rooms} {others} same r =
          chain_map (λ i. i) (equivalent→keeps_one_segment rooms others (m106_names_alone_equivalent rooms others same) _ _) r

  -- where both are accepted each room has the same label and the same position in both, and both have the same record
  module _ (accepted : AcceptedRooms rooms) (accepted-others : AcceptedRooms others) where
    abbrev alike : Equivalent rooms others
    alike = m106_names_alone_equivalent rooms others same

    pub m106_same_label : (i : ℕ) → i < length rooms → label_of rooms i ≡ label_of others i
    unfolding m106_names_alone_equivalent
    m106_same_label i h =
        sym (equivalent→same_label rooms others (accepted→floorplan rooms accepted) (accepted→floorplan others accepted-others) alike i h)

    pub m106_same_position : (i : ℕ) → i < length rooms → position_of rooms i ≡ position_of others i
    unfolding m106_names_alone_equivalent
    m106_same_position i h =
        sym (equivalent→same_position rooms others
        (accepted→floorplan rooms accepted) (accepted→floorplan others accepted-others) alike i h)

    pub m106_same_record : record_of_rooms rooms ≡ record_of_rooms others
    m106_same_record = (demand3_same_record_iff_equivalent rooms others accepted accepted-others).1 alike

-- equivalence ignores names: whatever names the rooms of two equivalent lists are given, the lists are equivalent
pub m106_equivalence_ignores_names : (rooms others renamed others-renamed : List Room)
    → SameButNames rooms renamed → SameButNames others others-renamed
    → Equivalent rooms others ↔ Equivalent renamed others-renamed
m106_equivalence_ignores_names rooms others renamed others-renamed same same-others = (
  to same same-others,
  to (same_but_names_sym same) (same_but_names_sym same-others),
)
  where
    to : {rooms others renamed others-renamed : List Room} → SameButNames rooms renamed → SameButNames others others-renamed
        → Equivalent rooms others → Equivalent renamed others-renamed
    to same same-others alike =
        equivalent_trans (m106_names_alone_equivalent _ _ (same_but_names_sym same))
        (equivalent_trans alike (m106_names_alone_equivalent _ _ same-others))

-- ---- an accepted list's nonzero names are different
pub m106_names_differ : (rooms : List Room) → AcceptedRooms rooms → (i j : ℕ) → i < length rooms → j < length rooms → i ≢ j
    → (room_in rooms i).name ≢ 0 → (room_in rooms i).name ≢ (room_in rooms j).name
m106_names_differ rooms accepted i j hi hj differ named e = accepted.names (i, zero-le, hi, (j, zero-le, hj, (differ, named, e)))

-- Labels and positions of an accepted room list: both are 1 to n, each once; and "for positions i < j, room i is left of j if its
-- label is smaller, else below j" (000, Observation 3.4).
use Rattle.std.specs.Prelude.{◌≡◌, ◌↔◌, List, ℕ, ◌<◌, length}
use Rattle.record.specs.Labels.{label_at}
use Rattle.drawing.specs.declared.Room.{Room}
use Rattle.rooms.specs.Causes.{AcceptedRooms}
use Rattle.rooms.specs.Orders.{LeftOf, BelowOf}
use Rattle.rooms.specs.LabelList.{label_of, position_of, label_list}
use Rattle.rooms.specs.Plan.{Floorplan}
use Rattle.rooms.specs.PlanOf.{plan_of, accepted→floorplan}
use Rattle.rooms.specs.Ranks.{OneToN}
use Rattle.rooms.proofs.Ranks.{positions_1_to_n, labels_1_to_n, left→earlier, below→earlier, smaller→left, larger→below, label_by_position}

module _ (rooms : List Room) (accepted : AcceptedRooms rooms) where
  k : Floorplan (plan_of rooms)
  k = accepted→floorplan rooms accepted

  -- the labels of the rooms are 1 to n, once each
  pub labels_are_1_to_n : OneToN (label_of rooms) (length rooms)
  labels_are_1_to_n = labels_1_to_n rooms k

  -- and so are their positions
  pub positions_are_1_to_n : OneToN (position_of rooms) (length rooms)
  positions_are_1_to_n = positions_1_to_n rooms k

  -- "The label list gives the labels by position"
  pub label_list_by_position : (i : ℕ) → i < length rooms → label_at (label_list rooms) (position_of rooms i) ≡ label_of rooms i
  label_list_by_position = label_by_position rooms k

  module _ (a b : ℕ) (ha : a < length rooms) (hb : b < length rooms) (earlier : position_of rooms a < position_of rooms b) where
    -- the room at the earlier position is left of the other one exactly if its label is smaller
    pub left_iff_smaller_label : LeftOf rooms a b ↔ (label_of rooms a < label_of rooms b)
    left_iff_smaller_label = (λ r. (left→earlier rooms k r).1, smaller→left rooms k a b ha hb earlier)

    -- and below it exactly if its label is larger
    pub below_iff_larger_label : BelowOf rooms a b ↔ (label_of rooms b < label_of rooms a)
    below_iff_larger_label = (λ r. (below→earlier rooms k r).1, larger→below rooms k a b ha hb earlier)

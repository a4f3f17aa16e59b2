-- The relations of a room list as two orders: left and below, by which positions count, and left and above, by which labels count.
use Rattle.std.specs.Prelude.{List, ℕ, ◌<◌, length}
use Rattle.drawing.specs.declared.Room.{Room}
use Rattle.rooms.specs.Segment.{Side}
use Rattle.rooms.specs.Orders.{OneSegment, Chain, one, step, LeftOf, BelowOf, AboveOf}
use Rattle.rooms.specs.Chain.{chain_trans}
use Rattle.rooms.specs.DecideSegment.{dec_left, dec_below, dec_above}
use Rattle.rooms.specs.Plan.{Floorplan, swap, swap_floorplan, Left, Below}
use Rattle.rooms.specs.PlanOf.{plan_of}
use Rattle.rooms.specs.Staircase.{not_left_and_below}
use Rattle.rooms.specs.UpsideDown.{not_left_and_above}
use Rattle.rooms.specs.TwoOrders.{Related, along, along_back, across, across_back, TwoOrders, turned}
use Rattle.rooms.specs.FourRelations.{related, left_asym}
use Rattle.rooms.proofs.Steps.{left_of→left, left→left_of, below_of→below, below→below_of, above_of→below_of, below_of→above_of}

pub chain_in_list : {rooms : List Room} {of_a of_b : Side} {a b : ℕ} → Chain (OneSegment rooms of_a of_b) a b
    → (a < length rooms) × (b < length rooms)
chain_in_list (one d) = (d.a<, d.b<)
chain_in_list (step r d) = ((chain_in_list r).0, d.b<)

module _ (rooms : List Room) (k : Floorplan (plan_of rooms)) where
  pub in_list : {a b : ℕ} → Related (Left (plan_of rooms)) (Below (plan_of rooms)) a b → Related (LeftOf rooms) (BelowOf rooms) a b
  in_list (along r) = along (left→left_of rooms k r)
  in_list (along_back r) = along_back (left→left_of rooms k r)
  in_list (across r) = across (below→below_of rooms k r)
  in_list (across_back r) = across_back (below→below_of rooms k r)

  unfoldable pub position_orders : TwoOrders (length rooms) (LeftOf rooms) (BelowOf rooms)
  position_orders = record {
    dec_along = dec_left rooms;
    dec_across = dec_below rooms;
    along< = chain_in_list;
    across< = chain_in_list;
    along_trans = chain_trans;
    across_trans = chain_trans;
    along_asym = λ r q. left_asym (plan_of rooms) k (left_of→left rooms r) (left_of→left rooms q);
    across_asym = λ r q. left_asym (swap (plan_of rooms)) (swap_floorplan k) (below_of→below rooms r) (below_of→below rooms q);
    not_both = λ {a} r q. not_left_and_below (plan_of rooms) k a (chain_in_list r).0 (left_of→left rooms r) (below_of→below rooms q);
    not_both_ways = λ r q. not_left_and_above (plan_of rooms) k (left_of→left rooms r) (below_of→below rooms q);
    related = λ a b ha hb ne. in_list (related (plan_of rooms) k a b ha hb ne);
  }

  unfoldable pub label_orders : TwoOrders (length rooms) (LeftOf rooms) (AboveOf rooms)
  unfolding position_orders
  label_orders = turned (dec_above rooms) (λ a b r. below_of→above_of rooms r) (λ a b r. above_of→below_of rooms r) position_orders

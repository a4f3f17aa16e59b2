-- The relations of an accepted room list. "For two different rooms exactly one of left, right, above, below holds (000, Observation
-- 3.3)." A room is directly left of another exactly if it is left of it with no room between, so the order alone tells the direct
-- steps.
use Rattle.std.specs.Prelude.{◌≡◌, refl, ◌≢◌, ◌↔◌, List, ℕ, ◌<◌, length}
use Rattle.drawing.specs.declared.Room.{Room}
use Rattle.drawing.specs.declared.Side.{Side}
use Rattle.drawing.specs.declared.Side.TheVariants.{Left, Right, Above, Below}
use Rattle.rooms.specs.Causes.{AcceptedRooms}
use Rattle.rooms.specs.Orders.{DirectlyLeft, DirectlyBelow, one, LeftOf, RightOf, BelowOf, AboveOf}
use Rattle.rooms.specs.Direct.{Stands}
use Rattle.rooms.specs.Plan.{Floorplan, swap_floorplan, left_step→none_between, none_between→left_step}
use Rattle.rooms.specs.PlanOf.{plan_of, accepted→floorplan}
use Rattle.rooms.specs.TwoOrders.{Related, along, along_back, across, across_back, TwoOrders}
use Rattle.rooms.proofs.RoomOrders.{position_orders}
use Rattle.rooms.proofs.Steps.{directly_left→step, directly_below→step, step→directly_left, step→directly_below, left_of→left, left→left_of, below_of→below, below→below_of, right_of→left_of, left_of→right_of, above_of→below_of, below_of→above_of}

pub record OnlySide (rooms : List Room) (a b : ℕ) : Type 0 where
  pub side : Side
  pub stands : Stands rooms side a b
  pub only : (other : Side) → Stands rooms other a b → other ≡ side

module _ (rooms : List Room) (accepted : AcceptedRooms rooms) where
  k : Floorplan (plan_of rooms)
  k = accepted→floorplan rooms accepted

  -- "exactly one of left, right, above, below holds"
  pub exactly_one_relation : (a b : ℕ) → a < length rooms → b < length rooms → a ≢ b → OnlySide rooms a b
  exactly_one_relation a b ha hb ne = go (orders.related a b ha hb ne)
    where
      orders : TwoOrders (length rooms) (LeftOf rooms) (BelowOf rooms)
      orders = position_orders rooms k

      right : RightOf rooms a b → LeftOf rooms b a
      right = right_of→left_of rooms

      above : AboveOf rooms a b → BelowOf rooms b a
      above = above_of→below_of rooms

      go : Related (LeftOf rooms) (BelowOf rooms) a b → OnlySide rooms a b
      go (along r) = record { side = Left; stands = r; only = only }
        where
          only : (other : Side) → Stands rooms other a b → other ≡ Left
          only Left s = refl
          only Right s = absurd (orders.along_asym r (right s))
          only Above s = absurd (orders.not_both_ways r (above s))
          only Below s = absurd (orders.not_both r s)
      go (along_back r) = record { side = Right; stands = left_of→right_of rooms r; only = only }
        where
          only : (other : Side) → Stands rooms other a b → other ≡ Right
          only Left s = absurd (orders.along_asym r s)
          only Right s = refl
          only Above s = absurd (orders.not_both r (above s))
          only Below s = absurd (orders.not_both_ways r s)
      go (across r) = record { side = Below; stands = r; only = only }
        where
          only : (other : Side) → Stands rooms other a b → other ≡ Below
          only Left s = absurd (orders.not_both s r)
          only Right s = absurd (orders.not_both_ways (right s) r)
          only Above s = absurd (orders.across_asym r (above s))
          only Below s = refl
      go (across_back r) = record { side = Above; stands = below_of→above_of rooms r; only = only }
        where
          only : (other : Side) → Stands rooms other a b → other ≡ Above
          only Left s = absurd (orders.not_both_ways s r)
          only Right s = absurd (orders.not_both (right s) r)
          only Above s = refl
          only Below s = absurd (orders.across_asym r s)

  -- directly left exactly if left with no room between
  pub directly_left_iff_none_between : (a b : ℕ) → DirectlyLeft rooms a b ↔ (LeftOf rooms a b × ((c : ℕ) → LeftOf rooms a c
      → ¬ LeftOf rooms c b))
  directly_left_iff_none_between a b = (
    λ d. (one d, λ c r q. left_step→none_between k (directly_left→step rooms a b d) c (left_of→left rooms r) (left_of→left rooms q)),
    λ (r, none). step→directly_left rooms k a b (none_between→left_step (left_of→left rooms r) (λ c u v. none c (left→left_of rooms k u) (left→left_of rooms k v))),
  )

  -- directly below exactly if below with no room between
  pub directly_below_iff_none_between : (a b : ℕ) → DirectlyBelow rooms a b ↔ (BelowOf rooms a b × ((c : ℕ) → BelowOf rooms a c
      → ¬ BelowOf rooms c b))
  directly_below_iff_none_between a b = (
    λ d. (one d, λ c r q. left_step→none_between (swap_floorplan k) (directly_below→step rooms a b d) c (below_of→below rooms r) (below_of→below rooms q)),
    λ (r, none). step→directly_below rooms k a b (none_between→left_step (below_of→below rooms r) (λ c u v. none c (below→below_of rooms k u) (below→below_of rooms k v))),
  )

-- Positions and labels of a room list in the form in which the code finds them: the first room has its corner at a given point and the
-- rank 1, and the room that follows has the rank one more.
use Rattle.std.specs.Prelude.{◌≡◌, ◌⊎◌, List, ℕ, suc, ◌+◌, ◌<◌, length}
use Rattle.std.proofs.Common.{inl, inr, arith}
use Rattle.finite.specs.Count.{Strict, rank}
use Rattle.drawing.specs.declared.Room.{Room}
use Rattle.rooms.specs.Orders.{LeftOf, BelowOf, AboveOf}
use Rattle.rooms.specs.LabelList.{label_of, position_of}
use Rattle.rooms.specs.Plan.{Floorplan}
use Rattle.rooms.specs.PlanOf.{plan_of}
use Rattle.rooms.proofs.Steps.{left_of→left, left→left_of, below_of→below, below→below_of, above_of→below_of, below_of→above_of}
use Rattle.rooms.specs.TwoOrders.{strict}
use Rattle.rooms.proofs.RoomOrders.{position_orders, label_orders}
use Rattle.rooms.specs.Ranks.{OneToN}
use Rattle.rooms.proofs.Ranks.{position_is_rank, label_is_rank, positions_1_to_n, labels_1_to_n}
use Rattle.orders.specs.Starts.{Starts}
use Rattle.orders.specs.AlongLine.{StartsAtCorner, Follows, follows→room}
use Rattle.orders.specs.Successor.{first→rank_0, last→rank_most, next→rank_one_more}
use Rattle.orders.specs.PlanOrders.{Ordered, ordered_map, position_order, label_order, LeftOrBelow, LeftOrAbove}

-- ranks 1 to n, of which the first room has 1 and the room that follows has one more; and one follows unless the rank is n
pub record Ranked (n : ℕ) (left bottom right top : ℕ → ℕ) (x y : ℕ) (ranks : ℕ → ℕ) : Type 0 where
  pub one_to_n : OneToN ranks n
  pub some_first : 0 < n → Starts n left bottom x y
  pub first : (a : ℕ) → a < n → left a ≡ x → bottom a ≡ y → ranks a ≡ 1
  pub next : (b c : ℕ) → b < n → Follows n left bottom right top b c → ranks c ≡ suc (ranks b)
  pub starts : (b : ℕ) → b < n → ranks b < n → StartsAtCorner n left bottom right top b

ordered→ranked : {n : ℕ} {left bottom right top : ℕ → ℕ} {x y : ℕ} {R : ℕ → ℕ → Type 0} (s : Strict n R) (ranks : ℕ → ℕ)
    → ((a : ℕ) → ranks a ≡ 1 + rank s a) → OneToN ranks n
    → Ordered n left bottom right top x y R → Ranked n left bottom right top x y ranks
ordered→ranked s ranks is one_to_n o = record {
  one_to_n = one_to_n;
  some_first = o.some_first;
  first = λ a ha e f. omega (arith, is a, first→rank_0 s a ha (o.first a ha e f));
  next = λ b c hb f. omega (arith, is b, is c, next→rank_one_more s b c hb (follows→room f) (o.next b c hb f));
  starts = λ b hb less. elim (o.starts_or_last b hb) [ inl t ↦ t | inr none ↦ absurd (omega (arith, is b, last→rank_most s b hb none)) ];
}

-- ---- of a room list
module _ (rooms : List Room) (k : Floorplan (plan_of rooms)) where
  to_position : (a b : ℕ) → LeftOrBelow (plan_of rooms) a b → LeftOf rooms a b ⊎ BelowOf rooms a b
  to_position a b (inl r) = inl (left→left_of rooms k r)
  to_position a b (inr r) = inr (below→below_of rooms k r)

  from_position : (a b : ℕ) → LeftOf rooms a b ⊎ BelowOf rooms a b → LeftOrBelow (plan_of rooms) a b
  from_position a b (inl r) = inl (left_of→left rooms r)
  from_position a b (inr r) = inr (below_of→below rooms r)

  to_label : (a b : ℕ) → LeftOrAbove (plan_of rooms) a b → LeftOf rooms a b ⊎ AboveOf rooms a b
  to_label a b (inl r) = inl (left→left_of rooms k r)
  to_label a b (inr r) = inr (below_of→above_of rooms (below→below_of rooms k r))

  from_label : (a b : ℕ) → LeftOf rooms a b ⊎ AboveOf rooms a b → LeftOrAbove (plan_of rooms) a b
  from_label a b (inl r) = inl (left_of→left rooms r)
  from_label a b (inr r) = inr (below_of→below rooms (above_of→below_of rooms r))

  pub positions_ranked : let p =
      plan_of rooms in Ranked (length rooms) p.left p.bottom p.right p.top p.west p.south (position_of rooms)
  positions_ranked = ordered→ranked (strict (position_orders rooms k)) (position_of rooms) (position_is_rank rooms k)
      (positions_1_to_n rooms k) (ordered_map to_position from_position (position_order (plan_of rooms) k))

  pub labels_ranked : let p =
      plan_of rooms in Ranked (length rooms) p.left p.top p.right p.bottom p.west p.north (label_of rooms)
  labels_ranked = ordered→ranked (strict (label_orders rooms k)) (label_of rooms) (label_is_rank rooms k) (labels_1_to_n rooms k)
      (ordered_map to_label from_label (label_order (plan_of rooms) k))

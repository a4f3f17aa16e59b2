-- Labels and positions are 1 plus ranks in the two orders, so both are 1 to n, each once, and together they tell left and below.
-- The labels by position have none of the patterns 3-14-2 and 2-41-3.
use Rattle.std.specs.Prelude.{◌≡◌, ◌≢◌, List, ℕ, suc, ◌+◌, ◌-◌, ◌≤◌, ◌<◌, length}
use Rattle.std.proofs.Math.Path.{refl}
use Rattle.std.proofs.Common.{sym, ap, ◌∙◌, inl, inr, arith}
use Rattle.std.proofs.Math.Decide.{ℕ_discrete}
use Rattle.finite.specs.Search.{dec_some}
use Rattle.finite.specs.Count.{Strict, rank, rank_lt, rank_below, rank_injective, rank_onto}
use Rattle.finite.specs.Table.{length_table, get_d_table}
use Rattle.record.specs.Labels.{label_at}
use Rattle.drawing.specs.declared.Room.{Room}
use Rattle.rooms.specs.Orders.{LeftOf, BelowOf}
use Rattle.rooms.specs.LabelList.{label_of, position_of, room_at_position, label_list}
use Rattle.rooms.specs.Pick.{pick_has}
use Rattle.rooms.specs.Plan.{Floorplan, swap, swap_floorplan, none_between→left_step}
use Rattle.rooms.specs.PlanOf.{plan_of}
use Rattle.rooms.specs.LeftThrough.{left_through}
use Rattle.rooms.specs.TwoOrders.{along, along_back, across, across_back, strict}
use Rattle.rooms.proofs.RoomOrders.{chain_in_list, position_orders, label_orders}
use Rattle.rooms.proofs.Steps.{left_of→left, left→left_of, below_of→below, below→below_of, below_of→above_of}
use Rattle.rooms.specs.Ranks.{OneToN}

ranks_are_1_to_n : {n : ℕ} {R : ℕ → ℕ → Type 0} (s : Strict n R) → OneToN (λ a. 1 + rank s a) n
ranks_are_1_to_n s = record {
  range = λ i h. omega (arith, rank_below s i h);
  once = λ i j hi hj e. rank_injective s i j hi hj (omega arith);
  each = λ v lo hi. let (i, l, h, e) = rank_onto s (v - 1) (omega arith) in (i, l, h, omega arith);
}

module _ (rooms : List Room) (k : Floorplan (plan_of rooms)) where
  pub position_is_rank : (a : ℕ) → position_of rooms a ≡ 1 + rank (strict (position_orders rooms k)) a
  unfolding position_of rank strict position_orders
  position_is_rank a = refl

  pub label_is_rank : (a : ℕ) → label_of rooms a ≡ 1 + rank (strict (label_orders rooms k)) a
  unfolding label_of rank strict label_orders
  label_is_rank a = refl

  pub positions_1_to_n : OneToN (position_of rooms) (length rooms)
  unfolding position_of rank strict position_orders
  positions_1_to_n = ranks_are_1_to_n (strict (position_orders rooms k))

  pub labels_1_to_n : OneToN (label_of rooms) (length rooms)
  unfolding label_of rank strict label_orders
  labels_1_to_n = ranks_are_1_to_n (strict (label_orders rooms k))

  pub left→earlier : {a b : ℕ} → LeftOf rooms a b → (position_of rooms a < position_of rooms b) × (label_of rooms a < label_of rooms b)
  left→earlier {a} {b} r =
      let ha = (chain_in_list r).0 in
      omega (arith, position_is_rank a, position_is_rank b, label_is_rank a, label_is_rank b, rank_lt (strict (position_orders rooms k)) a b ha (inl r), rank_lt (strict (label_orders rooms k)) a b ha (inl r))

  pub below→earlier : {a b : ℕ} → BelowOf rooms a b → (position_of rooms a < position_of rooms b) × (label_of rooms b < label_of rooms a)
  below→earlier {a} {b} r =
      let (ha, hb) = chain_in_list r in
      omega (arith, position_is_rank a, position_is_rank b, label_is_rank a, label_is_rank b, rank_lt (strict (position_orders rooms k)) a b ha (inr r), rank_lt (strict (label_orders rooms k)) b a hb (inr (below_of→above_of rooms r)))

  module _ (a b : ℕ) (ha : a < length rooms) (hb : b < length rooms) (earlier : position_of rooms a < position_of rooms b) where
    differ : a ≢ b
    differ e = omega (arith, ap (position_of rooms) e)

    pub smaller→left : label_of rooms a < label_of rooms b → LeftOf rooms a b
    smaller→left smaller = elim ((position_orders rooms k).related a b ha hb differ) [
      | along r ↦ r
      | along_back r ↦ absurd (omega (arith, left→earlier r))
      | across r ↦ absurd (omega (arith, below→earlier r))
      | across_back r ↦ absurd (omega (arith, below→earlier r))
    ]

    pub larger→below : label_of rooms b < label_of rooms a → BelowOf rooms a b
    larger→below larger = elim ((position_orders rooms k).related a b ha hb differ) [
      | along r ↦ absurd (omega (arith, left→earlier r))
      | along_back r ↦ absurd (omega (arith, left→earlier r))
      | across r ↦ r
      | across_back r ↦ absurd (omega (arith, below→earlier r))
    ]

  -- ---- the room at a position, and the label list
  pub room_at_position_lem : (p : ℕ) → 1 ≤ p → p ≤ length rooms
      → (room_at_position rooms p < length rooms) × (position_of rooms (room_at_position rooms p) ≡ p)
  unfolding room_at_position
  room_at_position_lem p lo hi = pick_has (dec_some (λ i. position_of rooms i ≡ p) (λ i. ℕ_discrete (position_of rooms i) p) 0 (length rooms)) (positions_1_to_n.each p lo hi)

  pub room_of_its_position : (a : ℕ) → a < length rooms → room_at_position rooms (position_of rooms a) ≡ a
  room_of_its_position a h =
      let (lo, hi) = positions_1_to_n.range a h in
      let (there, at) = room_at_position_lem (position_of rooms a) lo hi in
      positions_1_to_n.once (room_at_position rooms (position_of rooms a)) a there h at

  pub length_label_list : length (label_list rooms) ≡ length rooms
  unfolding label_list
  length_label_list = length_table (λ i. label_of rooms (room_at_position rooms (suc i))) (length rooms)

  pub label_list_at : (i : ℕ) → i < length rooms → label_at (label_list rooms) (suc i) ≡ label_of rooms (room_at_position rooms (suc i))
  unfolding label_list
  label_list_at i h = get_d_table (λ i. label_of rooms (room_at_position rooms (suc i))) (length rooms) i 0 h

  -- "The label list gives the labels by position"
  pub label_by_position : (a : ℕ) → a < length rooms → label_at (label_list rooms) (position_of rooms a) ≡ label_of rooms a
  label_by_position a h =
      let (lo, hi) = positions_1_to_n.range a h in
      let e : position_of rooms a ≡ suc (position_of rooms a - 1) = omega arith in
      ap (label_at (label_list rooms)) e ∙ label_list_at (position_of rooms a - 1) (omega arith) ∙ ap (λ (p : ℕ). label_of rooms (room_at_position rooms p)) (sym e) ∙ ap (label_of rooms) (room_of_its_position a h)

  -- ---- patterns: of the rooms a, c, d, b in the order of their positions, where d comes next after c
  module _ (a c d b : ℕ) (ha : a < length rooms) (hc : c < length rooms) (hd : d < length rooms) (hb : b < length rooms)
      (a<c : position_of rooms a < position_of rooms c) (next : position_of rooms d ≡ suc (position_of rooms c)) (d<b : position_of rooms d < position_of rooms b) where
    pub no_3142 : label_of rooms c < label_of rooms b → label_of rooms b < label_of rooms a → label_of rooms a < label_of rooms d → ⊥
    no_3142 u v w =
        let c-d = none_between→left_step (left_of→left rooms (smaller→left c d hc hd (omega arith) (omega arith)))
        (λ m r q. omega (arith, left→earlier (left→left_of rooms k r), left→earlier (left→left_of rooms k q))) in
        let a-b = left_through (plan_of rooms) k (left_of→left rooms (smaller→left a d ha hd (omega arith) (omega arith))) c-d (left_of→left rooms (smaller→left c b hc hb (omega arith) (omega arith))) in
        omega (arith, left→earlier (left→left_of rooms k a-b))

    pub no_2413 : label_of rooms d < label_of rooms a → label_of rooms a < label_of rooms b → label_of rooms b < label_of rooms c → ⊥
    no_2413 u v w =
        let c-d = none_between→left_step (below_of→below rooms (larger→below c d hc hd (omega arith) (omega arith)))
        (λ m r q. omega (arith, below→earlier (below→below_of rooms k r), below→earlier (below→below_of rooms k q))) in
        let a-b = left_through (swap (plan_of rooms)) (swap_floorplan k) (below_of→below rooms (larger→below a d ha hd (omega arith) (omega arith))) c-d (below_of→below rooms (larger→below c b hc hb (omega arith) (omega arith))) in
        omega (arith, below→earlier (below→below_of rooms k a-b))

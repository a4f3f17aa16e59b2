-- What is found in the lists of corners is found in the room list, and back: room i of the list is the room with the corners at place i.
use mathlib.Core.Path.{◌≡◌, sym, ap, subst, ◌∙◌}
use mathlib.Core.Logic.{inl, inr}
use mathlib.Core.Bool.{Bool, true, false}
use mathlib.Core.List.{List}
use Prim.Native.Nat.{ℕ, ◌≤◌, ◌<◌}
use native.Mathlib.Omega.{arith}
use lib.ListN.{length, get_or}
use Rattle.finite.specs.Decide.{Tells, le_or_lt}
use Rattle.finite.specs.Search.{Some}
use Rattle.finite.specs.Sum.{sum, sum_same}
use Rattle.drawing.specs.declared.Room.{Room}
use Rattle.finite.specs.Extremes.{least, greatest, least_same, greatest_same}
use Rattle.rooms.specs.Outline.{room_in, SomeRoom, outline}
use Rattle.rooms.specs.OutlineLaws.{rooms_within_outline}
use Rattle.rooms.specs.Causes.{RoomSize, Overlap}
use Rattle.rooms.specs.Corners.{length_rooms, room_of_lem}
use Rattle.rooms.specs.Lists.{count_of, room_at, rooms_in}
use Rattle.rooms.specs.declared.CornerLists.{CornerLists}
use Rattle.checks.specs.CornerLists.{Flat, SharesEarlier}
use Rattle.corners.specs.ListPlan.{plan_in, outline_of}
use Rattle.checks.specs.Area.{area_of}
use Rattle.checks.specs.Areas.{areas_of}
use Rattle.checks.specs.Accepted.{wide_and_tall}

module _ (lists : CornerLists) where
  abbrev n : ℕ
  n = count_of lists

  abbrev rooms : List Room
  rooms = rooms_in lists

  abbrev corners : ℕ → Room
  corners = room_at lists

  pub count : length rooms ≡ n
  count = length_rooms lists.left.now lists.bottom.now lists.right.now lists.top.now n

  at : (i : ℕ) → i < n → room_in rooms i ≡ corners i
  at i h = room_of_lem lists.left.now lists.bottom.now lists.right.now lists.top.now n i h

  -- some room, with the property at its place
  place→room : (P : ℕ → Room → Type 0) → Some (λ i. P i (corners i)) 0 n → SomeRoom rooms (λ i. P i (room_in rooms i))
  place→room P (i, l, h, p) = (i, l, omega (arith, count), subst (P i) (sym (at i h)) p)

  room→place : (P : ℕ → Room → Type 0) → SomeRoom rooms (λ i. P i (room_in rooms i)) → Some (λ i. P i (corners i)) 0 n
  room→place P (i, l, h, p) = let g : i < n = omega (arith, count) in (i, l, g, subst (P i) (at i g) p)

  -- ---- cause 2
  pub flat_tells : (t : Bool) → Tells t (Some (λ i. Flat (corners i)) 0 n) → Tells t (RoomSize rooms)
  flat_tells true some = place→room (λ i room. Flat room) some
  flat_tells false none = λ size. none (room→place (λ i room. Flat room) size)

  pub corners_wide_and_tall : ¬ RoomSize rooms → (i : ℕ) → i < n
      → ((corners i).left < (corners i).right) × ((corners i).bottom < (corners i).top)
  corners_wide_and_tall size i h = subst (λ (room : Room). (room.left < room.right) × (room.bottom < room.top)) (at i h)
      (wide_and_tall rooms size i (omega (arith, count)))

  -- ---- cause 3: of two rooms one is the earlier
  pub shares_earlier→overlap : Some (SharesEarlier lists) 0 n → Overlap rooms
  shares_earlier→overlap (j, lj, hj, (i, li, hi, s)) =
      let g : i < n = omega arith in
      (i, li, omega (arith, count), (j, lj, omega (arith, count), (λ e. omega arith, rw (at i g, at j hj) s)))

  pub overlap→shares_earlier : Overlap rooms → Some (SharesEarlier lists) 0 n
  overlap→shares_earlier (i, li, hi, (j, lj, hj, (ne, s))) =
      let gi : i < n = omega (arith, count) in
      let gj : j < n = omega (arith, count) in
      let (x, y, u, v) = rw (at i gi, at j gj) at s in
      elim (le_or_lt i j) [ inl l ↦ (j, lj, gj, (i, li, omega arith, (x, y, u, v))) | inr l ↦ (i, li, gi, (j, lj, l, (x, y, v, u))) ]

  -- ---- cause 4
  places_areas : sum (λ i. area_of (corners i)) 0 n ≡ areas_of rooms
  places_areas =
      sum_same (λ i. area_of (corners i)) (λ i. area_of (room_in rooms i)) 0 n (λ i l h. ap area_of (sym (at i h)))
      ∙ ap (sum (λ i. area_of (room_in rooms i)) 0) (sym count)

  -- the box of the lists' least and greatest corners is the outline
  box_is_outline : (box : Room) → box ≡ outline_of (plan_in lists) → box ≡ outline rooms
  box_is_outline box is = is ∙ (λ j. record {
    left = (least_same (λ i. get_or lists.left.now i 0) (λ i. (room_in rooms i).left) n (side (λ room. room.left)) lists.some
        ∙ ap (least _) (sym count)) j;
    bottom = (ap (least _) lists.one_length.bottoms_length ∙ least_same (λ i. get_or lists.bottom.now i 0)
        (λ i. (room_in rooms i).bottom) n (side (λ room. room.bottom)) lists.some ∙ ap (least _) (sym count)) j;
    right = (ap (greatest _) lists.one_length.rights_length ∙ greatest_same (λ i. get_or lists.right.now i 0)
        (λ i. (room_in rooms i).right) n (side (λ room. room.right)) ∙ ap (greatest _) (sym count)) j;
    top = (ap (greatest _) lists.one_length.tops_length ∙ greatest_same (λ i. get_or lists.top.now i 0)
        (λ i. (room_in rooms i).top) n (side (λ room. room.top)) ∙ ap (greatest _) (sym count)) j;
    name = 0;
  })
    where
      side : (corner : Room → ℕ) (i : ℕ) → i < n → corner (corners i) ≡ corner (room_in rooms i)
      side corner i h = ap corner (sym (at i h))

  pub box_sides : ¬ RoomSize rooms → (box : Room) → box ≡ outline_of (plan_in lists) → (box.left ≤ box.right) × (box.bottom ≤ box.top)
  box_sides size box is =
      let h : 0 < length rooms = omega (arith, count, lists.some) in
      rw (box_is_outline box is) (omega (arith, wide_and_tall rooms size 0 h, rooms_within_outline rooms 0 h))

  -- the areas as the code adds them up
  pub places_total : {total : ℕ} → total ≡ sum (λ i. area_of (corners i)) 0 n → total ≡ areas_of rooms
  places_total t = t ∙ places_areas

  pub box_whole : (box : Room) → box ≡ outline_of (plan_in lists) → {whole : ℕ} → whole ≡ area_of box → whole ≡ area_of (outline rooms)
  box_whole box is w = w ∙ ap area_of (box_is_outline box is)

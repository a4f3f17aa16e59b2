-- What is asked of the rooms whose corners stand in four lists, so that they can be walked in the order of their ranks.
use Rattle.std.specs.Prelude.{List, ℕ, ◌+◌, ◌*◌, ◌≤◌, length}
use Rattle.rooms.specs.LabelList.{label_of, position_of}
use Rattle.rooms.specs.Lists.{rooms_in}
use Rattle.rooms.specs.declared.CornerLists.{CornerLists}
use Rattle.points.specs.Listed.{number_at}
use Rattle.orders.specs.Joined.{Linked}
use Rattle.orders.specs.Ranked.{Ranked}
use Rattle.orders.specs.Sized.{Sized}
use Rattle.orders.specs.Turns.{Walkable}

-- the ranks, of which the room at the point (x, y) has the first
abbrev pub RankedIn : (left bottom right top : List ℕ) (x y : ℕ) (ranks : ℕ → ℕ) → Type 0
RankedIn left bottom right top = Ranked (length left) (number_at left) (number_at bottom) (number_at right) (number_at top)

-- from the first room, by turned links
pub record WalkFrom (left bottom right top turned : List ℕ) (first : ℕ) (ranks : ℕ → ℕ) : Type 0 where
  pub sized : Sized left bottom right top
  pub few : length left ≤ 255
  pub places : 2 * length left ≤ length turned
  pub ranked : RankedIn left bottom right top (number_at left first) (number_at bottom first) ranks
  pub walkable : Walkable (length left) (number_at left) (number_at bottom) (number_at right) (number_at top) first (number_at turned)

-- by the links, and the links the other way, which tell the first room
pub record Walks (left bottom right top links others : List ℕ) (ranks : ℕ → ℕ) : Type 0 where
  pub sized : Sized left bottom right top
  pub few : length left ≤ 255
  pub links_places : 2 * length left + 2 ≤ length links
  pub others_places : 2 * length left + 2 ≤ length others
  pub x : ℕ
  pub y : ℕ
  pub ranked : RankedIn left bottom right top x y ranks
  pub linked : Linked (length left) (number_at left) (number_at bottom) (number_at right) (number_at top) x y (number_at links)
      (number_at others)

-- in both orders: that of positions and, with bottom and top exchanged, that of labels
pub record WalkBoth (lists : CornerLists) (up down : List ℕ) (first-up first-down : ℕ) : Type 0 where
  pub by_position : WalkFrom lists.left.now lists.bottom.now lists.right.now lists.top.now up first-up (position_of (rooms_in lists))
  pub by_label : WalkFrom lists.left.now lists.top.now lists.right.now lists.bottom.now down first-down (label_of (rooms_in lists))

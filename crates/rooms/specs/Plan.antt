-- A floorplan as functions of a room's number, the form in which the proofs speak of it: to swap x and y takes "left of" to "below"
-- and back, so a fact about columns is a fact about rows of the swapped plan. Instead of a segment there is a line on which each
-- unit edge is drawn.
use Rattle.std.specs.Prelude.{◌≡◌, ◌⊎◌, ℕ, ◌-◌, ◌≤◌, ◌<◌, min, max}
use Rattle.std.proofs.Common.{arith}
use Rattle.finite.specs.Search.{Some, dec_some}
use Rattle.drawing.specs.declared.Room.{Room}
use Rattle.drawing.specs.Squares.{BoxCovers}
use Rattle.rooms.specs.Outline.{Covers}
use Rattle.rooms.specs.DecideCauses.{dec_covers}
use Rattle.rooms.specs.Orders.{Chain, one, step}
use Rattle.rooms.specs.Pick.{pick, pick_has}

-- how many rooms there are, their corners, and the outline's
pub record Plan : Type 0 where
  pub count : ℕ
  pub left : ℕ → ℕ
  pub bottom : ℕ → ℕ
  pub right : ℕ → ℕ
  pub top : ℕ → ℕ
  pub west : ℕ
  pub south : ℕ
  pub east : ℕ
  pub north : ℕ

abbrev pub room_of : Plan → ℕ → Room
room_of p i = record { left = p.left i; bottom = p.bottom i; right = p.right i; top = p.top i; name = 0 }

-- room i covers the unit square (x, y)
abbrev pub RoomCovers : Plan → (i x y : ℕ) → Type 0
RoomCovers p i x y = Covers (room_of p i) x y

-- the unit square (x, y) lies in the outline
abbrev pub OutlineCovers : Plan → (x y : ℕ) → Type 0
OutlineCovers p x y = BoxCovers p.west p.south p.east p.north x y

-- room i is a rectangle in the outline
pub record Fits (p : Plan) (i : ℕ) : Type 0 where
  pub wide : p.left i < p.right i
  pub tall : p.bottom i < p.top i
  pub west : p.west ≤ p.left i
  pub south : p.south ≤ p.bottom i
  pub east : p.right i ≤ p.east
  pub north : p.top i ≤ p.north

-- the rooms "fill the outline, share no unit square"
pub record Tiles (p : Plan) : Type 0 where
  pub fits : (i : ℕ) → i < p.count → Fits p i
  pub apart : (i j x y : ℕ) → i < p.count → j < p.count → RoomCovers p i x y → RoomCovers p j x y → i ≡ j
  pub covered : (x y : ℕ) → OutlineCovers p x y → Some (λ i. RoomCovers p i x y) 0 p.count

-- the same plan with x and y swapped
abbrev pub swap : Plan → Plan
swap p = record {
  count = p.count;
  left = p.bottom;
  bottom = p.left;
  right = p.top;
  top = p.right;
  west = p.south;
  south = p.west;
  east = p.north;
  north = p.east;
}

pub swap_covers : {west south east north x y : ℕ} → BoxCovers west south east north x y → BoxCovers south west north east y x
swap_covers h = omega arith

pub swap_tiles : {p : Plan} → Tiles p → Tiles (swap p)
swap_tiles t = record {
  fits = λ i h. omega (arith, t.fits i h);
  apart = λ i j x y hi hj u v. t.apart i j y x hi hj (swap_covers u) (swap_covers v);
  covered = λ x y h. let r = t.covered y x (omega arith) in (r.0, r.1, r.2, swap_covers r.3);
}

-- ---- drawn unit edges
pub record OnUpright (p : Plan) (x y i : ℕ) : Type 0 where
  pub side : (p.left i ≡ x) ⊎ (p.right i ≡ x)
  pub bottom : p.bottom i ≤ y
  pub top : y < p.top i

-- the upright unit edge at x, in row y, is a piece of a room's edge; and the flat one at y, in column x
abbrev pub UprightEdge : Plan → (x y : ℕ) → Type 0
UprightEdge p x y = Some (OnUpright p x y) 0 p.count

abbrev pub FlatEdge : Plan → (x y : ℕ) → Type 0
FlatEdge p x y = UprightEdge (swap p) y x

-- a point strictly within the outline
pub record Inner (p : Plan) (x y : ℕ) : Type 0 where
  pub left : p.west < x
  pub right : x < p.east
  pub bottom : p.south < y
  pub top : y < p.north

-- ---- floorplans
-- the rooms tile the outline, and no two lines of edges cross: FourCorners has that this is "no point is a corner of four rooms"
pub record Floorplan (p : Plan) : Type 0 where
  pub fits : (i : ℕ) → i < p.count → Fits p i
  pub apart : (i j x y : ℕ) → i < p.count → j < p.count → RoomCovers p i x y → RoomCovers p j x y → i ≡ j
  pub covered : (x y : ℕ) → OutlineCovers p x y → Some (λ i. RoomCovers p i x y) 0 p.count
  pub no_cross : (x y : ℕ) → Inner p x y → UprightEdge p x (y - 1) → UprightEdge p x y → FlatEdge p (x - 1) y → FlatEdge p x y → ⊥

abbrev pub tiles : {p : Plan} → Floorplan p → Tiles p
tiles k = record { fits = k.fits; apart = k.apart; covered = k.covered }

pub swap_floorplan : {p : Plan} → Floorplan p → Floorplan (swap p)
swap_floorplan k = let t = swap_tiles (tiles k) in record {
  fits = t.fits;
  apart = t.apart;
  covered = t.covered;
  no_cross = λ x y h low high near far. k.no_cross y x (omega arith) near far low high;
}

-- ---- the room that covers a unit square, 0 where there is none
pub owner : Plan → (x y : ℕ) → ℕ
owner p x y = pick (dec_some (λ i. RoomCovers p i x y) (λ i. dec_covers (room_of p i) x y) 0 p.count)

pub owner_covers : {p : Plan} → Tiles p → (x y : ℕ) → OutlineCovers p x y → (owner p x y < p.count) × RoomCovers p (owner p x y) x y
unfolding owner
owner_covers {p} k x y h = pick_has (dec_some (λ i. RoomCovers p i x y) (λ i. dec_covers (room_of p i) x y) 0 p.count) (k.covered x y h)

-- ---- the two relations
-- one line, drawn without a break, has the right edge of room a and the left edge of room b on it
pub record LeftStep (p : Plan) (a b : ℕ) : Type 0 where
  pub a< : a < p.count
  pub b< : b < p.count
  pub meet : p.right a ≡ p.left b
  pub line : (y : ℕ) → min (p.bottom a) (p.bottom b) ≤ y → y < max (p.top a) (p.top b) → UprightEdge p (p.left b) y

abbrev pub Left : Plan → (a b : ℕ) → Type 0
Left p = Chain (LeftStep p)

abbrev pub BelowStep : Plan → (a b : ℕ) → Type 0
BelowStep p = LeftStep (swap p)

abbrev pub Below : Plan → (a b : ℕ) → Type 0
Below p = Left (swap p)

pub left_a< : {p : Plan} {a b : ℕ} → Left p a b → a < p.count
left_a< (one d) = d.a<
left_a< (step r d) = left_a< r

pub left_b< : {p : Plan} {a b : ℕ} → Left p a b → b < p.count
left_b< (one d) = d.b<
left_b< (step r d) = d.b<

-- a room left of another one ends before that one starts
pub left→right≤left : {p : Plan} → Floorplan p → {a b : ℕ} → Left p a b → p.right a ≤ p.left b
left→right≤left k (one d) = omega arith
left→right≤left k (step {b = b} r d) = omega (arith, left→right≤left k r, k.fits b (left_b< r))

-- a direct step is a room left of another with no room between
pub left_step→none_between : {p : Plan} → Floorplan p → {a b : ℕ} → LeftStep p a b → (c : ℕ) → Left p a c → Left p c b → ⊥
left_step→none_between k d c l r = omega (arith, d.meet, left→right≤left k l, left→right≤left k r, k.fits c (left_b< l))

pub none_between→left_step : {p : Plan} {a b : ℕ} → Left p a b → ((c : ℕ) → Left p a c → Left p c b → ⊥) → LeftStep p a b
none_between→left_step (one d) none = d
none_between→left_step (step {b = c} r d) none = absurd (none c r (one d))

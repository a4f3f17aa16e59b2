-- Inner segments of a floorplan: a segment is inner exactly if it supports rooms from both sides, and then its line lies strictly within
-- the outline. An outline side supports rooms from one side only. Both directions go by one proof, on the plan as it is or with x and y
-- swapped.
use Rattle.std.specs.Prelude.{◌≡◌, refl, ◌⊎◌, List, ℕ, ◌<◌, length}
use Rattle.std.proofs.Common.{sym, subst, ◌∙◌, inl, inr, eq-or-lt_of_le, arith}
use Rattle.finite.specs.Search.{Some}
use Rattle.drawing.specs.declared.Room.{Room}
use Rattle.rooms.specs.Outline.{room_in, outline}
use Rattle.rooms.specs.Segment.{Direction, upright, flat, Stretch, Segment, Side, left_edge, right_edge, bottom_edge, top_edge, edge, Holds}
use Rattle.rooms.specs.Plan.{Plan, Floorplan, swap, swap_floorplan}
use Rattle.rooms.specs.PlanOf.{plan_of}
use Rattle.rooms.specs.SharedRow.{left_neighbour, right_neighbour}
use Rattle.rooms.proofs.SegmentOfEdge.{segment_of, segment_holds, segment_only, segment→held_edge}
use Rattle.rooms.proofs.SameSegment.{EdgePair, upright_pair, flat_pair}
use Rattle.contacts.specs.Inner.{OutlineSide}

-- ---- both directions alike
-- the sides of a room on lines of a direction: left and right, or bottom and top
abbrev pub near_side : Direction → Side
near_side upright = left_edge
near_side flat = bottom_edge

abbrev pub far_side : Direction → Side
far_side upright = right_edge
far_side flat = top_edge

-- the plan seen so that lines of the direction are upright
abbrev pub seen : List Room → Direction → Plan
seen rooms upright = plan_of rooms
seen rooms flat = swap (plan_of rooms)

pub seen_size : (rooms : List Room) (d : Direction) → (seen rooms d).count ≡ length rooms
seen_size rooms upright = refl
seen_size rooms flat = refl

module _ (rooms : List Room) (k : Floorplan (plan_of rooms)) where
  seen_floorplan : (d : Direction) → Floorplan (seen rooms d)
  seen_floorplan upright = k
  seen_floorplan flat = swap_floorplan k

  seen_pair : (d : Direction) → EdgePair rooms (seen rooms d) (near_side d) (far_side d)
  seen_pair upright = upright_pair rooms k
  seen_pair flat = flat_pair rooms k

-- ---- an edge lies on the outline, or a room lies on its other side
abbrev OuterOr : (rooms : List Room) (p : Plan) (of other : Side) (a : ℕ) → Type 0
OuterOr rooms p of other a =
    (segment_of rooms of a ≡ edge of (outline rooms)) ⊎ Some (λ b. segment_of rooms other b ≡ segment_of rooms of a) 0 p.count

module _ (rooms : List Room) (p : Plan) (k : Floorplan p) (near far : Side) (pair : EdgePair rooms p near far) where
  near_outer_or_far : (a : ℕ) → a < p.count → OuterOr rooms p near far a
  near_outer_or_far a h = elim (eq-or-lt_of_le (k.fits a h).west) [
    | inl e ↦ inl (pair.near_outer a h (sym e))
    | inr l ↦ let (b, lb, hb, d) = left_neighbour p k a h l in inr (b, lb, hb, pair.step→same b a d)
  ]

  far_outer_or_near : (a : ℕ) → a < p.count → OuterOr rooms p far near a
  far_outer_or_near a h = elim (eq-or-lt_of_le (k.fits a h).east) [
    | inl e ↦ inl (pair.far_outer a h e)
    | inr l ↦ let (b, lb, hb, d) = right_neighbour p k a h l in inr (b, lb, hb, sym (pair.step→same a b d))
  ]

-- the stretch holds the far edge of one room and the near edge of another: it supports rooms from both sides
pub record BothSides (rooms : List Room) (s : Stretch) : Type 0 where
  pub direction : Direction
  pub before : ℕ
  pub after : ℕ
  pub before< : before < length rooms
  pub after< : after < length rooms
  pub holds_far : Holds s (edge (far_side direction) (room_in rooms before))
  pub holds_near : Holds s (edge (near_side direction) (room_in rooms after))

module _ (rooms : List Room) (k : Floorplan (plan_of rooms)) (s : Stretch) where
  holds : (side : Side) (b : ℕ) → b < length rooms → segment_of rooms side b ≡ s → Holds s (edge side (room_in rooms b))
  holds side b h e = subst (λ (t : Stretch). Holds t (edge side (room_in rooms b))) e (segment_holds rooms k side b h).1

  both : (d : Direction) (before after : ℕ) → before < length rooms → after < length rooms
      → segment_of rooms (far_side d) before ≡ s → segment_of rooms (near_side d) after ≡ s → BothSides rooms s
  both d before after hb ha e q = record {
    direction = d;
    before = before;
    after = after;
    before< = hb;
    after< = ha;
    holds_far = holds (far_side d) before hb e;
    holds_near = holds (near_side d) after ha q;
  }

  module _ (d : Direction) (a : ℕ) (h : a < length rooms) where
    near_edge : segment_of rooms (near_side d) a ≡ s → OutlineSide rooms s ⊎ BothSides rooms s
    near_edge q = let size = seen_size rooms d in
        elim (near_outer_or_far rooms (seen rooms d) (seen_floorplan rooms k d) (near_side d) (far_side d) (seen_pair rooms k d) a (omega arith)) [
          | inl e ↦ inl (near_side d, sym q ∙ e)
          | inr (b, l, hb, e) ↦ inr (both d b a (omega arith) h (e ∙ q) q)
        ]

    far_edge : segment_of rooms (far_side d) a ≡ s → OutlineSide rooms s ⊎ BothSides rooms s
    far_edge q = let size = seen_size rooms d in
        elim (far_outer_or_near rooms (seen rooms d) (seen_floorplan rooms k d) (near_side d) (far_side d) (seen_pair rooms k d) a (omega arith)) [
          | inl e ↦ inl (far_side d, sym q ∙ e)
          | inr (b, l, hb, e) ↦ inr (both d a b h (omega arith) q (e ∙ q))
        ]

  pub outline_side_or_both_sides : Segment rooms s → OutlineSide rooms s ⊎ BothSides rooms s
  outline_side_or_both_sides g =
      let held = segment→held_edge rooms k s g in
      go held.side held.room held.room< (segment_only rooms k held.side held.room held.room< s g held.holds)
    where
      go : (side : Side) (a : ℕ) → a < length rooms → segment_of rooms side a ≡ s → OutlineSide rooms s ⊎ BothSides rooms s
      go left_edge = near_edge upright
      go right_edge = far_edge upright
      go bottom_edge = near_edge flat
      go top_edge = far_edge flat

-- ---- lines within the outline
-- the line x of the direction lies strictly between the sides of the box
abbrev Between : (box : Room) → Direction → (x : ℕ) → Type 0
Between box d x = ((edge (near_side d) box).line < x) × (x < (edge (far_side d) box).line)

abbrev pub Inside : (box : Room) → Stretch → Type 0
Inside box s = Between box s.direction s.line

pub both_sides→inside : (rooms : List Room) → Floorplan (plan_of rooms) → (s : Stretch) → BothSides rooms s → Inside (outline rooms) s
both_sides→inside rooms k s b = go b.direction b.holds_far b.holds_near
  where
    go : (d : Direction) → Holds s (edge (far_side d) (room_in rooms b.before)) → Holds s (edge (near_side d) (room_in rooms b.after))
        → Inside (outline rooms) s
    go upright u v = subst (λ (d : Direction). Between (outline rooms) d s.line) (sym u.direction)
        (omega (arith, u.line, v.line, k.fits b.before b.before<, k.fits b.after b.after<))
    go flat u v = subst (λ (d : Direction). Between (outline rooms) d s.line) (sym u.direction)
        (omega (arith, u.line, v.line, k.fits b.before b.before<, k.fits b.after b.after<))

pub inside→not_outline_side : (rooms : List Room) (s : Stretch) → Inside (outline rooms) s → ¬ OutlineSide rooms s
inside→not_outline_side rooms s inside (side, e) = go side (subst (Inside (outline rooms)) e inside)
  where
    go : (side : Side) → Inside (outline rooms) (edge side (outline rooms)) → ⊥
    go left_edge i = omega arith
    go right_edge i = omega arith
    go bottom_edge i = omega arith
    go top_edge i = omega arith

-- The inner segments of the grid drawing: one on each of the lines 1 to n - 1, vertical where the label rises and horizontal where it
-- falls. For any list of the labels 1 to n, each once, and so for any Baxter list.
use Rattle.std.specs.Prelude.{◌≡◌, refl, ◌≢◌, ◌⊎◌, ◌↔◌, List, ℕ, zero, suc, ◌≤◌, ◌<◌, length}
use Rattle.std.proofs.Common.{ap, subst, subst₂, ◌∙◌, inl, inr, le_refl, arith}
use Rattle.std.proofs.Math.Logic.{ite}
use Rattle.std.proofs.Math.Decide.{dec_lt}
use Rattle.record.specs.Labels.{label_at, EachOnce}
use Rattle.record.specs.Way.{Way, up, down, Past}
use Rattle.drawing.specs.declared.Room.{Room}
use Rattle.drawing.specs.Drawing.{room_at, drawing_of}
use Rattle.rooms.specs.Outline.{room_in, outline}
use Rattle.rooms.specs.Segment.{Direction, upright, flat, Stretch, Drawn, Segment, Side, left_edge, right_edge, bottom_edge, top_edge, edge}
use Rattle.rooms.specs.Plan.{Floorplan, room_of, UprightEdge}
use Rattle.rooms.specs.PlanOf.{plan_of}
use Rattle.rooms.proofs.Steps.{upright→drawn, drawn→upright, flat→drawn, drawn→flat}
use Rattle.rooms.proofs.SegmentOfEdge.{overlap→one_segment}
use Rattle.rooms.specs.GridFloorplan.{length_drawing, room_in_drawing, drawing_floorplan}
use Rattle.contacts.specs.Inner.{OutlineSide, InnerSegment}
use Rattle.contacts.proofs.InnerFacts.{seen, seen_size, Inside, outline_side_or_both_sides, both_sides→inside}
use Rattle.contacts.specs.GridEdges.{DrawnFor, OnLine, edge→on_line, on_line→edge, rises→some, place_drawn}
use Rattle.contacts.specs.GridOutline.{drawing_outline}
use Rattle.contacts.specs.GridLine.{OnlyInnerSegment, vertical_at, horizontal_at, line_at, InnerSegmentsAre}

-- ---- a line on which just the unit edges of one stretch are drawn
module _ (rooms : List Room) (s : Stretch) (some : s.from < s.to)
    (drawn : (z : ℕ) → Drawn rooms s.direction s.line z ↔ ((s.from ≤ z) × (z < s.to))) where
  drawn_between→segment : Segment rooms s
  drawn_between→segment = record {
    some = some;
    unbroken = λ z lo hi. (drawn z).1 (lo, hi);
    ends = λ past. omega (arith, (drawn s.to).0 past);
    starts = λ z e past. omega (arith, (drawn z).0 past);
  }

  drawn_between→only : (other : Stretch) → Segment rooms other → other.direction ≡ s.direction → other.line ≡ s.line → other ≡ s
  drawn_between→only other g p q =
      let here = (drawn other.from).0 (subst₂ (λ (d : Direction) (line : ℕ). Drawn rooms d line other.from) p q (g.unbroken other.from (le_refl other.from) g.some)) in
      overlap→one_segment rooms other s g drawn_between→segment p q other.from (le_refl other.from) g.some here.0 here.1

-- ---- both directions alike
-- the way along the labels that goes with a direction
abbrev way_of : Direction → Way
way_of upright = up
way_of flat = down

drawn→edge : (rooms : List Room) (d : Direction) {line z : ℕ} → Drawn rooms d line z → UprightEdge (seen rooms d) line z
drawn→edge rooms upright = drawn→upright rooms
drawn→edge rooms flat = drawn→flat rooms

edge→drawn : (rooms : List Room) (d : Direction) {line z : ℕ} → UprightEdge (seen rooms d) line z → Drawn rooms d line z
edge→drawn rooms upright = upright→drawn rooms
edge→drawn rooms flat = flat→drawn rooms

-- labels do not both rise and fall
one_direction : (d e : Direction) {x y : ℕ} → Past (way_of d) x y → Past (way_of e) x y → d ≡ e
one_direction upright upright p q = refl
one_direction upright flat p q = absurd (omega arith)
one_direction flat upright p q = absurd (omega arith)
one_direction flat flat p q = refl

module _ (labels : List ℕ) (c : ℕ) (h : suc c < length (drawing_of labels)) where
  abbrev rooms : List Room
  rooms = drawing_of labels

  abbrev f : ℕ → ℕ
  f = label_at labels

  abbrev n : ℕ
  n = length labels

  seen_drawn : (d : Direction) (a : ℕ) → a < (seen rooms d).count → DrawnFor f n (way_of d) (suc a) (room_of (seen rooms d) a)
  seen_drawn upright a l = let d = place_drawn labels a l in record { left = d.left; bottom = d.bottom; right = d.right; top = d.top }
  seen_drawn flat a l = let d = place_drawn labels a l in record { left = d.bottom; bottom = d.left; right = d.top; top = d.right }

  -- the unit edges of the direction drawn on the line
  drawn→on_line : (d : Direction) (z : ℕ) → Drawn rooms d (suc c) z → OnLine f (way_of d) (seen rooms d) c z
  drawn→on_line d z drawn = edge→on_line f n (way_of d) (seen rooms d) (seen_size rooms d ∙ length_drawing labels) (seen_drawn d) c (omega (arith, seen_size rooms d)) (drawn→edge rooms d drawn)

  on_line→drawn : (d : Direction) (z : ℕ) → OnLine f (way_of d) (seen rooms d) c z → Drawn rooms d (suc c) z
  on_line→drawn d z o = edge→drawn rooms d (on_line→edge f n (way_of d) (seen rooms d) (seen_size rooms d ∙ length_drawing labels) (seen_drawn d) c (omega (arith, seen_size rooms d)) o)

  line_of : Direction → Stretch
  line_of d = record { direction = d; line = suc c; from = (seen rooms d).bottom (suc c); to = (seen rooms d).top c }

  module _ (d : Direction) (rises : Past (way_of d) (f (suc c)) (f (suc (suc c)))) where
    line_some : (line_of d).from < (line_of d).to
    unfolding line_of
    line_some = rises→some f n (way_of d) (seen rooms d) (seen_size rooms d ∙ length_drawing labels) (seen_drawn d) c (omega (arith, seen_size rooms d)) rises

    line_drawn : (z : ℕ) → Drawn rooms d (suc c) z ↔ (((line_of d).from ≤ z) × (z < (line_of d).to))
    unfolding line_of
    line_drawn z = (λ drawn. let o = drawn→on_line d z drawn in (o.from, o.to), λ at. on_line→drawn d z (record { rises = rises; from = at.0; to = at.1 }))

    line_is_segment : Segment rooms (line_of d)
    unfolding line_of
    line_is_segment = drawn_between→segment rooms (line_of d) line_some line_drawn

    -- on either line there is no other segment
    line_only : (other : Stretch) → Segment rooms other → other.line ≡ suc c → other ≡ line_of d
    unfolding line_of
    line_only other g e = drawn_between→only rooms (line_of d) line_some line_drawn other g (one_direction other.direction d there.rises rises) e
      where
        there : OnLine f (way_of other.direction) (seen rooms other.direction) c other.from
        there = drawn→on_line other.direction other.from
            (subst (λ (line : ℕ). Drawn rooms other.direction line other.from) e (g.unbroken other.from (le_refl other.from) g.some))

  -- ---- in the rooms as they are drawn
  abbrev Only : Stretch → Type 0
  Only s = (s.line ≡ suc c) × Segment rooms s × ((other : Stretch) → Segment rooms other → other.line ≡ suc c → other ≡ s)

  line_at_only : f (suc c) ≢ f (suc (suc c)) → Only (line_at f (room_at f n) (suc c))
  unfolding line_of
  line_at_only differ = go (dec_lt (f (suc c)) (f (suc (suc c))))
    where
      earlier : room_in rooms c ≡ room_at f n (suc c)
      earlier = room_in_drawing labels c (omega arith)

      later : room_in rooms (suc c) ≡ room_at f n (suc (suc c))
      later = room_in_drawing labels (suc c) h

      of : (d : Direction) → Past (way_of d) (f (suc c)) (f (suc (suc c))) → Only (line_of d)
      of d rises = (refl, line_is_segment d rises, line_only d rises)

      go : (d : Dec (f (suc c) < f (suc (suc c))))
          → Only (ite d (vertical_at (suc c) (room_at f n (suc c)) (room_at f n (suc (suc c))))
          (horizontal_at (suc c) (room_at f n (suc c)) (room_at f n (suc (suc c)))))
      go (yes p) = subst Only (λ i. vertical_at (suc c) (earlier i) (later i)) (of upright (omega arith))
      go (no p) = subst Only (λ i. horizontal_at (suc c) (earlier i) (later i)) (of flat (omega arith))

-- ---- the drawing of a list of the labels 1 to n, each once
module _ (labels : List ℕ) (once : EachOnce (label_at labels) (length labels)) (some : 1 ≤ length labels) where
  abbrev square : Room
  square = record { left = 0; bottom = 0; right = length labels; top = length labels; name = 0 }

  k : Floorplan (plan_of (drawing_of labels))
  k = drawing_floorplan labels once some

  inside→line : (s : Stretch) → Inside (outline (drawing_of labels)) s → (1 ≤ s.line) × (s.line < length labels)
  inside→line s inside = go s.direction (subst (λ (box : Room). Inside box s) (drawing_outline labels some) inside)
    where
      go : (d : Direction) → Inside square (record { direction = d; line = s.line; from = s.from; to = s.to })
          → (1 ≤ s.line) × (s.line < length labels)
      go upright i = omega arith
      go flat i = omega arith

  -- the outline sides lie on the lines 0 and n, and no other segment does
  pub outline_sides_are_on_0_and_n : (s : Stretch) → Segment (drawing_of labels) s
      → OutlineSide (drawing_of labels) s ↔ ((s.line ≡ 0) ⊎ (s.line ≡ length labels))
  outline_sides_are_on_0_and_n s g = (to, from)
    where
      to : OutlineSide (drawing_of labels) s → (s.line ≡ 0) ⊎ (s.line ≡ length labels)
      to (side, e) = go side (ap (λ (t : Stretch). t.line) e ∙ ap (λ (box : Room). (edge side box).line) (drawing_outline labels some))
        where
          go : (side : Side) → s.line ≡ (edge side square).line → (s.line ≡ 0) ⊎ (s.line ≡ length labels)
          go left_edge q = inl q
          go right_edge q = inr q
          go bottom_edge q = inl q
          go top_edge q = inr q

      from : (s.line ≡ 0) ⊎ (s.line ≡ length labels) → OutlineSide (drawing_of labels) s
      from e = elim (outline_side_or_both_sides (drawing_of labels) k s g) [
        | inl outer ↦ outer
        | inr both ↦ let inside = inside→line s (both_sides→inside (drawing_of labels) k s both) in absurd (elim e [ inl q ↦ omega arith | inr q ↦ omega arith ])
      ]

  -- so the inner segments are those on the lines 1 to n - 1
  pub inner_iff_on_1_to_n_1 : (s : Stretch) → Segment (drawing_of labels) s
      → InnerSegment (drawing_of labels) s ↔ ((1 ≤ s.line) × (s.line < length labels))
  inner_iff_on_1_to_n_1 s g = (
    λ inner. elim (outline_side_or_both_sides (drawing_of labels) k s g) [
      | inl outer ↦ absurd (inner.not_outline_side outer)
      | inr both ↦ inside→line s (both_sides→inside (drawing_of labels) k s both)
    ],
    λ (lo, hi). record { segment = g; not_outline_side = λ outer. elim ((outline_sides_are_on_0_and_n s g).0 outer) [ inl e ↦ omega arith | inr e ↦ omega arith ] },
  )

-- each of the lines 1 to n - 1, across and up taken together, has one segment, which is inner
pub one_inner_segment_per_line : (labels : List ℕ) → EachOnce (label_at labels) (length labels) → (k : ℕ) → 1 ≤ k → k < length labels
    → OnlyInnerSegment (drawing_of labels) k (line_at (label_at labels) (room_at (label_at labels) (length labels)) k)
one_inner_segment_per_line labels once zero first last = absurd (omega arith)
one_inner_segment_per_line labels once (suc c) first last =
    let differ : label_at labels (suc c) ≢ label_at labels (suc (suc c)) = λ e. omega (arith, once.once (suc c) (suc (suc c)) first (omega arith) (omega arith) last e) in
    let (line, segment, only) = line_at_only labels c (omega (arith, length_drawing labels)) differ in
    record { inner = (inner_iff_on_1_to_n_1 labels once (omega arith) (line_at (label_at labels) (room_at (label_at labels) (length labels)) (suc c)) segment).1 (omega arith); line = line; only = only }

-- so these are the inner segments
pub lines_are_inner_segments : (labels : List ℕ) → EachOnce (label_at labels) (length labels) → 1 ≤ length labels
    → InnerSegmentsAre labels (line_at (label_at labels) (room_at (label_at labels) (length labels)))
lines_are_inner_segments labels once some = record {
  each = one_inner_segment_per_line labels once;
  every = λ s inner.
      let (lo, hi) = (inner_iff_on_1_to_n_1 labels once some s inner.segment).0 inner in
      (lo, hi, (one_inner_segment_per_line labels once s.line lo hi).only s inner.segment refl);
}

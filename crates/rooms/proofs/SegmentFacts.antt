-- Segments of an accepted room list: each edge of a room lies on exactly one, each holds an edge of a room, no two cross, and "the
-- four outline sides are segments too".
use Rattle.std.specs.Prelude.{◌≡◌, ◌≢◌, List, ℕ, ◌-◌, ◌≤◌, ◌<◌, length}
use Rattle.std.proofs.Common.{subst, inl, arith}
use Rattle.drawing.specs.declared.Room.{Room}
use Rattle.rooms.specs.Outline.{room_in, outline}
use Rattle.rooms.specs.Causes.{AcceptedRooms}
use Rattle.rooms.specs.Segment.{Direction, upright, flat, Stretch, Drawn, Segment, Side, edge, Holds}
use Rattle.rooms.specs.Plan.{Floorplan, UprightEdge, FlatEdge}
use Rattle.rooms.specs.PlanOf.{plan_of, accepted→floorplan}
use Rattle.rooms.proofs.SegmentOfEdge.{segment_of, segment_holds, segment_only, HeldEdge, segment→held_edge}
use Rattle.rooms.proofs.Steps.{drawn→upright, drawn→flat}
use Rattle.rooms.proofs.OutlineSides.{outline_side}

-- the one segment that holds a stretch
pub record OnlySegment (rooms : List Room) (e : Stretch) : Type 0 where
  pub by : Stretch
  pub segment : Segment rooms by
  pub holds : Holds by e
  pub only : (other : Stretch) → Segment rooms other → Holds other e → by ≡ other

-- two stretches cross: the upright one has points on both sides of the flat one's line, and the flat one on both sides of the upright one's
pub record Cross (s t : Stretch) : Type 0 where
  pub upright : s.direction ≡ upright
  pub flat : t.direction ≡ flat
  pub under : s.from < t.line
  pub over : t.line < s.to
  pub before : t.from < s.line
  pub after : s.line < t.to

module _ (rooms : List Room) (accepted : AcceptedRooms rooms) where
  k : Floorplan (plan_of rooms)
  k = accepted→floorplan rooms accepted

  -- every edge of a room lies on exactly one segment
  pub edge_on_exactly_one_segment : (side : Side) (i : ℕ) → i < length rooms → OnlySegment rooms (edge side (room_in rooms i))
  edge_on_exactly_one_segment side i h = record {
    by = segment_of rooms side i;
    segment = (segment_holds rooms k side i h).0;
    holds = (segment_holds rooms k side i h).1;
    only = segment_only rooms k side i h;
  }

  -- every segment holds an edge of a room
  pub segment_holds_an_edge : (s : Stretch) → Segment rooms s → HeldEdge rooms s
  segment_holds_an_edge = segment→held_edge rooms k

  -- segments do not cross
  pub segments_do_not_cross : (s t : Stretch) → Segment rooms s → Segment rooms t → ¬ Cross s t
  segments_do_not_cross s t u v c =
      let low = upright_at (t.line - 1) (omega (arith, c.under)) (omega (arith, c.over)) in
      let high = upright_at t.line (omega (arith, c.under)) c.over in
      let near = flat_at (s.line - 1) (omega (arith, c.before)) (omega (arith, c.after)) in
      let far = flat_at s.line (omega (arith, c.before)) c.after in
      let (i, li, hi, o) = near in
      let (j, lj, hj, r) = far in
      let (a, la, ha, x) = low in
      let (b, lb, hb, y) = high in
      k.no_cross s.line t.line
      (record { left = omega (arith, o.bottom, k.fits i hi, c.before); right = omega (arith, r.top, k.fits j hj); bottom = omega (arith, x.bottom, k.fits a ha, c.under); top = omega (arith, y.top, k.fits b hb) })
      low high near far
    where
      upright_at : (z : ℕ) → s.from ≤ z → z < s.to → UprightEdge (plan_of rooms) s.line z
      upright_at z lo hi = drawn→upright rooms (subst (λ (d : Direction). Drawn rooms d s.line z) c.upright (u.unbroken z lo hi))

      flat_at : (z : ℕ) → t.from ≤ z → z < t.to → FlatEdge (plan_of rooms) z t.line
      flat_at z lo hi = drawn→flat rooms (subst (λ (d : Direction). Drawn rooms d t.line z) c.flat (v.unbroken z lo hi))

  -- "the four outline sides are segments too"
  pub outline_sides_are_segments : (side : Side) → Segment rooms (edge side (outline rooms))
  outline_sides_are_segments = let some : length rooms ≢ 0 = λ e. accepted.count (inl e) in outline_side rooms k (omega arith)

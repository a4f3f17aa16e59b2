-- Each edge of a room lies on one segment, and on one only: the run of drawn unit edges round it. And each segment holds an edge.
use Rattle.std.specs.Prelude.{◌≡◌, List}
use Rattle.std.proofs.Math.Path.{refl}
use Rattle.std.proofs.Common.{sym, ◌∙◌, subst, subst₂, le_refl, arith}
use Rattle.std.proofs.Math.Logic.{inl, inr}
use Prim.Native.Nat.{ℕ, ◌-◌, ◌≤◌, ◌<◌, min, max, zero-le}
use Rattle.std.proofs.Math.ListN.{length}
use Rattle.finite.specs.Decide.{le_or_lt}
use Rattle.finite.specs.Search.{Each}
use Rattle.drawing.specs.declared.Room.{Room}
use Rattle.rooms.specs.Outline.{room_in}
use Rattle.rooms.specs.Segment.{Direction, upright, flat, Stretch, Drawn, Segment, Side, left_edge, right_edge, bottom_edge, top_edge, edge, Holds}
use Rattle.rooms.specs.Orders.{OneSegment}
use Rattle.rooms.specs.Plan.{Floorplan}
use Rattle.rooms.specs.PlanOf.{plan_of}
use Rattle.rooms.proofs.Lengthened.{lengthened, drawn→lengthened_segment}

module _ (rooms : List Room) where
  overlap→within : (s t : Stretch) → Segment rooms s → Segment rooms t → s.direction ≡ t.direction → s.line ≡ t.line
      → (z : ℕ) → s.from ≤ z → z < s.to → t.from ≤ z → z < t.to
      → (t.from ≤ s.from) × (s.to ≤ t.to)
  overlap→within s t u v p q z a b c e = (
    elim (le_or_lt t.from s.from) [
      | inl h ↦ h
      | inr h ↦ absurd (v.starts (t.from - 1) (omega arith) (moved (t.from - 1) (u.unbroken (t.from - 1) (omega arith) (omega arith))))
    ],
    elim (le_or_lt s.to t.to) [ inl h ↦ h | inr h ↦ absurd (v.ends (moved t.to (u.unbroken t.to (omega arith) h))) ],
  )
    where
      moved : (x : ℕ) → Drawn rooms s.direction s.line x → Drawn rooms t.direction t.line x
      moved x h = subst₂ (λ (d : Direction) (l : ℕ). Drawn rooms d l x) p q h

  -- two segments that share a unit edge are one
  pub overlap→one_segment : (s t : Stretch) → Segment rooms s → Segment rooms t → s.direction ≡ t.direction → s.line ≡ t.line
      → (z : ℕ) → s.from ≤ z → z < s.to → t.from ≤ z → z < t.to → s ≡ t
  overlap→one_segment s t u v p q z a b c e =
      let g = overlap→within s t u v p q z a b c e in
      let h = overlap→within t s v u (sym p) (sym q) z c e a b in
      let same_from : s.from ≡ t.from = omega arith in
      let same_to : s.to ≡ t.to = omega arith in
      (λ i. record { direction = p i; line = q i; from = same_from i; to = same_to i })

  edge_drawn : (side : Side) (i : ℕ) → i < length rooms → let e = edge side (room_in rooms i) in Each (Drawn rooms e.direction e.line) e.from e.to
  edge_drawn left_edge i h z a b = (i, zero-le, h, (inl refl, a, b))
  edge_drawn right_edge i h z a b = (i, zero-le, h, (inr refl, a, b))
  edge_drawn bottom_edge i h z a b = (i, zero-le, h, (inl refl, a, b))
  edge_drawn top_edge i h z a b = (i, zero-le, h, (inr refl, a, b))

  -- the segment of an edge
  pub segment_of : Side → ℕ → Stretch
  segment_of side i = lengthened rooms (edge side (room_in rooms i))

  pub segment_line : (side : Side) (i : ℕ) → (segment_of side i).line ≡ (edge side (room_in rooms i)).line
  unfolding segment_of lengthened
  segment_line side i = refl

  pub segment_direction : (side : Side) (i : ℕ) → (segment_of side i).direction ≡ (edge side (room_in rooms i)).direction
  unfolding segment_of lengthened
  segment_direction side i = refl

  module _ (k : Floorplan (plan_of rooms)) where
    pub edge_some : (side : Side) (i : ℕ) → i < length rooms → (edge side (room_in rooms i)).from < (edge side (room_in rooms i)).to
    edge_some left_edge i h = (k.fits i h).tall
    edge_some right_edge i h = (k.fits i h).tall
    edge_some bottom_edge i h = (k.fits i h).wide
    edge_some top_edge i h = (k.fits i h).wide

    -- it is a segment, it holds the edge
    pub segment_holds : (side : Side) (i : ℕ) → i < length rooms
        → Segment rooms (segment_of side i) × Holds (segment_of side i) (edge side (room_in rooms i))
    unfolding segment_of
    segment_holds side i h = drawn→lengthened_segment rooms (edge side (room_in rooms i)) (edge_some side i h) (edge_drawn side i h)

    -- and no other segment does
    pub segment_only : (side : Side) (i : ℕ) → i < length rooms → (s : Stretch) → Segment rooms s
        → Holds s (edge side (room_in rooms i)) → segment_of side i ≡ s
    segment_only side i h s g o =
        let (u, v) = segment_holds side i h in
        let l = edge_some side i h in
        overlap→one_segment (segment_of side i) s u g (v.direction ∙ sym o.direction) (v.line ∙ sym o.line) (edge side (room_in rooms i)).from v.from (omega (arith, v.to)) o.from (omega (arith, o.to))

    -- one segment holds two edges exactly if the edges have the same segment
    pub same→one_segment : (of_a of_b : Side) (a b : ℕ) → a < length rooms → b < length rooms
        → segment_of of_a a ≡ segment_of of_b b → OneSegment rooms of_a of_b a b
    same→one_segment of_a of_b a b ha hb p =
        let (u, v) = segment_holds of_a a ha in
        let w = (segment_holds of_b b hb).1 in
        record { a< = ha; b< = hb; by = segment_of of_a a; segment = u; holds_a = v; holds_b = subst (λ (s : Stretch). Holds s (edge of_b (room_in rooms b))) (sym p) w }

    pub one_segment→same : (of_a of_b : Side) (a b : ℕ) → OneSegment rooms of_a of_b a b → segment_of of_a a ≡ segment_of of_b b
    one_segment→same of_a of_b a b d =
        segment_only of_a a d.a< d.by d.segment d.holds_a
        ∙ sym (segment_only of_b b d.b< d.by d.segment d.holds_b)

    -- two edges on one line have one segment if each unit edge from the first to the last of theirs is drawn
    pub line→one_segment : (of_a of_b : Side) (a b : ℕ) → a < length rooms → b < length rooms → let e = edge of_a (room_in rooms a) in let f = edge of_b (room_in rooms b) in
        e.direction ≡ f.direction → e.line ≡ f.line → Each (Drawn rooms f.direction f.line) (min e.from f.from) (max e.to f.to) → OneSegment rooms of_a of_b a b
    line→one_segment of_a of_b a b ha hb p q g =
        let l = edge_some of_b b hb in
        let (u, v) = drawn→lengthened_segment rooms s (omega arith) g in record {
          a< = ha;
          b< = hb;
          by = lengthened rooms s;
          segment = u;
          holds_a =
              record {
                direction = v.direction ∙ sym p;
                line = v.line
                    ∙ sym q;
                from = omega (arith, v.from);
                to = omega (arith, v.to);
              };
          holds_b = record { direction = v.direction; line = v.line; from = omega (arith, v.from); to = omega (arith, v.to) };
        }
      where
        e : Stretch
        e = edge of_a (room_in rooms a)

        f : Stretch
        f = edge of_b (room_in rooms b)

        s : Stretch
        s = record { direction = f.direction; line = f.line; from = min e.from f.from; to = max e.to f.to }

-- ---- every segment holds an edge
-- the side and the room of an edge that a drawn unit edge is a piece of
pub edge_at : (rooms : List Room) (direction : Direction) (line z : ℕ) → Drawn rooms direction line z → Side × ℕ
edge_at rooms upright line z (i, l, h, (inl q, a, b)) = (left_edge, i)
edge_at rooms upright line z (i, l, h, (inr q, a, b)) = (right_edge, i)
edge_at rooms flat line z (i, l, h, (inl q, a, b)) = (bottom_edge, i)
edge_at rooms flat line z (i, l, h, (inr q, a, b)) = (top_edge, i)

-- an edge of a room that the stretch holds
pub record HeldEdge (rooms : List Room) (s : Stretch) : Type 0 where
  pub side : Side
  pub room : ℕ
  pub room< : room < length rooms
  pub holds : Holds s (edge side (room_in rooms room))

module _ (rooms : List Room) (k : Floorplan (plan_of rooms)) (s : Stretch) (g : Segment rooms s) where
  unit_edge→holds : (of : Side) (i : ℕ) → i < length rooms → let e = edge of (room_in rooms i) in e.direction ≡ s.direction → e.line ≡ s.line → e.from ≤ s.from → s.from < e.to → Holds s e
  unit_edge→holds of i h p q a b =
      let (u, v) = segment_holds rooms k of i h in
      let same = overlap→one_segment rooms (segment_of rooms of i) s u g (segment_direction rooms of i ∙ p) (v.line ∙ q) s.from (omega (arith, v.from)) (omega (arith, v.to)) (le_refl s.from) g.some in
      subst (λ (t : Stretch). Holds t (edge of (room_in rooms i))) same v

  -- a segment holds the edge that its first unit edge is a piece of
  pub edge_at_start_held : (drawn : Drawn rooms s.direction s.line s.from) → let at = edge_at rooms s.direction s.line s.from drawn in (at.1 < length rooms) × Holds s (edge at.0 (room_in rooms at.1))
  unfolding edge_at
  edge_at_start_held drawn = go s.direction refl drawn
    where
      go : (d : Direction) → d ≡ s.direction → (drawn : Drawn rooms d s.line s.from) → let at = edge_at rooms d s.line s.from drawn in (at.1 < length rooms) × Holds s (edge at.0 (room_in rooms at.1))
      go upright e (i, l, h, (inl q, a, b)) = (h, unit_edge→holds left_edge i h e q a b)
      go upright e (i, l, h, (inr q, a, b)) = (h, unit_edge→holds right_edge i h e q a b)
      go flat e (i, l, h, (inl q, a, b)) = (h, unit_edge→holds bottom_edge i h e q a b)
      go flat e (i, l, h, (inr q, a, b)) = (h, unit_edge→holds top_edge i h e q a b)

  pub segment→held_edge : HeldEdge rooms s
  segment→held_edge =
      let drawn = g.unbroken s.from (le_refl s.from) g.some in
      let (h, held) = edge_at_start_held drawn in
      let (side, room) = edge_at rooms s.direction s.line s.from drawn in
      record { side = side; room = room; room< = h; holds = held }

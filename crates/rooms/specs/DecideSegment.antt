-- Whether a stretch is a segment, whether it holds an edge, whether one segment holds two edges, and whether one room is left of
-- another, right of it, below it or above it are decided, on any room list.
use Rattle.std.specs.Prelude.{◌≡◌, refl, ◌⊎◌, List, ℕ, zero, suc, ◌-◌, ◌≤◌, ◌<◌, max, length}
use Rattle.std.proofs.Common.{sym, ◌∙◌, subst, zero-le, arith}
use Rattle.std.proofs.Math.Decide.{dec_le, dec_lt, ℕ_discrete}
use Rattle.finite.specs.Decide.{dec-×, dec-×₃, dec-⊎, dec-¬, dec_iff}
use Rattle.finite.specs.Search.{Some, dec_some}
use Rattle.finite.specs.First.{dec_each}
use Rattle.drawing.specs.declared.Room.{Room}
use Rattle.finite.specs.Extremes.{greatest, greatest_ge}
use Rattle.rooms.specs.Outline.{room_in}
use Rattle.rooms.specs.Segment.{Direction, upright, flat, Stretch, Drawn, Segment, Side, left_edge, right_edge, bottom_edge, top_edge, edge, Holds}
use Rattle.rooms.specs.Orders.{OneSegment, Chain, LeftOf, BelowOf, AboveOf}
use Rattle.rooms.specs.Chain.{dec_chain}

-- every drawn unit edge lies before this
unfoldable pub limit : List Room → ℕ
unfolding greatest
limit rooms = max (greatest (λ i. (room_in rooms i).right) (length rooms)) (greatest (λ i. (room_in rooms i).top) (length rooms))

pub drawn→before_limit : (rooms : List Room) (direction : Direction) (line z : ℕ) → Drawn rooms direction line z → z < limit rooms
unfolding limit
drawn→before_limit rooms upright line z (i, l, h, o) = omega (arith, o, greatest_ge (λ j. (room_in rooms j).top) (length rooms) i h)
drawn→before_limit rooms flat line z (i, l, h, o) = omega (arith, o, greatest_ge (λ j. (room_in rooms j).right) (length rooms) i h)

unfoldable dec_on : (a b from to line z : ℕ) → Dec (((a ≡ line) ⊎ (b ≡ line)) × (from ≤ z) × (z < to))
unfolding dec-×₃ dec-⊎ dec_le dec_lt ℕ_discrete
dec_on a b from to line z = dec-×₃ (dec-⊎ (ℕ_discrete a line) (ℕ_discrete b line)) (dec_le from z) (dec_lt z to)

unfoldable pub dec_drawn : (rooms : List Room) (direction : Direction) (line z : ℕ) → Dec (Drawn rooms direction line z)
unfolding dec_some dec_on
dec_drawn rooms upright line z =
    dec_some _ (λ i. dec_on (room_in rooms i).left (room_in rooms i).right (room_in rooms i).bottom (room_in rooms i).top line z) 0 (length rooms)
dec_drawn rooms flat line z =
    dec_some _ (λ i. dec_on (room_in rooms i).bottom (room_in rooms i).top (room_in rooms i).left (room_in rooms i).right line z) 0 (length rooms)

-- where a stretch starts, only the unit edge just before its start is asked for
unfoldable dec_starts : (rooms : List Room) (direction : Direction) (line from : ℕ) → Dec ((z : ℕ) → suc z ≡ from
    → ¬ Drawn rooms direction line z)
unfolding dec-¬ dec_iff dec_drawn
dec_starts rooms direction line zero = yes (λ z e. omega arith)
dec_starts rooms direction line (suc z) = dec_iff (λ h w e. subst (λ (v : ℕ). ¬ Drawn rooms direction line v) (omega arith) h) (λ h. h z refl) (dec-¬ (dec_drawn rooms direction line z))

unfoldable pub dec_segment : (rooms : List Room) (s : Stretch) → Dec (Segment rooms s)
unfolding dec-× dec_iff dec-¬ dec_each dec_lt dec_drawn dec_starts
dec_segment rooms s = dec_iff
    (λ h. record { some = h.0.0; unbroken = h.0.1; ends = h.1.0; starts = h.1.1 })
    (λ h. ((h.some, h.unbroken), (h.ends, h.starts)))
    (dec-× (dec-× (dec_lt s.from s.to) (dec_each _ (dec_drawn rooms s.direction s.line) s.from s.to))
    (dec-× (dec-¬ (dec_drawn rooms s.direction s.line s.to)) (dec_starts rooms s.direction s.line s.from)))

pub upright_is_not_flat : ¬ (upright ≡ flat)
upright_is_not_flat e = let z : ◌≡◌ {A = ℕ} 0 1 = cc in omega arith

unfoldable dec_direction : (d e : Direction) → Dec (d ≡ e)
dec_direction upright upright = yes refl
dec_direction flat flat = yes refl
dec_direction upright flat = no upright_is_not_flat
dec_direction flat upright = no (λ e. upright_is_not_flat (sym e))

unfoldable pub dec_holds : (s e : Stretch) → Dec (Holds s e)
unfolding dec-× dec_iff dec_le ℕ_discrete dec_direction
dec_holds s e = dec_iff
    (λ h. record { direction = h.0.0; line = h.0.1; from = h.1.0; to = h.1.1 })
    (λ h. ((h.direction, h.line), (h.from, h.to)))
    (dec-× (dec-× (dec_direction s.direction e.direction) (ℕ_discrete s.line e.line)) (dec-× (dec_le s.from e.from) (dec_le e.to s.to)))

-- ---- one segment of a kind for two edges: it lies on their line, and ends within the limit
abbrev pub HoldsBoth : (P : Stretch → Type 0) (e f : Stretch) → Type 0
HoldsBoth P e f = (s : Stretch) × P s × Holds s e × Holds s f

module _ (rooms : List Room) (P : Stretch → Type 0) (is-segment : (s : Stretch) → P s → Segment rooms s) (d : (s : Stretch) → Dec (P s))
    (e f : Stretch) where
  abbrev between : ℕ → ℕ → Stretch
  between x y = record { direction = e.direction; line = e.line; from = x; to = y }

  abbrev BothBetween : ℕ → ℕ → Type 0
  BothBetween x y = Holds (between x y) e × Holds (between x y) f × P (between x y)

  abbrev SomeWithinLimit : Type 0
  SomeWithinLimit = Some (λ x. Some (BothBetween x) 0 (suc (limit rooms))) 0 (limit rooms)

  pub found_within_limit : HoldsBoth P e f → SomeWithinLimit
  found_within_limit (s, p, h, k) = (
    s.from,
    zero-le,
    omega (arith, (is-segment s p).some, end),
    (
      s.to,
      zero-le,
      omega (arith, end),
      (subst (λ (t : Stretch). Holds t e) same h, subst (λ (t : Stretch). Holds t f) same k, subst P same p),
    ),
  )
    where
      same : s ≡ between s.from s.to
      same = λ i. record { direction = h.direction i; line = h.line i; from = s.from; to = s.to }

      end : s.to - 1 < limit rooms
      end = let g = is-segment s p in
          drawn→before_limit rooms s.direction s.line (s.to - 1) (g.unbroken (s.to - 1) (omega (arith, g.some)) (omega (arith, g.some)))

  -- edges on two lines are not on one segment, and else the limit bounds the search
  unfoldable pub dec_holds_both : Dec (HoldsBoth P e f)
  unfolding dec-× dec-×₃ dec_iff dec_some ℕ_discrete dec_holds limit
  dec_holds_both = dec_iff
      (λ (line, (x, l, u, (y, m, v, (first, second, p)))). (between x y, p, first, second))
      (λ both. let (s, p, h, k) = both in (sym h.line ∙ k.line, found_within_limit both))
      (dec-× (ℕ_discrete e.line f.line) (dec_some _ (λ x. dec_some (BothBetween x)
      (λ y. dec-×₃ (dec_holds (between x y) e) (dec_holds (between x y) f) (d (between x y))) 0 (suc (limit rooms))) 0 (limit rooms)))

unfoldable pub dec_one_segment : (rooms : List Room) (of_a of_b : Side) (a b : ℕ) → Dec (OneSegment rooms of_a of_b a b)
unfolding dec-×₃ dec_iff dec_lt dec_segment dec_holds_both
dec_one_segment rooms of_a of_b a b = dec_iff
    (λ (ha, hb, (s, g, first, second)). record { a< = ha; b< = hb; by = s; segment = g; holds_a = first; holds_b = second })
    (λ h. (h.a<, h.b<, (h.by, h.segment, h.holds_a, h.holds_b)))
    (dec-×₃ (dec_lt a (length rooms)) (dec_lt b (length rooms))
    (dec_holds_both rooms (Segment rooms) (λ s g. g) (dec_segment rooms) (edge of_a (room_in rooms a)) (edge of_b (room_in rooms b))))

-- ---- the relations
unfoldable pub dec_segment_chain : (rooms : List Room) (of_a of_b : Side) (a b : ℕ) → Dec (Chain (OneSegment rooms of_a of_b) a b)
unfolding dec_chain dec_one_segment
dec_segment_chain rooms of_a of_b a b = dec_chain (OneSegment rooms of_a of_b) (dec_one_segment rooms of_a of_b) (length rooms) (λ x y d. d.a<) a b

abbrev pub dec_left : (rooms : List Room) (a b : ℕ) → Dec (LeftOf rooms a b)
dec_left rooms = dec_segment_chain rooms right_edge left_edge

abbrev pub dec_below : (rooms : List Room) (a b : ℕ) → Dec (BelowOf rooms a b)
dec_below rooms = dec_segment_chain rooms top_edge bottom_edge

abbrev pub dec_above : (rooms : List Room) (a b : ℕ) → Dec (AboveOf rooms a b)
dec_above rooms = dec_segment_chain rooms bottom_edge top_edge

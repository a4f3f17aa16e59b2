-- The relations of a room list are those of its plan: one segment holds two edges exactly if a line drawn without a break has them on it.
use Rattle.std.specs.Prelude.{refl, List, ℕ, min, max}
use Rattle.std.proofs.Common.{sym, ◌∙◌, subst₂, arith}
use Rattle.finite.specs.Search.{Each}
use Rattle.drawing.specs.declared.Room.{Room}
use Rattle.rooms.specs.Outline.{room_in}
use Rattle.rooms.specs.Segment.{Direction, upright, flat, Drawn, Side, left_edge, right_edge, bottom_edge, top_edge, edge}
use Rattle.rooms.specs.Orders.{OneSegment, DirectlyLeft, DirectlyBelow, LeftOf, RightOf, BelowOf, AboveOf}
use Rattle.rooms.specs.Chain.{chain_map, chain_turn}
use Rattle.rooms.specs.Plan.{Floorplan, UprightEdge, swap, LeftStep, BelowStep, Left, Below}
use Rattle.rooms.specs.PlanOf.{plan_of}
use Rattle.rooms.proofs.SegmentOfEdge.{line→one_segment}

module _ (rooms : List Room) where
  -- ---- drawn unit edges
  pub upright→drawn : {line z : ℕ} → UprightEdge (plan_of rooms) line z → Drawn rooms upright line z
  upright→drawn (i, l, h, o) = (i, l, h, (o.side, o.bottom, o.top))

  pub drawn→upright : {line z : ℕ} → Drawn rooms upright line z → UprightEdge (plan_of rooms) line z
  drawn→upright (i, l, h, o) = (i, l, h, record { side = o.0; bottom = o.1; top = o.2 })

  pub flat→drawn : {line z : ℕ} → UprightEdge (swap (plan_of rooms)) line z → Drawn rooms flat line z
  flat→drawn (i, l, h, o) = (i, l, h, (o.side, o.bottom, o.top))

  pub drawn→flat : {line z : ℕ} → Drawn rooms flat line z → UprightEdge (swap (plan_of rooms)) line z
  drawn→flat (i, l, h, o) = (i, l, h, record { side = o.0; bottom = o.1; top = o.2 })

  -- ---- from segments to lines
  one_segment→line : (of_a of_b : Side) (a b : ℕ) → OneSegment rooms of_a of_b a b → let e = edge of_a (room_in rooms a) in let f = edge of_b (room_in rooms b) in
      Each (Drawn rooms f.direction f.line) (min e.from f.from) (max e.to f.to)
  one_segment→line of_a of_b a b d z lo hi =
      subst₂ (λ (x : Direction) (l : ℕ). Drawn rooms x l z) d.holds_b.direction d.holds_b.line (d.segment.unbroken z (omega (arith, d.holds_a, d.holds_b)) (omega (arith, d.holds_a, d.holds_b)))

  pub directly_left→step : (a b : ℕ) → DirectlyLeft rooms a b → LeftStep (plan_of rooms) a b
  directly_left→step a b d =
      record { a< = d.a<; b< = d.b<; meet = sym d.holds_a.line ∙ d.holds_b.line; line = λ y lo hi. drawn→upright (one_segment→line right_edge left_edge a b d y lo hi) }

  pub directly_below→step : (a b : ℕ) → DirectlyBelow rooms a b → BelowStep (plan_of rooms) a b
  directly_below→step a b d =
      record { a< = d.a<; b< = d.b<; meet = sym d.holds_a.line ∙ d.holds_b.line; line = λ y lo hi. drawn→flat (one_segment→line top_edge bottom_edge a b d y lo hi) }

  pub left_of→left : {a b : ℕ} → LeftOf rooms a b → Left (plan_of rooms) a b
  left_of→left r = chain_map (λ x. x) directly_left→step r

  pub below_of→below : {a b : ℕ} → BelowOf rooms a b → Below (plan_of rooms) a b
  below_of→below r = chain_map (λ x. x) directly_below→step r

  -- ---- and back
  module _ (k : Floorplan (plan_of rooms)) where
    pub step→directly_left : (a b : ℕ) → LeftStep (plan_of rooms) a b → DirectlyLeft rooms a b
    step→directly_left a b d = line→one_segment rooms k right_edge left_edge a b d.a< d.b< refl d.meet (λ z lo hi. upright→drawn (d.line z lo hi))

    pub step→directly_below : (a b : ℕ) → BelowStep (plan_of rooms) a b → DirectlyBelow rooms a b
    step→directly_below a b d = line→one_segment rooms k top_edge bottom_edge a b d.a< d.b< refl d.meet (λ z lo hi. flat→drawn (d.line z lo hi))

    pub left→left_of : {a b : ℕ} → Left (plan_of rooms) a b → LeftOf rooms a b
    left→left_of r = chain_map (λ x. x) step→directly_left r

    pub below→below_of : {a b : ℕ} → Below (plan_of rooms) a b → BelowOf rooms a b
    below→below_of r = chain_map (λ x. x) step→directly_below r

  -- ---- right is left seen from the other room, and above is below
  pub one_segment_turned : {of_a of_b : Side} (a b : ℕ) → OneSegment rooms of_a of_b a b → OneSegment rooms of_b of_a b a
  one_segment_turned a b d = record { a< = d.b<; b< = d.a<; by = d.by; segment = d.segment; holds_a = d.holds_b; holds_b = d.holds_a }

  pub right_of→left_of : {a b : ℕ} → RightOf rooms a b → LeftOf rooms b a
  right_of→left_of r = chain_turn one_segment_turned r

  pub left_of→right_of : {a b : ℕ} → LeftOf rooms a b → RightOf rooms b a
  left_of→right_of r = chain_turn one_segment_turned r

  pub above_of→below_of : {a b : ℕ} → AboveOf rooms a b → BelowOf rooms b a
  above_of→below_of r = chain_turn one_segment_turned r

  pub below_of→above_of : {a b : ℕ} → BelowOf rooms a b → AboveOf rooms b a
  below_of→above_of r = chain_turn one_segment_turned r

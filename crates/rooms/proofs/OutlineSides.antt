-- The four sides of the outline are segments: along each an edge is drawn everywhere, and none is drawn past the outline.
use Rattle.std.specs.Prelude.{List, ℕ, ◌≤◌, ◌<◌, length}
use Rattle.std.proofs.Common.{arith}
use Rattle.finite.specs.Search.{Each}
use Rattle.drawing.specs.declared.Room.{Room}
use Rattle.rooms.specs.Outline.{outline}
use Rattle.rooms.specs.Segment.{upright, flat, Drawn, Segment, Side, left_edge, right_edge, bottom_edge, top_edge, edge}
use Rattle.rooms.specs.Plan.{Floorplan, swap, swap_floorplan}
use Rattle.rooms.specs.PlanOf.{plan_of}
use Rattle.rooms.specs.SharedRow.{west_drawn, east_drawn}
use Rattle.rooms.proofs.Steps.{upright→drawn, flat→drawn}

module _ (rooms : List Room) (k : Floorplan (plan_of rooms)) (some : 0 < length rooms) where
  wide : (outline rooms).left < (outline rooms).right
  wide = omega (arith, k.fits 0 some)

  tall : (outline rooms).bottom < (outline rooms).top
  tall = omega (arith, k.fits 0 some)

  upright_inside : {line z : ℕ} → Drawn rooms upright line z → ((outline rooms).bottom ≤ z) × (z < (outline rooms).top)
  upright_inside (i, l, h, o) = omega (arith, o, k.fits i h)

  flat_inside : {line z : ℕ} → Drawn rooms flat line z → ((outline rooms).left ≤ z) × (z < (outline rooms).right)
  flat_inside (i, l, h, o) = omega (arith, o, k.fits i h)

  upright_side : (line : ℕ) → Each (Drawn rooms upright line) (outline rooms).bottom (outline rooms).top → Segment rooms (record { direction = upright; line = line; from = (outline rooms).bottom; to = (outline rooms).top })
  upright_side line drawn = record { some = tall; unbroken = drawn; ends = λ past. omega (arith, upright_inside past); starts = λ z e past. omega (arith, upright_inside past) }

  flat_side : (line : ℕ) → Each (Drawn rooms flat line) (outline rooms).left (outline rooms).right → Segment rooms (record { direction = flat; line = line; from = (outline rooms).left; to = (outline rooms).right })
  flat_side line drawn = record { some = wide; unbroken = drawn; ends = λ past. omega (arith, flat_inside past); starts = λ z e past. omega (arith, flat_inside past) }

  pub outline_side : (side : Side) → Segment rooms (edge side (outline rooms))
  outline_side left_edge = upright_side (outline rooms).left (λ z lo hi. upright→drawn rooms (west_drawn (plan_of rooms) k wide z lo hi))
  outline_side right_edge = upright_side (outline rooms).right (λ z lo hi. upright→drawn rooms (east_drawn (plan_of rooms) k wide z lo hi))
  outline_side bottom_edge = flat_side (outline rooms).bottom (λ z lo hi. flat→drawn rooms (west_drawn (swap (plan_of rooms)) (swap_floorplan k) tall z lo hi))
  outline_side top_edge = flat_side (outline rooms).top (λ z lo hi. flat→drawn rooms (east_drawn (swap (plan_of rooms)) (swap_floorplan k) tall z lo hi))

-- "The outline is 0 to n both ways": so it is for the smallest box round the rooms of the grid drawing.
use Rattle.std.specs.Prelude.{◌≡◌, List, ℕ, ◌-◌, ◌≤◌, ◌<◌, length}
use Rattle.std.proofs.Common.{arith}
use Rattle.drawing.specs.declared.Room.{Room}
use Rattle.drawing.specs.Drawing.{drawing_of}
use Rattle.rooms.specs.Outline.{room_in, outline}
use Rattle.rooms.specs.OutlineLaws.{Within, rooms_within_outline, outline_is_smallest}
use Rattle.rooms.specs.GridFloorplan.{length_drawing}
use Rattle.contacts.specs.GridEdges.{place_drawn}

module _ (labels : List ℕ) where
  abbrev rooms : List Room
  rooms = drawing_of labels

  abbrev n : ℕ
  n = length labels

  pub drawing_outline : 1 ≤ length labels
      → outline (drawing_of labels) ≡ record { left = 0; bottom = 0; right = length labels; top = length labels; name = 0 }
  drawing_outline some =
      let size = length_drawing labels in
      let first : 0 < length rooms = omega arith in
      let last : n - 1 < length rooms = omega arith in
      let lowest = place_drawn labels 0 first in
      let highest = place_drawn labels (n - 1) last in
      let o = outline_is_smallest rooms square first within in
      let w = rooms_within_outline rooms 0 first in
      let v = rooms_within_outline rooms (n - 1) last in
      let left : (outline rooms).left ≡ 0 = omega (arith, lowest.left.past, w) in
      let bottom : (outline rooms).bottom ≡ 0 = omega (arith, lowest.bottom.past, w) in
      let right : (outline rooms).right ≡ n = omega (arith, highest.right.past, o, v) in
      let top : (outline rooms).top ≡ n = omega (arith, highest.top.past, o, v) in
      (λ i. record { left = left i; bottom = bottom i; right = right i; top = top i; name = 0 })
    where
      square : Room
      square = record { left = 0; bottom = 0; right = n; top = n; name = 0 }

      within : (a : ℕ) → a < length rooms → Within square (room_in rooms a)
      within a h = let d = place_drawn labels a h in omega (arith, d.right.within, d.top.within)

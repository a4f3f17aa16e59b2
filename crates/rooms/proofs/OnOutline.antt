-- The sides of the outline are segments, so the segment of an edge on the outline is the outline's side.
use Rattle.std.specs.Prelude.{◌≡◌, refl, List, ℕ, ◌<◌, length}
use Rattle.std.proofs.Common.{sym, arith}
use Rattle.drawing.specs.declared.Room.{Room}
use Rattle.rooms.specs.Outline.{room_in, outline}
use Rattle.rooms.specs.Segment.{Side, left_edge, right_edge, bottom_edge, top_edge, edge, Holds}
use Rattle.rooms.specs.Plan.{Floorplan}
use Rattle.rooms.specs.PlanOf.{plan_of}
use Rattle.rooms.proofs.SegmentOfEdge.{segment_of, segment_only}
use Rattle.rooms.proofs.OutlineSides.{outline_side}

pub on_outline→side : (rooms : List Room) → Floorplan (plan_of rooms) → (side : Side) (i : ℕ) → i < length rooms
    → (edge side (room_in rooms i)).line ≡ (edge side (outline rooms)).line
    → segment_of rooms side i ≡ edge side (outline rooms)
on_outline→side rooms k side i h e = segment_only rooms k side i h (edge side (outline rooms)) (outline_side rooms k (omega arith) side) (held side e)
  where
    held : (side : Side) → (edge side (room_in rooms i)).line ≡ (edge side (outline rooms)).line
        → Holds (edge side (outline rooms)) (edge side (room_in rooms i))
    held left_edge e = record { direction = refl; line = sym e; from = (k.fits i h).south; to = (k.fits i h).north }
    held right_edge e = record { direction = refl; line = sym e; from = (k.fits i h).south; to = (k.fits i h).north }
    held bottom_edge e = record { direction = refl; line = sym e; from = (k.fits i h).west; to = (k.fits i h).east }
    held top_edge e = record { direction = refl; line = sym e; from = (k.fits i h).west; to = (k.fits i h).east }

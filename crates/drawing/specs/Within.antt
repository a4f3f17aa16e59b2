-- Rooms within the outline of a drawing of n rooms, which is 0 to n both ways, and as wide and as tall as a room is. Every room of the
-- drawing is such a room.
use Rattle.std.specs.Prelude.{ℕ, ◌≤◌, ◌<◌}
use Rattle.std.proofs.Common.{arith}
use Rattle.drawing.specs.declared.Room.{Room}
use Rattle.drawing.specs.Drawing.{room_at}
use Rattle.drawing.specs.Squares.{covers_own, room_inside}

pub record Within (n : ℕ) (room : Room) : Type 0 where
  pub wide : room.left < room.right
  pub right_end : room.right ≤ n
  pub tall : room.bottom < room.top
  pub top_end : room.top ≤ n

pub drawn_within : (f : ℕ → ℕ) (n i : ℕ) → 1 ≤ i → i ≤ n → Within n (room_at f n i)
drawn_within f n i from to =
    let own = covers_own f n i from to in
    let inside = room_inside f n i from to in
    omega arith

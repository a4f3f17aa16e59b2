-- The outline is what its definition says: the smallest box round all rooms.
use Rattle.std.specs.Prelude.{List, ℕ, ◌≤◌, ◌<◌, length}
use Rattle.drawing.specs.declared.Room.{Room}
use Rattle.finite.specs.Extremes.{least_le, greatest_ge, least_largest, greatest_smallest}
use Rattle.rooms.specs.Outline.{room_in, outline}

-- the room lies in the box
pub record Within (box room : Room) : Type 0 where
  pub left : box.left ≤ room.left
  pub bottom : box.bottom ≤ room.bottom
  pub right : room.right ≤ box.right
  pub top : room.top ≤ box.top

-- each room lies in the outline
pub rooms_within_outline : (rooms : List Room) (i : ℕ) → i < length rooms → Within (outline rooms) (room_in rooms i)
rooms_within_outline rooms i h = record {
  left = least_le (λ i. (room_in rooms i).left) (length rooms) i h;
  bottom = least_le (λ i. (room_in rooms i).bottom) (length rooms) i h;
  right = greatest_ge (λ i. (room_in rooms i).right) (length rooms) i h;
  top = greatest_ge (λ i. (room_in rooms i).top) (length rooms) i h;
}

-- and the outline lies in each box that all rooms lie in
pub outline_is_smallest : (rooms : List Room) (box : Room) → 0 < length rooms → ((i : ℕ) → i < length rooms
    → Within box (room_in rooms i)) → Within box (outline rooms)
outline_is_smallest rooms box some all = record {
  left = least_largest (λ i. (room_in rooms i).left) (length rooms) box.left some (λ i h. (all i h).left);
  bottom = least_largest (λ i. (room_in rooms i).bottom) (length rooms) box.bottom some (λ i h. (all i h).bottom);
  right = greatest_smallest (λ i. (room_in rooms i).right) (length rooms) box.right (λ i h. (all i h).right);
  top = greatest_smallest (λ i. (room_in rooms i).top) (length rooms) box.top (λ i h. (all i h).top);
}

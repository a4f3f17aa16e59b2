-- Equivalence. "Two floorplans are equivalent if their rooms pair off one to one, and their segments too, so that a segment holds
-- the left edge of a room exactly when its partner holds the left edge of that room's partner, and likewise for right, bottom and
-- top edges. Sizes, shared edges and list order do not count."
use Rattle.std.specs.Prelude.{◌≡◌, ◌↔◌, List, ℕ, ◌<◌, length}
use Rattle.drawing.specs.declared.Room.{Room}
use Rattle.rooms.specs.Outline.{room_in}
use Rattle.rooms.specs.Segment.{Stretch, Segment, Side, edge, Holds}

-- those of A that have P and those of B that have Q pair off one to one
pub record Pairing {A B : Type 0} (P : A → Type 0) (Q : B → Type 0) : Type 0 where
  pub to : A → B
  pub from : B → A
  pub to_has : (x : A) → P x → Q (to x)
  pub from_has : (y : B) → Q y → P (from y)
  pub from_to : (x : A) → P x → from (to x) ≡ x
  pub to_from : (y : B) → Q y → to (from y) ≡ y

pub record Equivalent (rooms others : List Room) : Type 0 where
  pub pair_rooms : Pairing (λ (i : ℕ). i < length rooms) (λ (i : ℕ). i < length others)
  pub pair_segments : Pairing (Segment rooms) (Segment others)
  pub holds : (s : Stretch) → Segment rooms s → (i : ℕ) → i < length rooms → (side : Side)
      → Holds s (edge side (room_in rooms i)) ↔ Holds (pair_segments.to s) (edge side (room_in others (pair_rooms.to i)))

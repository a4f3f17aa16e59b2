-- Lines that two rooms of a grid drawing share. The outline is 0 to n both ways, so the lines within it, across or up, are 1 to n - 1.
-- What the code asks of two rooms; that it tells whether they touch, and whether their relation is direct, are theorems on the drawing's
-- segments.
use Rattle.std.specs.Prelude.{◌≡◌, ◌⊎◌, ℕ, ◌≤◌, ◌<◌}
use Rattle.drawing.specs.declared.Room.{Room}

-- x is one of the lines 1 to n - 1, and it is the line c or the line d
abbrev pub InnerLineOf : (n c d x : ℕ) → Type 0
InnerLineOf n c d x = (1 ≤ x) × (x < n) × ((x ≡ c) ⊎ (x ≡ d))

-- an inner line has the left or the right edge of each room on it, or the bottom or the top edge of each
abbrev pub ShareInnerLine : (n : ℕ) → Room → Room → Type 0
ShareInnerLine n r s =
    (InnerLineOf n s.left s.right r.left ⊎ InnerLineOf n s.left s.right r.right)
    ⊎ (InnerLineOf n s.bottom s.top r.bottom ⊎ InnerLineOf n s.bottom s.top r.top)

-- one room ends where the other starts: the edges that face each other lie on one line
abbrev pub FaceOnOneLine : Room → Room → Type 0
FaceOnOneLine r s =
    ((r.left ≡ s.right) ⊎ (r.right ≡ s.left)) ⊎ ((r.bottom ≡ s.top) ⊎ (r.top ≡ s.bottom))

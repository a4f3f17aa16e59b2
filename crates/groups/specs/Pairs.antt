-- The rooms of two groups, pair by pair: whether some room of the first stands before one of the second, across or upward.
use Rattle.std.specs.Prelude.{List, ℕ, ◌<◌}
use Rattle.drawing.specs.declared.Side.{Side}
use Rattle.drawing.specs.declared.Side.TheVariants.{Left, Below}
use Rattle.sizes.specs.Direction.{Direction, across, upward, Before}
use Rattle.groups.specs.Group.{EachIn, SomeIn}

-- some room of the first stands so to some room of the second
abbrev pub SomePair : (first second : List ℕ) (Stands : (i j : ℕ) → Type 0) → Type 0
SomePair first second Stands = SomeIn first (λ i. SomeIn second (Stands i))

-- some room of the first stands before some room of the second
abbrev pub SomeBefore : (f : ℕ → ℕ) → Direction → (first second : List ℕ) → Type 0
SomeBefore f way first second = SomePair first second (Before f way)

-- each position of the first group comes before each of the second
abbrev pub Ahead : (first second : List ℕ) → Type 0
Ahead first second = EachIn first (λ i. EachIn second (λ j. i < j))

-- ---- directions and sides
-- the side on which a room stands of those that it stands before
abbrev pub side_before : Direction → Side
side_before across = Left
side_before upward = Below

-- the other direction
abbrev pub other_way : Direction → Direction
other_way across = upward
other_way upward = across

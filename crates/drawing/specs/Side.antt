-- On which side of another room a room stands. "For positions i < j, room i is left of j if its label is smaller, else below j."
use Rattle.std.proofs.Math.Logic.{ite}
use Rattle.std.specs.Prelude.{ℕ}
use Rattle.std.proofs.Math.Decide.{dec_lt}
use Rattle.drawing.specs.declared.Side.{Side}
use Rattle.drawing.specs.declared.Side.TheVariants.{Left, Right, Above, Below}

-- the side of the room at position j on which the room at position i stands, two different positions, where f is the label at a
-- position: where i is the later one, j is left of i or below it, so i is right of j or above it
unfoldable pub side_of : (ℕ → ℕ) → (i j : ℕ) → Side
unfolding dec_lt
side_of f i j = ite (dec_lt i j) (ite (dec_lt (f i) (f j)) Left Below) (ite (dec_lt (f j) (f i)) Right Above)

-- the opposite side: where the first room stands on a side of the second, the second stands on this side of the first
abbrev pub converse : Side → Side
converse Left = Right
converse Right = Left
converse Above = Below
converse Below = Above

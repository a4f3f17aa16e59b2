-- The two directions of a plan. "For positions i < j, room i is left of j if its label is smaller, else below j." Across, a room stands
-- before those that it is left of, and upward before those that it is below: what is said of one direction is said of both.
use Rattle.std.specs.Prelude.{ℕ, ◌<◌}
use Rattle.std.proofs.Math.Decide.{dec_lt}
use Rattle.finite.specs.Decide.{dec-×}

pub data Direction : Type 0 where
  across upward : Direction

-- the room at position i stands before that at position j; f is the label at a position
abbrev pub Before : (ℕ → ℕ) → Direction → (i j : ℕ) → Type 0
Before f across i j = (i < j) × (f i < f j)
Before f upward i j = (i < j) × (f j < f i)

unfoldable pub dec_before : (f : ℕ → ℕ) (way : Direction) (i j : ℕ) → Dec (Before f way i j)
unfolding dec-× dec_lt
dec_before f across i j = dec-× (dec_lt i j) (dec_lt (f i) (f j))
dec_before f upward i j = dec-× (dec_lt i j) (dec_lt (f j) (f i))

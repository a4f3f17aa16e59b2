-- Cuts. "For positions i < j, room i is left of j if its label is smaller, else below j." So a vertical line parts earlier positions
-- from later ones where each earlier label is smaller than each later one, and a horizontal line where it is larger.
use Rattle.std.specs.Prelude.{ℕ, ◌<◌}
use Rattle.std.proofs.Math.Decide.{dec_lt}
use Rattle.finite.specs.Search.{Each}
use Rattle.finite.specs.First.{dec_each}
use Rattle.slicing.specs.declared.Cut.{Cut}
use Rattle.slicing.specs.declared.Cut.TheVariants.{Vertical, Horizontal}

-- the lines of the next level
abbrev pub opposite : Cut → Cut
opposite Vertical = Horizontal
opposite Horizontal = Vertical

-- a line of a cut stands before position m and parts the rooms at s to m - 1 from those at m to e - 1: each room before it and each
-- room after it stand to each other as R says of the cut, of m and of their positions
abbrev pub Parted : (Cut → (m i j : ℕ) → Type 0) → Cut → (s m e : ℕ) → Type 0
Parted R cut s m e = Each (λ i. Each (λ j. R cut m i j) m e) s m

-- the room with the one label stands before a later one with the other: left of it, or below it
abbrev pub Before : Cut → (one other : ℕ) → Type 0
Before Vertical one other = one < other
Before Horizontal one other = other < one

-- so do the rooms at positions i and j, where f is the label at a position
abbrev pub InOrder : (ℕ → ℕ) → Cut → (m i j : ℕ) → Type 0
InOrder f cut m i j = Before cut (f i) (f j)

abbrev pub Parts : (ℕ → ℕ) → Cut → (s m e : ℕ) → Type 0
Parts f cut s m e = Parted (InOrder f) cut s m e

unfoldable pub dec_before : (cut : Cut) (one other : ℕ) → Dec (Before cut one other)
unfolding dec_lt
dec_before Vertical one other = dec_lt one other
dec_before Horizontal one other = dec_lt other one

unfoldable pub dec_parts : (f : ℕ → ℕ) (cut : Cut) (s m e : ℕ) → Dec (Parts f cut s m e)
unfolding dec_each dec_before
dec_parts f cut s m e = dec_each _ (λ i. dec_each _ (λ j. dec_before cut (f i) (f j)) m e) s m

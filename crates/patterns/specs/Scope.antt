-- The first pattern in a part of the fours: in those of one condition that start at a position, in all that start there. How the first in
-- a part is the first in a larger one.
use Rattle.std.specs.Prelude.{Bool, ◌≡◌, ℕ, ◌<◌}
use Rattle.patterns.specs.Pattern.{Four, PatternAt, Before}
use Rattle.patterns.specs.Sides.{condition_of}
use Rattle.patterns.specs.declared.Condition.{Condition}

-- the first pattern in a part
pub record FirstIn (f : ℕ → ℕ) (n : ℕ) (Part : Condition → Four → Type 0) (which : Condition) (p : Four) : Type 0 where
  pub within : Part which p
  pub pattern : PatternAt f n which p
  pub first : (other : Condition) (q : Four) → Part other q → PatternAt f n other q → ¬ Before q p

-- a part without a pattern
abbrev pub NoneIn : (f : ℕ → ℕ) (n : ℕ) (Part : Condition → Four → Type 0) → Type 0
NoneIn f n Part = (which : Condition) (p : Four) → Part which p → ¬ PatternAt f n which p

-- the parts: the fours of one condition that start at position i, all that start there, all that start earlier
abbrev pub StartsBy : (i : ℕ) (above : Bool) → Condition → Four → Type 0
StartsBy i above which p = (which ≡ condition_of above) × (p.i ≡ i)

abbrev pub StartsAt : (i : ℕ) → Condition → Four → Type 0
StartsAt i which p = p.i ≡ i

abbrev pub StartsBefore : (i : ℕ) → Condition → Four → Type 0
StartsBefore i which p = p.i < i

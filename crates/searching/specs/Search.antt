-- What the functions of the search answer.
use Rattle.std.specs.Prelude.{Option, Some, None, Bool, ℕ, ◌<◌}
use Rattle.finite.specs.First.{FirstOrEnd}
use Rattle.finite.specs.Search.{Each}
use Rattle.patterns.specs.Pattern.{FirstPattern}
use Rattle.patterns.specs.Answer.{four_of}
use Rattle.patterns.specs.Sides.{condition_of}
use Rattle.patterns.specs.Scope.{FirstIn, NoneIn, StartsAt, StartsBefore}
use Rattle.patterns.specs.declared.Pattern.{Pattern}

-- the first number of a range that has a property, or that none has
abbrev pub FirstBetween : (P : ℕ → Type 0) (from to : ℕ) → Option ℕ → Type 0
FirstBetween P from to (Some at) = FirstOrEnd P from to at × (at < to)
FirstBetween P from to None = Each (λ at. ¬ P at) from to

-- of a position i: the first pattern that starts there, or that none does
abbrev pub Completes : (f : ℕ → ℕ) (n i : ℕ) → Option Pattern → Type 0
Completes f n i (Some p) = FirstIn f n (StartsAt i) p.condition (four_of p)
Completes f n i None = NoneIn f n (StartsAt i)

-- of the positions before one: the first pattern, or that none starts there
abbrev pub SearchedTo : (f : ℕ → ℕ) (n to : ℕ) → Option Pattern → Type 0
SearchedTo f n to (Some p) = FirstPattern f n p.condition (four_of p)
SearchedTo f n to None = NoneIn f n (StartsBefore to)

-- the pattern at four positions, by the side on which the last label lies
abbrev pub pattern_at : (above : Bool) (i j k l : ℕ) → Pattern
pattern_at above i j k l =
    record { condition = condition_of above; i = record { 0 = i }; j = record { 0 = j }; k = record { 0 = k }; l = record { 0 = l } }

-- Label lists and what is answered for them, computed from the definitions.
use Rattle.std.specs.Prelude.{Result, Ok, Err, Option, None, ◌≡◌, refl, List, [], ◌∷◌, ℕ}
use Rattle.record.specs.Causes.{dec_count, dec_outside, dec_twice, dec_barred}
use Rattle.record.specs.declared.Refusal.TheVariants.{Count, LabelOutside, LabelTwice}
use Rattle.patterns.specs.FirstOne.{first_four}
use Rattle.patterns.specs.Answer.{named, pattern_answer}
use Rattle.patterns.specs.declared.Condition.{Condition}
use Rattle.patterns.specs.declared.Condition.TheVariants.{First, Second}
use Rattle.patterns.specs.declared.Pattern.{Pattern}
use Rattle.record.specs.declared.Refusal.{Refusal}

-- a list and its answer
pub record Plan : Type 0 where
  pub labels : List ℕ
  pub answer : Result (Option Pattern) Refusal

abbrev names : Condition → (i j k l : ℕ) → Result (Option Pattern) Refusal
names which i j k l = named which (record { i = i; j = j; k = k; l = l })

-- the two smallest; both conditions at one i, the second with the smaller j, and the first; both conditions, each with the smaller i;
-- a pattern at the very end; none; and 1, 6, 7, 6 before 7
abbrev pub plans : List Plan
plans =
    record { labels = 2 ∷ 4 ∷ 1 ∷ 3 ∷ []; answer = names First 1 2 3 4 }
    ∷ record { labels = 3 ∷ 1 ∷ 4 ∷ 2 ∷ []; answer = names Second 1 2 3 4 }
    ∷ record { labels = 3 ∷ 1 ∷ 5 ∷ 2 ∷ 4 ∷ []; answer = names Second 1 2 3 4 }
    ∷ record { labels = 3 ∷ 5 ∷ 1 ∷ 4 ∷ 2 ∷ []; answer = names First 1 2 3 4 }
    ∷ record { labels = 1 ∷ 4 ∷ 6 ∷ 2 ∷ 5 ∷ 3 ∷ 7 ∷ []; answer = names First 2 3 4 5 }
    ∷ record { labels = 1 ∷ 2 ∷ 4 ∷ 6 ∷ 3 ∷ 5 ∷ []; answer = names First 3 4 5 6 }
    ∷ record { labels = 4 ∷ 1 ∷ 3 ∷ 5 ∷ 2 ∷ []; answer = Ok None }
    ∷ record { labels = []; answer = Err Count }
    ∷ record { labels = 0 ∷ 0 ∷ []; answer = Err LabelOutside }
    ∷ record { labels = 1 ∷ 1 ∷ []; answer = Err LabelTwice }
    ∷ []

abbrev answers : List Plan → List (Result (Option Pattern) Refusal)
answers [] = []
answers (p ∷ ps) = pattern_answer p.labels ∷ answers ps

abbrev expected : List Plan → List (Result (Option Pattern) Refusal)
expected [] = []
expected (p ∷ ps) = p.answer ∷ expected ps

-- each list is answered so
pub worked_patterns : answers plans ≡ expected plans
unfolding first_four dec_count dec_outside dec_twice dec_barred
worked_patterns = refl

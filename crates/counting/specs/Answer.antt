-- What the two calls answer. "For n from 1 to 17 report, for each number of rises from 0 to n − 1, how many accepted records of n rooms
-- have it, and the total. Answers: 30 for n of 0 or above 17, the only check."
use Rattle.std.specs.Prelude.{List, ◌⊎◌, ◌≡◌, ℕ, ◌<◌, Result, Ok, Err}
use Rattle.std.proofs.Math.Logic.{ite}
use Rattle.std.proofs.Math.Decide.{dec_lt, ℕ_discrete}
use Rattle.finite.specs.Decide.{dec-⊎}
use Rattle.finite.specs.HowMany.{HowMany}
use Rattle.record.specs.declared.Refusal.{Refusal}
use Rattle.record.specs.declared.Refusal.TheVariants as refusal
use Rattle.counting.specs.Counted.{AcceptedRecord, AcceptedWithRises}

-- the figure that was asked for, or why there is none
abbrev pub CountAnswer : Type 0
CountAnswer = Result ℕ Refusal

-- "n of 0 or above 17"
abbrev pub NotCounted : ℕ → Type 0
NotCounted n = (n ≡ 0) ⊎ (17 < n)

unfoldable pub dec_not_counted : (n : ℕ) → Dec (NotCounted n)
unfolding dec-⊎ ℕ_discrete dec_lt
dec_not_counted n = dec-⊎ (ℕ_discrete n 0) (dec_lt 17 n)

-- the answer for n rooms where this is the figure
abbrev pub count_answer : (n figure : ℕ) → CountAnswer
count_answer n figure = ite (dec_not_counted n) (Err refusal.NotCounted) (Ok figure)

-- an answer for n rooms that reports how many records have P
pub record Reports (n : ℕ) (P : List ℕ → Type 0) (answer : CountAnswer) : Type 0 where
  pub figure : ℕ
  pub how_many : HowMany P figure
  pub answered : answer ≡ count_answer n figure

-- "for each number of rises .. how many accepted records of n rooms have it"
abbrev pub PlanCount : (n rises : ℕ) → CountAnswer → Type 0
PlanCount n rises = Reports n (AcceptedWithRises n rises)

-- "and the total"
abbrev pub PlanTotal : (n : ℕ) → CountAnswer → Type 0
PlanTotal n = Reports n (AcceptedRecord n)

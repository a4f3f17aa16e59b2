-- How large a figure can be: for up to 17 rooms it fits 64 bits with a sign.
use Rattle.std.specs.Prelude.{List, ℕ, zero, suc, ◌^◌, ◌≤◌, Ok, Err}
use Rattle.std.proofs.Math.Logic.{ite}
use Rattle.std.proofs.Common.{sym, subst, arith}
use Rattle.finite.specs.HowMany.{HowMany, one_number}
use Rattle.record.specs.declared.Refusal.TheVariants as refusal
use Rattle.counting.specs.Answer.{CountAnswer, NotCounted, dec_not_counted, Reports, PlanCount, PlanTotal}
use Rattle.counting.specs.Ways.{plan_count, plan_total}
use Rattle.counting.proofs.Figures.{count_how_many, total_how_many}
use Rattle.counting.proofs.Reported.{counted_rooms}
use Rattle.counting.proofs.AllWays.{total_all_ways}
use Rattle.counting.proofs.Begun.{ways_small, all_ways_small}
use Rattle.counting.specs.Sizes.{CountFits}

fits : (n : ℕ) {P : List ℕ → Type 0} {answer : CountAnswer} → ((figure : ℕ) → 1 ≤ n → n ≤ 17 → HowMany P figure → figure ≤ 2 ^ 48)
    → Reports n P answer → CountFits answer
fits n {P} small r = subst CountFits (sym r.answered) (go (dec_not_counted n))
  where
    go : (d : Dec (NotCounted n)) → CountFits (ite d (Err refusal.NotCounted) (Ok r.figure))
    go (yes h) = tt
    go (no h) =
        let (some, few) = counted_rooms n h in
        omega (arith, small r.figure some few r.how_many)

count_small : (n r : ℕ) → n ≤ 17 → plan_count n r ≤ 2 ^ 48
unfolding plan_count
count_small zero r few = omega arith
count_small (suc k) r few = ways_small k 0 0 r (omega arith)

total_small : (n : ℕ) → 1 ≤ n → n ≤ 17 → plan_total n ≤ 2 ^ 48
total_small zero some few = absurd (omega arith)
total_small (suc k) some few = omega (arith, total_all_ways k, all_ways_small k 0 0 (omega arith))

pub m112_count_fits : (n rises : ℕ) {answer : CountAnswer} → PlanCount n rises answer → CountFits answer
m112_count_fits n rises = fits n (λ figure some few h. omega (arith, one_number h (count_how_many n rises (omega arith)), count_small n rises few))

pub m112_total_fits : (n : ℕ) {answer : CountAnswer} → PlanTotal n answer → CountFits answer
m112_total_fits n = fits n (λ figure some few h. omega (arith, one_number h (total_how_many n (omega arith)), total_small n some few))

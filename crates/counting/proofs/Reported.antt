-- What an answer says: 30 for a number of rooms that is not counted, and else the recursion's figure.
use Rattle.std.specs.Prelude.{◌≢◌, ◌≡◌, ℕ, ◌≤◌, ◌<◌, Ok, Err}
use Rattle.std.proofs.Common.{inl, inr, sym, ap, ◌∙◌, arith}
use Rattle.std.proofs.Math.Logic.{if_pos, if_neg}
use Rattle.finite.specs.HowMany.{one_number}
use Rattle.record.specs.declared.Refusal.{Refusal}
use Rattle.record.specs.declared.Refusal.TheVariants as refusal
use Rattle.counting.specs.Answer.{CountAnswer, NotCounted, dec_not_counted, count_answer, PlanCount, PlanTotal}
use Rattle.counting.specs.Ways.{plan_count, plan_total}
use Rattle.counting.proofs.Figures.{count_how_many, total_how_many}

pub counted_rooms : (n : ℕ) → ¬ NotCounted n → (1 ≤ n) × (n ≤ 17)
counted_rooms n h =
    let some : n ≢ 0 = λ e. h (inl e) in
    let few : ¬ (17 < n) = λ l. h (inr l) in
    (omega arith, omega arith)

module _ (n figure : ℕ) where
  pub outside : NotCounted n → Err refusal.NotCounted ≡ count_answer n figure
  outside h = sym (if_pos (dec_not_counted n) h _ _)

  pub inside : 1 ≤ n → n ≤ 17 → Ok figure ≡ count_answer n figure
  inside some few = sym (if_neg (dec_not_counted n) counted _ _)
    where
      counted : ¬ NotCounted n
      counted (inl z) = omega arith
      counted (inr z) = omega arith

pub count_reported : (n rises : ℕ) → n ≤ 255 → {answer : CountAnswer} → answer ≡ count_answer n (plan_count n rises) → PlanCount n rises answer
count_reported n rises few e = record { figure = plan_count n rises; how_many = count_how_many n rises few; answered = e }

pub total_reported : (n : ℕ) → n ≤ 255 → {answer : CountAnswer} → answer ≡ count_answer n (plan_total n) → PlanTotal n answer
total_reported n few e = record { figure = plan_total n; how_many = total_how_many n few; answered = e }

-- ---- the other way: there is one such answer
module _ (n rises : ℕ) (some : 1 ≤ n) (few : n ≤ 17) {answer : CountAnswer} (reports : PlanCount n rises answer) where
  count_told : answer ≡ Ok (plan_count n rises)
  count_told = reports.answered ∙ sym (inside n reports.figure some few) ∙ ap Ok (one_number reports.how_many (count_how_many n rises (omega arith)))

  pub count_is : {c : ℕ} → answer ≡ Ok c → c ≡ plan_count n rises
  count_is {c} e = ap figure_of (sym e ∙ count_told)
    where
      figure_of : CountAnswer → ℕ
      figure_of (Ok figure) = figure
      figure_of (Err refusal) = 0

  pub not_refused : {refusal : Refusal} → answer ≡ Err refusal → ⊥
  not_refused e = let told = count_told in cc

-- The counts and the totals by the formulas, for 1 to 17 rooms: one computed test over all numbers of rooms and of rises.
use Rattle.std.proofs.Common.{inl, inr, sym, ap, subst, ◌∙◌, mul_comm, mul-zero, zero-mul, mul-pos, mul-div_cancel, arith, eqb→eq}
use Rattle.std.specs.Prelude.{◌≡◌, refl, ℕ, zero, suc, ◌+◌, ◌*◌, ◌/◌, ◌≤◌, ◌<◌, eqb, get_or}
use Rattle.finite.specs.Decide.{le_or_lt}
use Rattle.finite.specs.Every.{every, every_at}
use Rattle.finite.specs.Sum.{sum, sum_same}
use Rattle.finite.specs.SumBelow.{sum_times}
use Rattle.counting.specs.Ways.{plan_count, plan_total}
use Rattle.counting.proofs.Begun.{too_few_falls}
use Rattle.baxter.specs.Formula.{choose, product, divisor, CountByFormula, BaxterNumber, totals}
use Rattle.baxter.specs.Rows.{row, row_at}

computed : (k r : ℕ) → k < 17 → r < suc k → CountByFormula (suc k) r (get_or (row k 0 0) r 0)
unfolding row product divisor
computed k r h l = eqb→eq _ _ (every_at (suc k) (λ r. eqb (get_or (row k 0 0) r 0 * divisor (suc k)) (product (suc k) r))
    (every_at 17 (λ k. every (suc k) λ r. eqb (get_or (row k 0 0) r 0 * divisor (suc k)) (product (suc k) r)) tt k h) r l)

-- ---- as many rises as rooms: both sides are 0
choose_none : (n k : ℕ) → n < k → choose n k ≡ 0
unfolding choose
choose_none n zero h = absurd (omega arith)
choose_none zero (suc k) h = refl
choose_none (suc n) (suc k) h = omega (arith, choose_none n k (omega arith), choose_none n (suc k) (omega arith))

product_none : (n r : ℕ) → n ≤ r → product n r ≡ 0
unfolding product
product_none n r h = ap (λ (c : ℕ). choose (n + 1) r * choose (n + 1) (r + 1) * c) (choose_none (n + 1) (r + 2) (omega arith)) ∙ mul-zero _

-- ---- the counts, and their sum
pub count_by_formula : (n r : ℕ) → 1 ≤ n → n ≤ 17 → CountByFormula n r (plan_count n r)
unfolding plan_count
count_by_formula zero r some few = absurd (omega arith)
count_by_formula (suc k) r some few = elim (le_or_lt (suc k) r) [
  | inl h ↦ ap (λ (c : ℕ). c * divisor (suc k)) (too_few_falls k 0 0 r (omega arith)) ∙ zero-mul _ ∙ sym (product_none (suc k) r h)
  | inr h ↦ subst (CountByFormula (suc k) r) (row_at k 0 0 r) (computed k r few h)
]

pub total_baxter : (n : ℕ) → 1 ≤ n → n ≤ 17 → BaxterNumber n (plan_total n)
unfolding plan_total
total_baxter n some few =
    mul_comm _ (divisor n) ∙ sym (sum_times (divisor n) (plan_count n) n)
    ∙ sum_same (λ r. divisor n * plan_count n r) (product n) 0 n (λ r a h. mul_comm (divisor n) _ ∙ count_by_formula n r some few)

-- ---- the division has one result
choose_some : (n k : ℕ) → k ≤ n → 0 < choose n k
unfolding choose
choose_some n zero h = omega arith
choose_some zero (suc k) h = absurd (omega arith)
choose_some (suc n) (suc k) h = omega (arith, choose_some n k (omega arith))

pub divisor_some : (n : ℕ) → 1 ≤ n → 0 < divisor n
unfolding divisor
divisor_some n some = mul-pos (choose_some (n + 1) 1 (omega arith)) (choose_some (n + 1) 2 (omega arith))

one_result : (n a b : ℕ) → 1 ≤ n → a * divisor n ≡ b * divisor n → a ≡ b
one_result n a b some e =
    let positive = divisor_some n some in
    sym (mul-div_cancel a positive) ∙ ap (λ (x : ℕ). x / divisor n) e ∙ mul-div_cancel b positive

-- ---- the totals of the table are Baxter numbers, and so the totals that are counted
totals_computed : (i : ℕ) → i < 17 → BaxterNumber (suc i) (get_or totals i 0)
unfolding divisor product sum
totals_computed i h = eqb→eq _ _ (every_at 17 (λ i. eqb (get_or totals i 0 * divisor (suc i)) (sum (product (suc i)) 0 (suc i))) tt i h)

pub total_in_table : (i : ℕ) → i < 17 → plan_total (suc i) ≡ get_or totals i 0
total_in_table i h = one_result (suc i) _ _ (omega arith) (total_baxter (suc i) (omega arith) (omega arith) ∙ sym (totals_computed i h))

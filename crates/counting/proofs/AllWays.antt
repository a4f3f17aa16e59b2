-- The totals by the same recursion, without the number of rises.
use Rattle.std.specs.Prelude.{Bool, true, false, ◌≡◌}
use Rattle.std.proofs.Math.Path.{refl}
use Rattle.std.proofs.Common.{◌∙◌, arith}
use Prim.Native.Nat.{ℕ, zero, suc, ◌+◌, ◌<◌}
use Rattle.finite.specs.Sum.{sum}
use Rattle.finite.specs.SumBelow.{sum_none, sum_next, sum_add}
use Rattle.record.specs.Triple.{triple}
use Rattle.record.specs.Walk.{Counts, missing, counts, step}
use Rattle.counting.specs.Ways.{over_bit, after_step, after_third, ways, plan_count, plan_total}
use Rattle.counting.specs.AllWays.{all_ways}

-- ---- sums over the numbers of rises
pub sum_zeros : (m : ℕ) → sum (λ r. 0) 0 m ≡ 0
sum_zeros zero = sum_none (λ r. 0)
sum_zeros (suc m) = omega (arith, sum_next (λ r. 0) m, sum_zeros m)

sum_over_bit : (f : Bool → ℕ → ℕ) (m : ℕ) → sum (λ r. over_bit λ b. f b r) 0 m ≡ over_bit λ b. sum (f b) 0 m
sum_over_bit f m = sum_add (f false) (f true) m

sum_rise : (f : ℕ → ℕ) (m : ℕ) → sum (λ r. after_third false r f) 0 (suc m) ≡ sum f 0 m
sum_rise f zero = omega (arith, sum_next (λ r. after_third false r f) 0, sum_none (λ r. after_third false r f), sum_none f)
sum_rise f (suc m) = omega (arith, sum_next (λ r. after_third false r f) (suc m), sum_next f m, sum_rise f m)

over_same : {f g : Bool → ℕ} → ((b : Bool) → f b ≡ g b) → over_bit f ≡ over_bit g
over_same h = λ i. h false i + h true i

-- ---- without the number of rises
none_left : (p q m : ℕ) → sum (ways 0 p q) 0 (suc m) ≡ all_ways 0 p q
none_left p q zero = omega (arith, sum_next (ways 0 p q) 0, sum_none (ways 0 p q), here p q)
  where
    here : (p q : ℕ) → ways 0 p q 0 ≡ all_ways 0 p q
    here zero zero = unfold ways all_ways in refl
    here zero (suc q) = unfold ways all_ways in refl
    here (suc p) q = unfold ways all_ways in refl
none_left p q (suc m) = omega (arith, sum_next (ways 0 p q) (suc m), none_left p q m, no_rise p q)
  where
    no_rise : (p q : ℕ) → ways 0 p q (suc m) ≡ 0
    no_rise zero zero = unfold ways in refl
    no_rise zero (suc q) = unfold ways in refl
    no_rise (suc p) q = unfold ways in refl

module _ (k : ℕ) (rest : (p q m : ℕ) → k < m → sum (ways k p q) 0 m ≡ all_ways k p q) where
  after_step_lem : (c : Counts) (m : ℕ) → k < m → sum (λ r. after_step c λ p q. ways k p q r) 0 m ≡ after_step c λ p q. all_ways k p q
  after_step_lem missing m h = sum_zeros m
  after_step_lem (counts p q) m h = rest p q m h

  one_left : (third : Bool) (c : Counts) (m : ℕ) → suc k < m → sum (λ r. after_third third r λ r. after_step c λ p q. ways k p q r) 0 m ≡ after_step c λ p q. all_ways k p q
  one_left true c m h = after_step_lem c m (omega arith)
  one_left false c zero h = absurd (omega arith)
  one_left false c (suc m) h = sum_rise (λ r. after_step c λ p q. ways k p q r) m ∙ after_step_lem c m (omega arith)

-- k triples have at most k rises, so the sum over the numbers below any m above k is over all
pub all_ways_lem : (k p q m : ℕ) → k < m → sum (ways k p q) 0 m ≡ all_ways k p q
unfolding ways all_ways
all_ways_lem zero p q zero h = absurd (omega arith)
all_ways_lem zero p q (suc m) h = none_left p q m
all_ways_lem (suc k) p q m h =
    sum_over_bit (λ first r. over_bit λ second. over_bit λ third. figure first second third r) m ∙ over_same λ first.
    sum_over_bit (λ second r. over_bit λ third. figure first second third r) m ∙ over_same λ second.
    sum_over_bit (λ third r. figure first second third r) m ∙ over_same λ third.
    one_left k (all_ways_lem k) third (step (triple first second third) p q) m h
  where
    figure : (first second third : Bool) → ℕ → ℕ
    figure first second third r = after_third third r λ r. after_step (step (triple first second third) p q) λ p q. ways k p q r

pub total_all_ways : (k : ℕ) → plan_total (suc k) ≡ all_ways k 0 0
unfolding plan_total plan_count
total_all_ways k = all_ways_lem k 0 0 (suc k) (omega arith)

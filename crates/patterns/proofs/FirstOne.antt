-- The four that are found one position after the other are the first pattern, and a list with a pattern is barred.
use Rattle.std.proofs.Common.{subst, inl, inr, arith}
use Rattle.std.specs.Prelude.{ℕ, suc}
use Rattle.finite.specs.Search.{Some, First}
use Rattle.finite.specs.First.{first_of}
use Rattle.record.specs.Barred.{Barred}
use Rattle.patterns.specs.Pattern.{Meets, Four, PatternAt, Before, FirstPattern}
use Rattle.patterns.specs.FirstOne.{Met, condition_met, With1, With2, With3, With4, dec_with1, dec_with2, dec_with3, dec_with4, barred_with, first_four}
use Rattle.patterns.specs.declared.Condition.{Condition}
use Rattle.patterns.specs.declared.Condition.TheVariants as condition

meets_met : (which : Condition) (a b c d : ℕ) → Meets which a b c d → Met a b c d
meets_met condition.First a b c d m = inl m
meets_met condition.Second a b c d m = inr m

met_meets : (a b c d : ℕ) (m : Met a b c d) → Meets (condition_met a b c d m) a b c d
unfolding condition_met
met_meets a b c d (inl m) = m
met_meets a b c d (inr m) = m

module _ (f : ℕ → ℕ) (n : ℕ) where
  -- the positions of a pattern are such
  with4 : (which : Condition) (p : Four) → PatternAt f n which p → With4 f n p.i p.j p.k p.l
  with4 which p x = meets_met which (f p.i) (f p.j) (f p.k) (f p.l) x.meets

  with3 : (which : Condition) (p : Four) → PatternAt f n which p → With3 f n p.i p.j p.k
  with3 which p x = (p.l, x.order.k<l, omega (arith, x.order), with4 which p x)

  with2 : (which : Condition) (p : Four) → PatternAt f n which p → With2 f n p.i p.j
  with2 which p x = (p.k, x.order.j<k, omega (arith, x.order), with3 which p x)

  with1 : (which : Condition) (p : Four) → PatternAt f n which p → With1 f n p.i
  with1 which p x = (p.j, x.order.i<j, omega (arith, x.order), with2 which p x)

  -- a list with a pattern is barred
  pub pattern_barred : (which : Condition) (p : Four) → PatternAt f n which p → Barred f n
  pattern_barred which p x =
      let o = x.order in
      let start : Some (λ i. With4 f n i p.j p.k p.l) 1 p.j = (p.i, o.start, o.i<j, with4 which p x) in
      (p.l, omega (arith, o), omega (arith, o), (p.k, omega (arith, o), o.k<l, (p.j, omega (arith, o), o.j<k, start)))

  -- no pattern comes before the positions that are found one after the other
  pub none_before : (i : First (With1 f n) 1 (suc n)) (j : First (With2 f n i.at) (suc i.at) (suc n))
      (k : First (With3 f n i.at j.at) (suc j.at) (suc n)) (l : First (With4 f n i.at j.at k.at) (suc k.at) (suc n))
      → (other : Condition) (q : Four) → PatternAt f n other q → ¬ Before q (record { i = i.at; j = j.at; k = k.at; l = l.at })
  none_before i j k l other q x (inl h) = i.before q.i x.order.start h (with1 other q x)
  none_before i j k l other q x (inr (e, inl h)) =
      j.before q.j (omega (arith, x.order)) h (subst (λ (y : ℕ). With2 f n y q.j) e (with2 other q x))
  none_before i j k l other q x (inr (e, inr (d, inl h))) =
      let at_j = subst (λ (y : ℕ). With3 f n q.i y q.k) d (with3 other q x) in
      k.before q.k (omega (arith, x.order)) h (subst (λ (y : ℕ). With3 f n y j.at q.k) e at_j)
  none_before i j k l other q x (inr (e, inr (d, inr (c, h)))) =
      let at-k = subst (λ (y : ℕ). With4 f n q.i q.j y q.l) c (with4 other q x) in
      let at_j = subst (λ (y : ℕ). With4 f n q.i y k.at q.l) d at-k in
      l.before q.l (omega (arith, x.order)) h (subst (λ (y : ℕ). With4 f n y j.at k.at q.l) e at_j)

  -- what is found is the first pattern
  pub first_four_first : (barred : Barred f n) → FirstPattern f n (first_four f n barred).which (first_four f n barred).four
  unfolding first_four first_of dec_with1 dec_with2 dec_with3 dec_with4
  first_four_first barred =
      let i = first_of (With1 f n) (dec_with1 f n) 1 (suc n) (barred_with f n barred) in
      let j = first_of (With2 f n i.at) (dec_with2 f n i.at) (suc i.at) (suc n) i.has in
      let k = first_of (With3 f n i.at j.at) (dec_with3 f n i.at j.at) (suc j.at) (suc n) j.has in
      let l = first_of (With4 f n i.at j.at k.at) (dec_with4 f n i.at j.at k.at) (suc k.at) (suc n) k.has in record {
        pattern = record {
          order = record { start = i.from; i<j = j.from; j<k = k.from; k<l = l.from; end = omega (arith, l.to) };
          meets = met_meets (f i.at) (f j.at) (f k.at) (f l.at) l.has;
        };
        first = none_before i j k l;
      }

  -- the first pattern, with the condition that it meets
  pub record Found : Type 0 where
    pub which : Condition
    pub four : Four
    pub is_first : FirstPattern f n which four

  pub first_pattern : Barred f n → Found
  first_pattern barred = record { which = (first_four f n barred).which; four = (first_four f n barred).four; is_first = first_four_first barred }

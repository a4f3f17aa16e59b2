-- The counts are symmetric: with p and q exchanged, the first bit and the second exchanged and the third turned, a row of the table of steps
-- is a row again, and the rises are the falls.
use Rattle.std.specs.Prelude.{true, false, ◌⊎◌, ◌≡◌}
use Rattle.std.proofs.Common.{inl, inr, sym, ◌∙◌, arith}
use Rattle.std.proofs.Math.Path.{refl}
use Prim.Native.Nat.{ℕ, zero, suc, ◌+◌, ◌-◌, ◌<◌}
use Rattle.finite.specs.Decide.{le_or_lt}
use Rattle.finite.specs.Sum.{sum_same}
use Rattle.record.specs.Walk.{step}
use Rattle.counting.specs.Ways.{ways, plan_count}
use Rattle.counting.specs.AllWays.{all_ways}
use Rattle.counting.proofs.AllWays.{sum_zeros, all_ways_lem}
use Rattle.counting.proofs.Begun.{begun, ways_falls, ways_both, falls_most, too_few_falls}

-- a walk that begins with a rise, and its mirror image, which begins with a fall
begun_mirrored : (f g : ℕ → ℕ → ℕ) → ((p q : ℕ) → f p q ≡ g q p) → (p q : ℕ) → begun false f p q ≡ begun true g q p
unfolding begun step
begun_mirrored f g same p zero = omega (arith, same p 0, same (suc p) 0)
begun_mirrored f g same p (suc q) = omega (arith, same p q, same (suc p) q, same p (suc q), same (suc p) (suc q))

module _ (k : ℕ) (same : (p q r s : ℕ) → r + s ≡ k → ways k p q r ≡ ways k q p s) where
  all_rises : (p q r : ℕ) → r ≡ k → ways (suc k) p q (suc r) ≡ ways (suc k) q p 0
  all_rises p q r e =
      omega (
        arith,
        ways_both k p q r,
        ways_falls k q p,
        begun_mirrored (λ p q. ways k p q r) (λ p q. ways k p q 0) (λ p q. same p q r 0 (omega arith)) p q,
        falls_most (λ p q. ways k p q (suc r)) p q 0 (λ x y l. omega (arith, too_few_falls k x y (suc r) (omega arith))),
      )

  some_rises : (p q r s : ℕ) → suc (r + s) ≡ k → ways (suc k) p q (suc r) ≡ ways (suc k) q p (suc s)
  some_rises p q r s e =
      omega (
        arith,
        ways_both k p q r,
        ways_both k q p s,
        begun_mirrored (λ p q. ways k p q r) (λ p q. ways k p q (suc s)) (λ p q. same p q r (suc s) (omega arith)) p q,
        begun_mirrored (λ p q. ways k p q s) (λ p q. ways k p q (suc r)) (λ p q. same p q s (suc r) (omega arith)) q p,
      )

-- k triples that lead from p and q with r rises are as many as those that lead from q and p with k − r
pub ways_mirrored : (k p q r s : ℕ) → r + s ≡ k → ways k p q r ≡ ways k q p s
ways_mirrored zero p q r s e = go p q r s e
  where
    go : (p q r s : ℕ) → r + s ≡ 0 → ways 0 p q r ≡ ways 0 q p s
    go zero zero zero zero e = refl
    go zero zero (suc r) s e = absurd (omega arith)
    go zero zero zero (suc s) e = absurd (omega arith)
    go zero (suc q) r s e = unfold ways in refl
    go (suc p) zero r s e = unfold ways in refl
    go (suc p) (suc q) r s e = unfold ways in refl
ways_mirrored (suc k) p q zero zero e = absurd (omega arith)
ways_mirrored (suc k) p q zero (suc s) e = sym (all_rises k (ways_mirrored k) q p s (omega arith))
ways_mirrored (suc k) p q (suc r) zero e = all_rises k (ways_mirrored k) p q r (omega arith)
ways_mirrored (suc k) p q (suc r) (suc s) e = some_rises k (ways_mirrored k) p q r s (omega arith)

-- as many plans have r rises as have r falls
pub count_mirrored : (n r s : ℕ) → r + s + 1 ≡ n → plan_count n r ≡ plan_count n s
unfolding plan_count
count_mirrored zero r s e = refl
count_mirrored (suc k) r s e = ways_mirrored k 0 0 r s (omega arith)

-- each run above takes a rise to end it
pub too_few_rises : (k p q r : ℕ) → r < q → ways k p q r ≡ 0
too_few_rises k p q r h = elim (le_or_lt r k) [
  | inl l ↦ ways_mirrored k p q r (k - r) (omega arith) ∙ too_few_falls k q p (k - r) (omega arith)
  | inr l ↦ too_few_falls k p q r (omega arith)
]

-- more runs than triples
pub too_few_triples : (k p q : ℕ) → (k < p) ⊎ (k < q) → all_ways k p q ≡ 0
too_few_triples k p q h = sym (all_ways_lem k p q (suc k) (omega arith)) ∙ sum_same (ways k p q) (λ r. 0) 0 (suc k) (λ r a l. each r l h) ∙ sum_zeros (suc k)
  where
    each : (r : ℕ) → r < suc k → (k < p) ⊎ (k < q) → ways k p q r ≡ 0
    each r l (inl h) = too_few_falls k p q r (omega arith)
    each r l (inr h) = too_few_rises k p q r (omega arith)

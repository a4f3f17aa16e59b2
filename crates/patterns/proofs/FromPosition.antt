-- The first pattern that starts at a position, of either condition. Of the labels after it the first run lies on one side of its label,
-- the next run on the other, and then one lies on the first side again. In the condition of the first side j is the next position and k
-- the first of the second run; in the other condition j is that one and k the first after it on the first side again.
use Rattle.std.specs.Prelude.{Bool, not, ℕ, ◌+◌, ◌≤◌, ◌<◌}
use Rattle.std.proofs.Math.Bool.{not-not}
use Rattle.std.proofs.Common.{inl, inr, sym, subst, arith}
use Rattle.finite.specs.Decide.{eq_or_ne}
use Rattle.finite.specs.First.{FirstOrEnd}
use Rattle.patterns.specs.Sides.{condition_of, Beyond}
use Rattle.patterns.proofs.Sides.{not_both}
use Rattle.patterns.specs.Scope.{FirstIn, NoneIn, StartsAt}
use Rattle.patterns.proofs.Scope.{next_first, other_first, neither}
use Rattle.patterns.specs.Completion.{Started}
use Rattle.patterns.proofs.Completion.{completed, not_completed}

module _ {f : ℕ → ℕ} {n : ℕ} {above : Bool} {i near far end turn : ℕ}
    (by_near : Started f n above i near) (by-far : Started f n (not above) i far) (next : Beyond f above (f i) (i + 1))
    (near-Within : near ≤ end) (far_Within : far ≤ end) (turns : FirstOrEnd (Beyond f (not above) (f i)) (i + 2) end turn) where
  -- j and k of the condition of the first side
  near_j : FirstOrEnd (Beyond f above (f i)) (i + 1) near (i + 1)
  near_j = record { from = omega arith; has = λ h. next; before = λ p a b. absurd (omega arith) }

  near_k : FirstOrEnd (Beyond f (not above) (f i)) (i + 1 + 1) near turn
  near_k =
      record { from = omega (arith, turns.from); has = λ h. turns.has (omega arith); before = λ p a b. turns.before p (omega arith) b }

  -- the first pattern is of this condition if there is one of it
  pub first_near : turn < near → FirstIn f n (StartsAt i) (condition_of above) (record { i = i; j = i + 1; k = turn; l = near })
  first_near h = next_first f n i above next (completed by_near near_j near_k h) (omega arith)

  -- j and k of the other condition
  far_j : FirstOrEnd (Beyond f (not above) (f i)) (i + 1) far turn
  far_j = record { from = omega (arith, turns.from); has = λ h. turns.has (omega arith); before = before }
    where
      before : (p : ℕ) → i + 1 ≤ p → p < turn → ¬ Beyond f (not above) (f i) p
      before p a b = elim (eq_or_ne p (i + 1)) [
        | inl e ↦ subst (λ (x : ℕ). ¬ Beyond f (not above) (f i) x) (sym e) (not_both f above (f i) (i + 1) next)
        | inr d ↦ turns.before p (omega arith) b
      ]

  module _ (not-near : near ≤ turn) {back : ℕ} (comes_back : FirstOrEnd (Beyond f above (f i)) (turn + 1) far back) where
    far_k : FirstOrEnd (Beyond f (not (not above)) (f i)) (turn + 1) far back
    far_k = subst (λ (side : Bool). FirstOrEnd (Beyond f side (f i)) (turn + 1) far back) (sym (not-not above)) comes_back

    -- else it is of the other one
    pub first_far : back < far → FirstIn f n (StartsAt i) (condition_of (not above)) (record { i = i; j = turn; k = back; l = far })
    first_far h = other_first f n i above (not_completed by_near near_j near_k not-near) (completed by-far far_j far_k h)

    -- else there is none
    pub none_from : far ≤ back → NoneIn f n (StartsAt i)
    none_from h = neither f n i above (not_completed by_near near_j near_k not-near) (not_completed by-far far_j far_k h)

-- The first pattern in a part of the fours: in those of one condition that start at a position, in all that start there. How the first in
-- a part is the first in a larger one.
use Rattle.std.specs.Prelude.{Bool, not, ◌≢◌, ◌⊎◌, ◌≡◌, ℕ, ◌+◌, ◌≤◌, ◌<◌}
use Rattle.std.proofs.Common.{inl, inr, subst, subst₂, ◌∙◌, arith}
use Rattle.finite.specs.Decide.{eq_or_ne}
use Rattle.patterns.specs.Pattern.{Four, PatternAt, Before, FirstPattern}
use Rattle.patterns.specs.Sides.{condition_of, Beyond, BySides}
use Rattle.patterns.proofs.Sides.{one_of_two, not_both, by_sides}
use Rattle.patterns.specs.declared.Condition.{Condition}
use Rattle.patterns.specs.Scope.{FirstIn, NoneIn, StartsAt, StartsBefore, StartsBy}

-- ---- the two conditions at a position
module _ (f : ℕ → ℕ) (n i : ℕ) (above : Bool) (next : Beyond f above (f i) (i + 1)) where
  -- the next position is not j in the condition on whose other side its label lies
  later_j : {which : Condition} {q : Four} → StartsBy i (not above) which q → PatternAt f n which q → i + 1 < q.j
  later_j {which} {q} (is, at) y =
      let apart : q.j ≢ i + 1 = λ e. not_both f above (f i) (i + 1) next (at_next e) in
      omega (arith, sides.order)
    where
      sides : BySides f n (not above) q
      sides = by_sides f n q (not above) (subst (λ (c : Condition). PatternAt f n c q) is y)

      at_next : q.j ≡ i + 1 → Beyond f (not above) (f i) (i + 1)
      at_next e = subst₂ (λ (x z : ℕ). Beyond f (not above) (f x) z) at e sides.j_side

  -- so where it is j in the other condition, that condition's first is the first
  pub next_first : {which : Condition} {p : Four} → FirstIn f n (StartsBy i above) which p → p.j ≤ i + 1 → FirstIn f n (StartsAt i) which p
  next_first {which} {p} x h =
      record { within = x.within.1; pattern = x.pattern; first = λ other q at y. go other q at y (one_of_two above other) }
    where
      go : (other : Condition) (q : Four) → q.i ≡ i → PatternAt f n other q
          → (other ≡ condition_of above) ⊎ (other ≡ condition_of (not above)) → ¬ Before q p
      go other q at y (inl e) b = x.first other q (e, at) y b
      go other q at y (inr e) (inl b) = omega (arith, x.within.1)
      go other q at y (inr e) (inr (_, inl b)) = omega (arith, later_j (e, at) y)
      go other q at y (inr e) (inr (_, inr (b, _))) = omega (arith, later_j (e, at) y)

module _ (f : ℕ → ℕ) (n i : ℕ) where
  -- where that condition has none, the other condition's first is the first
  module _ (above : Bool) (none : NoneIn f n (StartsBy i above)) where
    pub other_first : {which : Condition} {p : Four} → FirstIn f n (StartsBy i (not above)) which p → FirstIn f n (StartsAt i) which p
    other_first x = record {
      within = x.within.1;
      pattern = x.pattern;
      first =
          λ other q at y. elim (one_of_two above other) [ inl e ↦ absurd (none other q (e, at) y) | inr e ↦ x.first other q (e, at) y ];
    }

    pub neither : NoneIn f n (StartsBy i (not above)) → NoneIn f n (StartsAt i)
    neither none-of-other other q at y =
        elim (one_of_two above other) [ inl e ↦ none other q (e, at) y | inr e ↦ none-of-other other q (e, at) y ]

  -- ---- the positions one after the other: the first that starts a pattern starts the first pattern
  module _ (none : NoneIn f n (StartsBefore i)) where
    pub first_here : {which : Condition} {p : Four} → FirstIn f n (StartsAt i) which p → FirstPattern f n which p
    first_here {which} {p} x = record { pattern = x.pattern; first = go }
      where
        go : (other : Condition) (q : Four) → PatternAt f n other q → ¬ Before q p
        go other q y (inl h) = none other q (omega (arith, x.within)) y
        go other q y (inr (e, b)) = x.first other q (e ∙ x.within) y (inr (e, b))

    pub none_here : NoneIn f n (StartsAt i) → NoneIn f n (StartsBefore (i + 1))
    none_here here which q h y = elim (eq_or_ne q.i i) [ inl e ↦ here which q e y | inr e ↦ none which q (omega arith) y ]

    -- no pattern starts at position n
    pub none_left : n ≤ i → (which : Condition) (p : Four) → ¬ PatternAt f n which p
    none_left h which p y = none which p (omega (arith, y.order)) y

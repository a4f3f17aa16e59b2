-- How a position i is completed to a pattern of one condition. The last position is told by its label, which is next to i's. Between the
-- two the first position on that side of i's label and after it the first on the other side are the first in order: an earlier j leaves
-- no less choice for k.
use Rattle.std.specs.Prelude.{Bool, true, false, not, ◌≡◌, refl, ℕ, ◌+◌, ◌≤◌, ◌<◌}
use Rattle.std.proofs.Common.{inl, inr, sym, subst, ◌∙◌, arith}
use Rattle.finite.specs.Decide.{le_or_lt}
use Rattle.finite.specs.First.{FirstOrEnd, not_after}
use Rattle.patterns.specs.Pattern.{Four, Ordered, PatternAt, Before}
use Rattle.patterns.specs.Sides.{condition_of, NextTo, Beyond, BySides}
use Rattle.patterns.proofs.Sides.{by_sides, sides_pattern}
use Rattle.patterns.specs.Scope.{FirstIn, NoneIn, StartsBy}
use Rattle.patterns.specs.declared.Condition.{Condition}
use Rattle.patterns.specs.Completion.{Started}

only_next : (above : Bool) (label next other : ℕ) → NextTo above label next → NextTo above label other → other ≡ next
only_next true label next other e d = omega arith
only_next false label next other e d = omega arith

module _ {f : ℕ → ℕ} {n : ℕ} {above : Bool} {i l : ℕ} (s : Started f n above i l) where
  -- a pattern that starts at i, by its sides; it ends at l
  sides : {which : Condition} {q : Four} → StartsBy i above which q → PatternAt f n which q → BySides f n above q
  sides {which} {q} (is, at) x = by_sides f n q above (subst (λ (c : Condition). PatternAt f n c q) is x)

  ends : {which : Condition} {q : Four} → StartsBy i above which q → PatternAt f n which q → q.l ≡ l
  ends {which} {q} (is, at) x =
      elim (le_or_lt q.l l) [ inl h ↦ there (omega (arith, o)) | inr h ↦ absurd (s.place.after q.l h o.end stands) ]
    where
      o : Ordered n q
      o = x.order

      stands : f q.l ≡ s.last
      stands =
          only_next above (f i) s.last (f q.l) s.next
          (subst (λ (y : ℕ). NextTo above (f y) (f q.l)) at (sides (is, at) x).last)

      there : 1 ≤ l → q.l ≡ l
      there h = s.each.once q.l l (omega (arith, o)) o.end h s.place.within (stands ∙ sym (s.place.own h))

  module _ {j : ℕ} (j-first : FirstOrEnd (Beyond f above (f i)) (i + 1) l j) where
    -- no pattern that starts at i has an earlier j
    not_earlier : {which : Condition} {q : Four} → StartsBy i above which q → PatternAt f n which q → j ≤ q.j
    not_earlier {which} {q} (is, at) x =
        not_after j-first q.j (omega (arith, x.order)) (subst (λ (y : ℕ). Beyond f above (f y) q.j) at (sides (is, at) x).j_side)

    module _ {k : ℕ} (k-first : FirstOrEnd (Beyond f (not above) (f i)) (j + 1) l k) where
      -- nor an earlier k
      nor_k_earlier : {which : Condition} {q : Four} → StartsBy i above which q → PatternAt f n which q → k ≤ q.k
      nor_k_earlier {which} {q} (is, at) x =
          not_after k-first q.k (omega (arith, x.order, not_earlier (is, at) x))
          (subst (λ (y : ℕ). Beyond f (not above) (f y) q.k) at (sides (is, at) x).k_side)

      -- no label between fits
      pub not_completed : l ≤ k → NoneIn f n (StartsBy i above)
      not_completed h which q is x = omega (arith, x.order, ends is x, nor_k_earlier is x)

      pub completed : k < l → FirstIn f n (StartsBy i above) (condition_of above) (record { i = i; j = j; k = k; l = l })
      completed h = record { within = (refl, refl); pattern = sides_pattern f n p s.each above fits; first = none }
        where
          p : Four
          p = record { i = i; j = j; k = k; l = l }

          fits : BySides f n above p
          fits =
              let a = j-first.from in
              let b = k-first.from in
              record {
                order = record { start = s.start; i<j = omega arith; j<k = omega arith; k<l = h; end = s.place.within };
                j_side = j-first.has (omega arith);
                k_side = k-first.has h;
                last = subst (NextTo above (f i)) (sym (s.place.own (omega (arith, s.start)))) s.next;
              }

          none : (other : Condition) (q : Four) → StartsBy i above other q → PatternAt f n other q → ¬ Before q p
          none other q is x (inl b) = omega (arith, is.1)
          none other q is x (inr (_, inl b)) = omega (arith, not_earlier is x)
          none other q is x (inr (_, inr (_, inl b))) = omega (arith, nor_k_earlier is x)
          none other q is x (inr (_, inr (_, inr (_, b)))) = omega (arith, ends is x)

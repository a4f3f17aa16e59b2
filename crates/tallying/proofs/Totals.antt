-- The two planes of the totals: each sweep lets one triple more into the second, and the first is its copy.
use mathlib.Core.List.{List}
use mathlib.Core.Logic.{◌⊎◌, inl, inr}
use mathlib.Core.Path.{◌≡◌, refl, sym, ap, ◌∙◌}
use Prim.Native.Nat.{ℕ, zero, suc, ◌+◌, ◌-◌, ◌*◌, ◌≤◌, ◌<◌, min}
use native.Mathlib.Omega.{arith}
use lib.ListN.{length, get_or}
use Rattle.finite.specs.Decide.{le_or_lt}
use Rattle.finite.specs.Fill.{Filling}
use Rattle.counting.specs.Ways.{plan_total}
use Rattle.counting.specs.AllWays.{all_ways}
use Rattle.counting.proofs.AllWays.{total_all_ways}
use Rattle.counting.proofs.Begun.{all_both, all_ways_small}
use Rattle.counting.proofs.Mirror.{too_few_triples}
use Rattle.tallying.specs.Plane.{copy_of, PlaneFits, Swept}
use Rattle.tallying.specs.Shows.{bordered, Shows, BothPlanes}
use Rattle.tallying.proofs.Sweeping.{Step, plane_fits, swept_shows, shown, shows_as}
use Rattle.tallying.proofs.Start.{one_only, one_shows}

-- ---- a copy
module _ {h : ℕ → ℕ → ℕ} {reach : ℕ} {before now : List ℕ} (shows : Shows h 110 reach reach before) (copy : Filling (copy_of before) 0 110 before now) where
  -- where one plane ends and the other begins there is a 0 of both
  edge : (u v : ℕ) → u ≤ 10 → 110 ≤ 10 * u + (10 - v) → bordered h u v ≡ 0
  edge zero v l m = refl
  edge (suc p) zero l m = refl
  edge (suc p) (suc q) l m = absurd (omega arith)

  pub copy_shows : Shows h 0 reach reach now
  copy_shows = record { at = go }
    where
      go : (u v : ℕ) → u ≤ reach + 1 → v ≤ reach + 1 → u ≤ 10 → v ≤ 10 → get_or now (0 + 10 * u + (10 - v)) 0 ≡ bordered h u v
      go u v a b c d = elim (le_or_lt 110 (0 + 10 * u + (10 - v))) [
        | inl l ↦ copy.kept (0 + 10 * u + (10 - v)) (inr l) ∙ shown shows 0 10 (0 + 10 * u + (10 - v)) (omega arith) (omega arith) (omega arith) (omega arith) (omega arith) ∙ sym (edge u v c (omega arith))
        | inr l ↦ copy.done (0 + 10 * u + (10 - v)) (omega arith) l ∙ shown shows u v (110 + (0 + 10 * u + (10 - v))) a b c d (omega arith)
      ]

  pub kept_shows : Shows h 110 reach reach now
  kept_shows = record { at = λ u v a b c d. copy.kept (110 + 10 * u + (10 - v)) (inr (omega arith)) ∙ shows.at u v a b c d }

-- ---- triple by triple
module _ (reach k far : ℕ) (few : reach + k ≤ 15) (e : far ≡ min (k + 1) reach) where
  turn : Step (all_ways k) (all_ways k) (all_ways (suc k)) reach reach far far
  turn = record {
    made = λ p q hp hq. all_both k p q;
    rest = rest;
    small = λ p q. all_ways_small (suc k) p q (omega arith);
    low_few = omega arith;
    far_few = omega arith;
    low_below = omega arith;
    far_above = omega arith;
  }
    where
      rest : (p q : ℕ) → p ≤ reach → q ≤ reach → (far < p) ⊎ (far < q) → all_ways (suc k) p q ≡ all_ways k p q
      rest p q hp hq (inl l) = too_few_triples (suc k) p q (inl (omega arith)) ∙ sym (too_few_triples k p q (inl (omega arith)))
      rest p q hp hq (inr l) = too_few_triples (suc k) p q (inr (omega arith)) ∙ sym (too_few_triples k p q (inr (omega arith)))

  module _ {planes : List ℕ} (both : BothPlanes (reach + 1) k planes) where
    risen : Shows (all_ways k) (0 + 110) (reach + 1) reach planes
    risen = shows_as both.back refl (omega arith) (omega arith)

    fallen : Shows (all_ways k) 0 reach (reach + 1) planes
    fallen = shows_as both.fore refl (omega arith) (omega arith)

    pub total_fits : PlaneFits (129 - far) (far + 1) (far + 1) planes
    total_fits = plane_fits turn risen fallen (omega (arith, both.size))

    pub total_shows : {now : List ℕ} → Swept (129 - far) (far + 1) (far + 1) planes now → Shows (all_ways (suc k)) 110 reach reach now
    total_shows swept = swept_shows turn risen fallen swept

-- ---- the start and the end
first_over : (p q : ℕ) → 1 ≤ p + q → all_ways 0 p q ≡ 0
first_over zero zero h = absurd (omega arith)
first_over zero (suc q) h = unfold all_ways in refl
first_over (suc p) q h = unfold all_ways in refl

first_here : all_ways 0 0 0 ≡ 1
first_here = unfold all_ways in refl

pub first_plane : (reach : ℕ) → Shows (all_ways 0) 110 reach reach (one_only 221)
first_plane reach = one_shows 221 (omega arith) (all_ways 0) first_here first_over

pub both_planes : (reach k : ℕ) {before now : List ℕ} → length before ≡ 221 → Shows (all_ways k) 110 reach reach before → Filling (copy_of before) 0 110 before now → BothPlanes reach k now
both_planes reach k size shows copy = record { size = copy.size ∙ size; fore = copy_shows shows copy; back = kept_shows shows copy }

pub totalled : (n k : ℕ) {planes : List ℕ} → n ≡ suc k → BothPlanes (n - 1 - k) k planes → get_or planes 129 0 ≡ plan_total n
totalled n k e both = both.back.at 1 1 (omega arith) (omega arith) (omega arith) (omega arith) ∙ sym (total_all_ways k) ∙ ap plan_total (sym e)

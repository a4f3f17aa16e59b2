-- Rooms before which a room of the first group stands, as a placing: each starts at 1 if it is one, else at 0, and a room of the first
-- group ends at 1. Then the furthest room before each room ends where it starts.
use mathlib.Core.List.{List}
use mathlib.Core.Logic.{inl, inr}
use mathlib.Core.Path.{◌≡◌}
use Prim.Native.Nat.{ℕ, suc, ◌+◌, ◌-◌, ◌≤◌, max}
use native.Mathlib.Omega.{arith}
use Rattle.finite.specs.Decide.{dec-×}
use Rattle.finite.specs.Search.{Some, dec_some}
use Rattle.finite.specs.Count.{indicator}
use Rattle.finite.specs.Marks.{Marks, marks_le, marks_indicator, marks_yes, marks_no, marks_once}
use Rattle.sizes.specs.Direction.{Direction, Before, dec_before}
use Rattle.sizes.specs.Lowest.{furthest_before}
use Rattle.sizes.proofs.LowestLaws.{before→earlier, before_trans, furthest_ge, furthest_smallest}
use Rattle.groups.specs.Group.{Member, dec_member}

module _ (f : ℕ → ℕ) (n : ℕ) (first : List ℕ) where
  -- a room of the first group stands before room j
  abbrev pub Reached : Direction → (j : ℕ) → Type 0
  Reached way j = Some (λ i. Member first i × Before f way i j) 1 (suc n)

  abbrev pub start_of : Direction → (j : ℕ) → ℕ
  start_of way j = indicator (dec_some (λ i. Member first i × Before f way i j) (λ i. dec-× (dec_member first i) (dec_before f way i j)) 1 (suc n))

  pub start_marks : (way : Direction) (j : ℕ) → Marks (start_of way j) (Reached way j)
  start_marks way j = marks_indicator (dec_some (λ i. Member first i × Before f way i j) (λ i. dec-× (dec_member first i) (dec_before f way i j)) 1 (suc n))

  -- a room of the first group goes on to 1
  abbrev pub size_of : Direction → (j : ℕ) → ℕ
  size_of way j = indicator (dec_member first j) - start_of way j

  -- where it ends
  pub end_is : (way : Direction) (j : ℕ) {one : ℕ} → Marks one (Member first j) → start_of way j + size_of way j ≡ max (start_of way j) one
  end_is way j m = omega (arith, marks_once (marks_indicator (dec_member first j)) m, marks_le (start_marks way j), marks_le m)

  -- nothing stands before the first room
  pub first_start : (way : Direction) → start_of way 1 ≡ 0
  first_start way = marks_no (start_marks way 1) (λ (i, a, b, (m, p)). absurd (omega (arith, before→earlier f way p)))

  pub furthest_is_start : (way : Direction) (j : ℕ) → furthest_before f way (size_of way) n (start_of way) j ≡ start_of way j
  furthest_is_start way j = omega (arith, no_further, far (start_marks way j))
    where
      reach : (i : ℕ) → 1 ≤ i → i ≤ n → Before f way i j → Marks (start_of way i) (Reached way i) → Marks (indicator (dec_member first i)) (Member first i)
          → start_of way i + size_of way i ≤ start_of way j
      reach i a b p (inl (e, (h, c, d, (m, q)))) here =
          omega (arith, marks_le here, marks_yes (start_marks way j) (h, c, d, (m, before_trans f way h i j q p)))
      reach i a b p (inr (e, none)) (inl (g, m)) = omega (arith, marks_yes (start_marks way j) (i, a, omega arith, (m, p)))
      reach i a b p (inr (e, none)) (inr (g, m)) = omega arith

      no_further : furthest_before f way (size_of way) n (start_of way) j ≤ start_of way j
      no_further = furthest_smallest f way (size_of way) n (start_of way) j (start_of way j)
          (λ i a b p. reach i a b p (start_marks way i) (marks_indicator (dec_member first i)))

      far : Marks (start_of way j) (Reached way j) → start_of way j ≤ furthest_before f way (size_of way) n (start_of way) j
      far (inr (e, none)) = omega arith
      far (inl (e, (i, a, b, (m, p)))) =
          omega (arith, furthest_ge f way (size_of way) n (start_of way) j i a (omega arith) p, marks_yes (marks_indicator (dec_member first i)) m)

-- How many things have a property, and that there is only one such number; how many classes they fall into.
use Rattle.std.specs.Prelude.{◌≡◌, ℕ, ◌≤◌, ◌<◌}
use Rattle.std.proofs.Common.{sym, ap, ◌∙◌, inl, inr, arith}
use Rattle.finite.specs.Decide.{le_or_lt}
use Rattle.finite.specs.Search.{Some}
use Rattle.finite.specs.Count.{onto}

-- c things have P: they can be numbered from 0 to c − 1, each of them once
pub record HowMany {A : Type 0} (P : A → Type 0) (c : ℕ) : Type 0 where
  pub thing : ℕ → A
  pub has : (i : ℕ) → i < c → P (thing i)
  pub each : (x : A) → P x → Some (λ i. thing i ≡ x) 0 c
  pub once : (i j : ℕ) → i < c → j < c → thing i ≡ thing j → i ≡ j

-- the things that have P fall into c classes, where Same things are in one class: c of them can be numbered from 0 to c − 1 so that each
-- thing that has P is Same as one of them, and no two of them are Same
pub record HowManyClasses {A : Type 0} (P : A → Type 0) (Same : A → A → Type 0) (c : ℕ) : Type 0 where
  pub thing : ℕ → A
  pub has : (i : ℕ) → i < c → P (thing i)
  pub each : (x : A) → P x → Some (λ i. Same (thing i) x) 0 c
  pub once : (i j : ℕ) → i < c → j < c → Same (thing i) (thing j) → i ≡ j

-- ---- there is one such number
module _ {A : Type 0} {P : A → Type 0} {c d : ℕ} (one : HowMany P c) (other : HowMany P d) where
  -- the number that the other numbering gives to thing i of this one
  renumbered : (i : ℕ) → (j : ℕ) × (i < c → (j < d) × (other.thing j ≡ one.thing i))
  renumbered i = elim (le_or_lt c i) [
    | inl h ↦ (0, λ l. absurd (omega arith))
    | inr h ↦ let (j, from, to, e) = other.each (one.thing i) (one.has i h) in (j, λ l. (to, e))
  ]

  not_fewer : c ≤ d
  not_fewer = elim (le_or_lt c d) [
    | inl h ↦ h
    | inr h ↦ let (i, from, to, e) = onto 0 c (λ i. (renumbered i).0) (within h) injective d (omega arith) h in omega (arith, (renumbered i).1 to)
  ]
    where
      within : d < c → (i : ℕ) → 0 ≤ i → i < c → (0 ≤ (renumbered i).0) × ((renumbered i).0 < c)
      within h i a l = omega (arith, (renumbered i).1 l)

      injective : (i j : ℕ) → 0 ≤ i → i < c → 0 ≤ j → j < c → (renumbered i).0 ≡ (renumbered j).0 → i ≡ j
      injective i j a l b m e = one.once i j l m (sym ((renumbered i).1 l).1 ∙ ap other.thing e ∙ ((renumbered j).1 m).1)

pub one_number : {A : Type 0} {P : A → Type 0} {c d : ℕ} → HowMany P c → HowMany P d → c ≡ d
one_number h k = omega (arith, not_fewer h k, not_fewer k h)

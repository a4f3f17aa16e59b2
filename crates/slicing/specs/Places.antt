-- Rooms that are put in order along a cut: each room of s to e - 1 has a place among s to e - 1, and no two have the same. A line parts
-- the first m - s rooms from the others where these have the first m - s places.
use Rattle.std.proofs.Common.{inl, inr, arith}
use Rattle.std.specs.Prelude.{◌≡◌, ℕ, ◌-◌, ◌≤◌, ◌<◌}
use Rattle.finite.specs.Decide.{le_or_lt}
use Rattle.finite.specs.Search.{Each}
use Rattle.finite.specs.Count.{onto}

pub record Places (p : ℕ → ℕ) (s e : ℕ) : Type 0 where
  pub range : Each (λ i. (s ≤ p i) × (p i < e)) s e
  pub once : (i j : ℕ) → s ≤ i → i < e → s ≤ j → j < e → p i ≡ p j → i ≡ j

module _ {p : ℕ → ℕ} {s e : ℕ} (places : Places p s e) (m : ℕ) (some : s < m) (within : m ≤ e) where
  -- the first rooms have all of the first places
  pub first_places→later : Each (λ i. p i < m) s m → Each (λ j. m ≤ p j) m e
  first_places→later first j a b = elim (le_or_lt m (p j)) [
    | inl h ↦ h
    | inr h ↦
        let (i, c, d, q) = onto s m p (λ i c d. ((places.range i c (omega arith)).0, first i c d))
        (λ i k c d g x. places.once i k c (omega arith) g (omega arith)) (p j) (places.range j (omega arith) b).0 h in
        absurd (omega (arith, places.once i j c (omega arith) (omega arith) b q))
  ]

  -- and where the other rooms have all of the other places, these are the first ones
  pub last_places→earlier : Each (λ j. m ≤ p j) m e → Each (λ i. p i < m) s m
  last_places→earlier last i a b = elim (le_or_lt m (p i)) [
    | inr h ↦ h
    | inl h ↦
        let (j, c, d, q) = onto m e p (λ j c d. (last j c d, (places.range j (omega arith) d).1))
        (λ j k c d g x. places.once j k (omega arith) d (omega arith) x) (p i) h (places.range i a (omega arith)).1 in
        absurd (omega (arith, places.once j i (omega arith) d a (omega arith) q))
  ]

  -- where each of them has a lower place than each other room
  pub lower→first_places : ((i j : ℕ) → s ≤ i → i < m → m ≤ j → j < e → p i < p j) → Each (λ i. p i < m) s m
  lower→first_places lower i a b = elim (le_or_lt m (p i)) [
    | inr h ↦ h
    | inl h ↦
        let more : m < e = omega (arith, places.range i a (omega arith)) in
        let (j, c, d, q) = onto m e (λ j. p j - 1)
        (λ j c d. let l = lower i j a b c d in let r = places.range j (omega arith) d in (omega arith, omega arith))
        (λ j k c d g x q. places.once j k (omega arith) d (omega arith) x
        (let l = lower i j a b c d in let r = lower i k a b g x in omega arith)) (e - 1) (omega arith) (omega arith) in
        absurd (omega (arith, places.range j (omega arith) d))
  ]

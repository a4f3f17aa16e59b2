-- The least and the greatest of the numbers f 0 to f (n - 1).
use Rattle.std.specs.Prelude.{◌≡◌, ℕ, zero, suc, ◌+◌, ◌≤◌, ◌<◌, min, max}
use Rattle.std.proofs.Common.{ap, inl, inr, eq-or-lt_of_le, le_of_suc-le-suc, not-suc-le-zero, arith, add-one}
use Rattle.std.proofs.Math.Logic.{ite}

-- of no numbers the least is f 0, which is never asked for, and the greatest is 0
unfoldable pub least : (ℕ → ℕ) → (n : ℕ) → ℕ
least f zero = f 0
least f (suc n) = min (f n) (least f n)

unfoldable pub greatest : (ℕ → ℕ) → (n : ℕ) → ℕ
greatest f zero = 0
greatest f (suc n) = max (f n) (greatest f n)

-- of one number more
pub least_of_one : (f : ℕ → ℕ) → f 0 ≡ least f 1
unfolding least
least_of_one f = omega arith

pub least_more : (f : ℕ → ℕ) (n : ℕ) → least f (n + 1) ≡ min (f n) (least f n)
unfolding least
least_more f n = rw (add-one n)

pub greatest_more : (f : ℕ → ℕ) (n : ℕ) → greatest f (n + 1) ≡ max (f n) (greatest f n)
unfolding greatest
greatest_more f n = rw (add-one n)

-- each of them lies between the two
pub least_le : (f : ℕ → ℕ) (n i : ℕ) → i < n → least f n ≤ f i
unfolding least
least_le f zero i h = absurd (not-suc-le-zero h)
least_le f (suc n) i h = elim (eq-or-lt_of_le (le_of_suc-le-suc h)) [ inl e ↦ omega (arith, ap f e) | inr g ↦ omega (arith, least_le f n i g) ]

pub greatest_ge : (f : ℕ → ℕ) (n i : ℕ) → i < n → f i ≤ greatest f n
unfolding greatest
greatest_ge f zero i h = absurd (not-suc-le-zero h)
greatest_ge f (suc n) i h = elim (eq-or-lt_of_le (le_of_suc-le-suc h)) [ inl e ↦ omega (arith, ap f e) | inr g ↦ omega (arith, greatest_ge f n i g) ]

-- what lies below all of them lies below the least, what lies above all of them above the greatest
pub least_largest : (f : ℕ → ℕ) (n bound : ℕ) → 0 < n → ((i : ℕ) → i < n → bound ≤ f i) → bound ≤ least f n
unfolding least
least_largest f zero bound some below = absurd (not-suc-le-zero some)
least_largest f (suc zero) bound some below = omega (arith, below 0 some)
least_largest f (suc (suc n)) bound some below = omega (arith, below (suc n) (omega arith), least_largest f (suc n) bound (omega arith) (λ i h. below i (omega arith)))

pub greatest_smallest : (f : ℕ → ℕ) (n bound : ℕ) → ((i : ℕ) → i < n → f i ≤ bound) → greatest f n ≤ bound
unfolding greatest
greatest_smallest f zero bound above = omega arith
greatest_smallest f (suc n) bound above = omega (arith, above n (omega arith), greatest_smallest f n bound (λ i h. above i (omega arith)))

-- numbers that agree
module _ (f g : ℕ → ℕ) (n : ℕ) (same : (i : ℕ) → i < n → f i ≡ g i) where
  pub least_same : 0 < n → least f n ≡ least g n
  least_same some = omega (
    arith,
    least_largest g n (least f n) some (λ i h. omega (arith, same i h, least_le f n i h)),
    least_largest f n (least g n) some (λ i h. omega (arith, same i h, least_le g n i h)),
  )

  pub greatest_same : greatest f n ≡ greatest g n
  greatest_same = omega (
    arith,
    greatest_smallest f n (greatest g n) (λ i h. omega (arith, same i h, greatest_ge g n i h)),
    greatest_smallest g n (greatest f n) (λ i h. omega (arith, same i h, greatest_ge f n i h)),
  )

-- ---- the greatest of those of them that have a property, 0 if none has
abbrev pub greatest_of : (P : ℕ → Type 0) → ((i : ℕ) → Dec (P i)) → (ℕ → ℕ) → (n : ℕ) → ℕ
greatest_of P d f n = greatest (λ i. ite (d i) (f i) 0) n

module _ (P : ℕ → Type 0) (d : (i : ℕ) → Dec (P i)) (f : ℕ → ℕ) where
  pub greatest_of_ge : (n i : ℕ) → i < n → P i → f i ≤ greatest_of P d f n
  greatest_of_ge n i h p = go (d i) (greatest_ge (λ i. ite (d i) (f i) 0) n i h)
    where
      go : {z : ℕ} (e : Dec (P i)) → ite e (f i) 0 ≤ z → f i ≤ z
      go (yes q) h = h
      go (no q) h = absurd (q p)

  pub greatest_of_smallest : (n bound : ℕ) → ((i : ℕ) → i < n → P i → f i ≤ bound) → greatest_of P d f n ≤ bound
  greatest_of_smallest n bound above = greatest_smallest (λ i. ite (d i) (f i) 0) n bound (λ i h. go i (d i) (above i h))
    where
      go : (i : ℕ) (e : Dec (P i)) → (P i → f i ≤ bound) → ite e (f i) 0 ≤ bound
      go i (yes q) h = h q
      go i (no q) h = omega arith

pub greatest_of_same : (P : ℕ → Type 0) (d : (i : ℕ) → Dec (P i)) (f g : ℕ → ℕ) (n : ℕ) → ((i : ℕ) → i < n → P i → f i ≡ g i)
    → greatest_of P d f n ≡ greatest_of P d g n
greatest_of_same P d f g n same = omega (
  arith,
  greatest_of_smallest P d f n (greatest_of P d g n) (λ i h p. omega (arith, same i h p, greatest_of_ge P d g n i h p)),
  greatest_of_smallest P d g n (greatest_of P d f n) (λ i h p. omega (arith, same i h p, greatest_of_ge P d f n i h p)),
)

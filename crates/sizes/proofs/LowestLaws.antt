-- In one direction the lowest corners are where the sentence puts them, they honour the relations, and no placing from 0 up that does
-- puts a corner lower. The rooms before a room stand at earlier positions, so the proofs go along the positions.
use Rattle.std.specs.Prelude.{◌≡◌}
use Rattle.std.proofs.Math.Path.{sym}
use Rattle.std.proofs.Common.{ap, ◌∙◌}
use Prim.Native.Nat.{ℕ, zero, suc, ◌+◌, ◌-◌, ◌*◌, ◌≤◌, ◌<◌}
use native.Mathlib.Omega.{arith}
use Rattle.finite.specs.Search.{Each}
use Rattle.finite.specs.Extremes.{greatest_of_ge, greatest_of_smallest, greatest_of_same}
use Rattle.sizes.specs.Direction.{Direction, across, upward, Before, dec_before}
use Rattle.sizes.specs.Lowest.{furthest_before, start_by, start_at}
use Rattle.sizes.specs.Placing.{Honours}

pub before→earlier : (f : ℕ → ℕ) (way : Direction) {i j : ℕ} → Before f way i j → i < j
before→earlier f across p = p.0
before→earlier f upward p = p.0

pub before_trans : (f : ℕ → ℕ) (way : Direction) (i j k : ℕ) → Before f way i j → Before f way j k → Before f way i k
before_trans f across i j k (a, b) (c, d) = (omega arith, omega arith)
before_trans f upward i j k (a, b) (c, d) = (omega arith, omega arith)

module _ (f : ℕ → ℕ) (way : Direction) (size : ℕ → ℕ) (n : ℕ) where
  -- the furthest room before j ends no earlier than any of them, and no later than a bound of all
  module _ (start : ℕ → ℕ) (j : ℕ) where
    pub furthest_ge : (i : ℕ) → 1 ≤ i → i ≤ n → Before f way i j → start i + size i ≤ furthest_before f way size n start j
    furthest_ge zero a b p = absurd (omega arith)
    furthest_ge (suc i) a b p = greatest_of_ge (λ i. Before f way (suc i) j) (λ i. dec_before f way (suc i) j) (λ i. start (suc i) + size (suc i)) n i b p

    pub furthest_smallest : (bound : ℕ) → ((i : ℕ) → 1 ≤ i → i ≤ n → Before f way i j → start i + size i ≤ bound)
        → furthest_before f way size n start j ≤ bound
    furthest_smallest bound above = greatest_of_smallest (λ i. Before f way (suc i) j) (λ i. dec_before f way (suc i) j)
        (λ i. start (suc i) + size (suc i)) n bound (λ i h p. above (suc i) (omega arith) h p)

  pub furthest_same : (x y : ℕ → ℕ) (j : ℕ) → ((i : ℕ) → 1 ≤ i → i ≤ n → i < j → x i ≡ y i)
      → furthest_before f way size n x j ≡ furthest_before f way size n y j
  furthest_same x y j same = greatest_of_same (λ i. Before f way (suc i) j) (λ i. dec_before f way (suc i) j) _ _ n
      (λ i h p. ap (λ (z : ℕ). z + size (suc i)) (same (suc i) (omega arith) h (before→earlier f way p)))

  -- longer chains change nothing
  no_longer_chain : (k j : ℕ) → j ≤ suc k → start_by f way size n (suc k) j ≡ start_by f way size n k j
  unfolding start_by
  no_longer_chain zero j h = omega (arith, furthest_smallest (start_by f way size n 0) j 0 (λ i a b p. absurd (omega (arith, before→earlier f way p))))
  no_longer_chain (suc k) j h = furthest_same (start_by f way size n (suc k)) (start_by f way size n k) j (λ i a b l. no_longer_chain k i (omega arith))

  -- "A room starts where the furthest room left of it ends, or at 0, and likewise upward"
  pub starts_at_furthest_end : (j : ℕ) → j ≤ n → start_at f way size n j ≡ furthest_before f way size n (start_at f way size n) j
  unfolding start_by
  starts_at_furthest_end j h = sym (no_longer_chain n j (omega arith))

  -- and the sentence fixes each start
  pub only_starts : (x : ℕ → ℕ) → Each (λ j. x j ≡ furthest_before f way size n x j) 1 (suc n) → Each (λ j. x j ≡ start_at f way size n j) 1 (suc n)
  only_starts x law j a b = go j j (omega arith) a (omega arith)
    where
      go : (fuel j : ℕ) → j ≤ fuel → 1 ≤ j → j ≤ n → x j ≡ start_at f way size n j
      go zero j h a b = absurd (omega arith)
      go (suc fuel) j h a b =
          law j a (omega arith) ∙ furthest_same x (start_at f way size n) j (λ i c d l. go fuel i (omega arith) c d)
          ∙ sym (starts_at_furthest_end j b)

  pub lowest_honour : Honours f way size n (start_at f way size n)
  lowest_honour i a b j c d p = omega (arith, starts_at_furthest_end j (omega arith), furthest_ge (start_at f way size n) j i a (omega arith) p)

  -- a placing honours the relations exactly if each room begins no earlier than the furthest room before it ends
  pub honours→furthest : (x : ℕ → ℕ) → Honours f way size n x → (j : ℕ) → 1 ≤ j → j ≤ n → furthest_before f way size n x j ≤ x j
  honours→furthest x honours j a b = furthest_smallest x j (x j) (λ i c d p. honours i c (omega arith) j a (omega arith) p)

  pub furthest→honours : (x : ℕ → ℕ) → ((j : ℕ) → 1 ≤ j → j ≤ n → furthest_before f way size n x j ≤ x j) → Honours f way size n x
  furthest→honours x late i a b j c d p = omega (arith, late j c (omega arith), furthest_ge x j i a (omega arith) p)

  -- "No placing from 0 up that honours all left and below relations puts any corner lower."
  pub none_lower : (x : ℕ → ℕ) → Honours f way size n x → (j : ℕ) → 1 ≤ j → j ≤ n → start_at f way size n j ≤ x j
  unfolding start_by
  none_lower x honours j a b = go n j a b
    where
      go : (k j : ℕ) → 1 ≤ j → j ≤ n → start_by f way size n k j ≤ x j
      go zero j a b = omega arith
      go (suc k) j a b = furthest_smallest (start_by f way size n k) j (x j)
          (λ i c d p. omega (arith, go k i c d, honours i c (omega arith) j a (omega arith) p))

  -- rooms of 16-bit sizes start no further than so many of the largest, one after the other
  pub start_small : Each (λ i. size i ≤ 65535) 1 (suc n) → (j : ℕ) → 1 ≤ j → j ≤ n → start_at f way size n j ≤ 65535 * (j - 1)
  start_small small = none_lower (λ j. 65535 * (j - 1)) (λ i a b j c d p. omega (arith, before→earlier f way p, small i a b))

  -- the first room starts at 0
  pub first_start : 1 ≤ n → start_at f way size n 1 ≡ 0
  first_start some = omega (
    arith,
    starts_at_furthest_end 1 some,
    furthest_smallest (start_at f way size n) 1 0 (λ i a b p. absurd (omega (arith, before→earlier f way p))),
  )

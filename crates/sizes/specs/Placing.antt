-- Placings: a lower-left corner for each room. A placing honours all left and below relations "exactly if each room ends, as a
-- whole-number sum, no later than every room right of it or above it begins in that direction".
use Rattle.std.specs.Prelude.{ℕ, suc, ◌+◌, ◌≤◌}
use Rattle.std.proofs.Math.Decide.{dec_le}
use Rattle.finite.specs.Decide.{dec-→}
use Rattle.finite.specs.Search.{Each}
use Rattle.finite.specs.First.{dec_each}
use Rattle.sizes.specs.Direction.{Direction, Before, dec_before}

-- in one direction, where x i is where room i begins: each room i ends no later than every room j begins that it stands before
abbrev pub Honours : (f : ℕ → ℕ) → Direction → (size : ℕ → ℕ) → (n : ℕ) → (x : ℕ → ℕ) → Type 0
Honours f way size n x = Each (λ i. Each (λ j. Before f way i j → x i + size i ≤ x j) 1 (suc n)) 1 (suc n)

unfoldable pub dec_honours : (f : ℕ → ℕ) (way : Direction) (size : ℕ → ℕ) (n : ℕ) (x : ℕ → ℕ) → Dec (Honours f way size n x)
unfolding dec_each dec-→ dec_le dec_before
dec_honours f way size n x =
    dec_each _ (λ i. dec_each _ (λ j. dec-→ (dec_before f way i j) (dec_le (x i + size i) (x j))) 1 (suc n)) 1 (suc n)

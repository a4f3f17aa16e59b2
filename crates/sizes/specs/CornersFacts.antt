-- What is said of the starts in one direction, said of the lists of corners: the corner at a position is where its room starts.
use Rattle.std.specs.Prelude.{List, ◌≡◌, length}
use Rattle.std.proofs.Common.{sym, ap, ◌∙◌, arith, ext_get_or}
use Prim.Native.Nat.{ℕ, zero, suc, ◌+◌}
use Rattle.finite.specs.Search.{Each}
use Rattle.finite.specs.Table.{length_table, get_d_table}
use Rattle.finite.specs.Extremes.{greatest, greatest_same}
use Rattle.record.specs.Labels.{label_at}
use Rattle.sizes.specs.Direction.{Direction}
use Rattle.sizes.specs.Lowest.{start_at, needed_length}
use Rattle.sizes.specs.Lists.{number_at, lowest_corners}

module _ (labels : List ℕ) (way : Direction) (sizes : List ℕ) where
  abbrev f : ℕ → ℕ
  f = label_at labels

  abbrev n : ℕ
  n = length labels

  pub corner_is : Each (λ j. number_at (lowest_corners labels way sizes) j ≡ start_at f way (number_at sizes) n j) 1 (suc n)
  unfolding lowest_corners
  corner_is zero a b = absurd (omega arith)
  corner_is (suc i) a b = get_d_table (λ i. start_at f way (number_at sizes) n (suc i)) n i 0 (omega arith)

  corners_length : length (lowest_corners labels way sizes) ≡ length labels
  unfolding lowest_corners
  corners_length = length_table _ n

  -- a list of n corners that are where the rooms start
  pub corners_are : (xs : List ℕ) → length xs ≡ length labels → Each (λ j. number_at xs j ≡ start_at f way (number_at sizes) n j) 1 (suc n)
      → xs ≡ lowest_corners labels way sizes
  corners_are xs long at = ext_get_or 0 xs (lowest_corners labels way sizes) (long ∙ sym corners_length)
      (λ i h. at (suc i) (omega arith) (omega arith) ∙ sym (corner_is (suc i) (omega arith) (omega arith)))

  -- the needed length is the furthest end
  pub needed_is : needed_length f way (number_at sizes) n ≡ greatest (λ i. number_at (lowest_corners labels way sizes) (suc i) + number_at sizes (suc i)) n
  needed_is = greatest_same _ _ n (λ i h. ap (λ (z : ℕ). z + number_at sizes (suc i)) (sym (corner_is (suc i) (omega arith) (omega arith))))

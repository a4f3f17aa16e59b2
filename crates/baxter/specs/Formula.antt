-- The formulas of document 000. With P(n, r) = C(n + 1, r) C(n + 1, r + 1) C(n + 1, r + 2) and D(n) = C(n + 1, 1) C(n + 1, 2): "The nth
-- Baxter number, B(n)," is the sum of P(n, r) / D(n) over r from 0 to n − 1 (2.1); "The number of mosaic floorplans with n blocks and r
-- vertical segments is" P(n, r) / D(n) (Corollary 4.2), where "every rise in the input permutation is mapped to a vertical segment".
use Rattle.std.specs.Prelude.{List, [], ◌∷◌, ◌≡◌, ℕ, zero, suc, ◌+◌, ◌*◌}
use Rattle.finite.specs.Sum.{sum}

-- the binomial coefficient C(n, k)
unfoldable pub choose : (n k : ℕ) → ℕ
choose n zero = 1
choose zero (suc k) = 0
choose (suc n) (suc k) = choose n k + choose n (suc k)

-- P(n, r)
unfoldable pub product : (n r : ℕ) → ℕ
unfolding choose
product n r = choose (n + 1) r * choose (n + 1) (r + 1) * choose (n + 1) (r + 2)

-- D(n), which is above 0 where n is
unfoldable pub divisor : (n : ℕ) → ℕ
unfolding choose
divisor n = choose (n + 1) 1 * choose (n + 1) 2

-- c is P(n, r) / D(n), and the division leaves no rest
abbrev pub CountByFormula : (n r c : ℕ) → Type 0
CountByFormula n r c = c * divisor n ≡ product n r

-- b is B(n)
abbrev pub BaxterNumber : (n b : ℕ) → Type 0
BaxterNumber n b = b * divisor n ≡ sum (product n) 0 n

-- B(1) to B(17), as Table I of document 003 has them in its column of mosaic floorplans, except that it prints 1,882,690 for 11 blocks
abbrev pub totals : List ℕ
totals =
    1 ∷ 2 ∷ 6 ∷ 22 ∷ 92 ∷ 422 ∷ 2074 ∷ 10754 ∷ 58202 ∷ 326240 ∷ 1882960 ∷ 11140560 ∷ 67329992 ∷ 414499438 ∷ 2593341586 ∷ 16458756586
    ∷ 105791986682 ∷ []

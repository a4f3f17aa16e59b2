-- The binary digits of a number, digit j being the one worth 2 ^ j: those of a quotient and of a remainder by a power of 2, and three of
-- them as a number. The laws are those of powers of 2, read at one digit.
use mathlib.Core.Path.{◌≡◌, ap, ◌∙◌}
use Prim.Native.Nat.{ℕ, ◌+◌, ◌-◌, ◌*◌, ◌/◌, ◌%◌, ◌^◌, ◌<◌}
use native.Mathlib.Omega.{arith}
use lib.Pow.{shr-shr, field, mod-mod-pow, mod-pow-add}

abbrev pub digit : ℕ → ℕ → ℕ
digit n j = n / 2 ^ j % 2

pub digit_of_quotient : (n m j : ℕ) → digit (n / 2 ^ m) j ≡ digit n (m + j)
digit_of_quotient n m j = ap (λ (x : ℕ). x % 2) (shr-shr n m j)

pub digit_of_remainder : (n m j : ℕ) → j < m → digit (n % 2 ^ m) j ≡ digit n j
digit_of_remainder n m j h =
    let e : m ≡ m - j - 1 + 1 + j = omega arith in
    rw e (ap (λ (x : ℕ). x % 2) (field n (m - j - 1 + 1) j) ∙ mod-mod-pow (n / 2 ^ j) (m - j - 1) 1)

three_lowest : (n : ℕ) → n % 8 ≡ 4 * (n / 4 % 2) + 2 * (n / 2 % 2) + n % 2
three_lowest n = omega (arith, mod-pow-add n 1 2, mod-pow-add n 1 1)

pub three_digits : (n j : ℕ) → n / 2 ^ j % 8 ≡ 4 * digit n (j + 2) + 2 * digit n (j + 1) + digit n j
three_digits n j = rw (← shr-shr n j 2, ← shr-shr n j 1) (three_lowest (n / 2 ^ j))

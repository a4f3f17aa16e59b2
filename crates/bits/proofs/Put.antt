-- A number v below 8 put into the digits d to d + 2 of a word by a mask and a shift: these digits are v's then, and the others are as they
-- were. What stands above the three digits, at them and below them is taken apart into those parts of the mask and of the shifted number,
-- which are computed for each d and v.
use mathlib.Core.Logic.{◌⊎◌, inl, inr}
use mathlib.Core.Path.{◌≡◌, sym, ap, ◌∙◌}
use Prim.Native.Nat.{ℕ, ◌+◌, ◌-◌, ◌*◌, ◌/◌, ◌%◌, ◌^◌, ◌≤◌, ◌<◌}
use native.Mathlib.Nat.{mod-mod}
use native.Mathlib.Omega.{arith}
use lib.Bits.{bit_and, bit_or, or_shr, or_mod, and_shr, and_mod, and_mask, or_zero_r, and_zero_r}
use lib.Dec.{T, eqb, eqb→eq}
use lib.Pow.{shr_mod}
use Rattle.finite.specs.Every.{every, every_at}
use Rattle.bits.proofs.Digit.{digit, digit_of_quotient, digit_of_remainder}

-- all ones but at the digits d to d + 2
abbrev mask : ℕ → ℕ
mask d = 65535 - 7 * 2 ^ d % 65536

-- the number v at the digits d to d + 2
abbrev shifted : ℕ → ℕ → ℕ
shifted d v = v * 2 ^ d % 65536

-- the word with v put in, as the code writes it
abbrev pub put : ℕ → ℕ → ℕ → ℕ
put word d v = bit_or (bit_and word (mask d)) (shifted d v)

module _ (d v : ℕ) (d_small : d < 14) (v-small : v < 8) where
  -- two functions that are the same by computation at each d and v
  same : (f g : ℕ → ℕ → ℕ) → T (every 14 (λ d. every 8 (λ v. eqb (f d v) (g d v)))) → f d v ≡ g d v
  same f g all =
      eqb→eq _ _
      (every_at 8 (λ v. eqb (f d v) (g d v)) (every_at 14 (λ d. every 8 (λ v. eqb (f d v) (g d v))) all d d_small) v v-small)

  mask_above : mask d / 2 ^ (d + 3) ≡ 2 ^ (13 - d) - 1
  mask_above = same (λ d v. mask d / 2 ^ (d + 3)) (λ d v. 2 ^ (13 - d) - 1) tt

  mask_here : mask d / 2 ^ d % 8 ≡ 0
  mask_here = same (λ d v. mask d / 2 ^ d % 8) (λ d v. 0) tt

  mask_below : mask d % 2 ^ d ≡ 2 ^ d - 1
  mask_below = same (λ d v. mask d % 2 ^ d) (λ d v. 2 ^ d - 1) tt

  shifted_above : shifted d v / 2 ^ (d + 3) ≡ 0
  shifted_above = same (λ d v. shifted d v / 2 ^ (d + 3)) (λ d v. 0) tt

  shifted_here : shifted d v / 2 ^ d % 8 ≡ v
  shifted_here = same (λ d v. shifted d v / 2 ^ d % 8) (λ d v. v) tt

  shifted_below : shifted d v % 2 ^ d ≡ 0
  shifted_below = same (λ d v. shifted d v % 2 ^ d) (λ d v. 0) tt

  module _ (word : ℕ) where
    put_above : word < 65536 → put word d v / 2 ^ (d + 3) ≡ word / 2 ^ (d + 3)
    put_above fits =
        let e : 13 - d + (d + 3) ≡ 16 = omega arith in
        let w : word < 2 ^ (13 - d + (d + 3)) = rw e fits in
        rw (or_shr, and_shr, mask_above, shifted_above, or_zero_r, and_mask, shr_mod (13 - d) (d + 3) w)

    -- the three digits are v
    pub put_here : put word d v / 2 ^ d % 8 ≡ v
    put_here = rw (or_shr, and_shr, or_mod _ _ 3, and_mod _ _ 3, mask_here, shifted_here, and_zero_r)

    put_below : put word d v % 2 ^ d ≡ word % 2 ^ d
    put_below = rw (or_mod, and_mod, mask_below, shifted_below, or_zero_r, and_mask) (mod-mod word (2 ^ d))

    -- every other digit is as it was
    pub put_other : word < 65536 → (j : ℕ) → (j < d) ⊎ (d + 3 ≤ j) → digit (put word d v) j ≡ digit word j
    put_other fits j (inl h) =
        sym (digit_of_remainder (put word d v) d j h) ∙ ap (λ (n : ℕ). digit n j) put_below ∙ digit_of_remainder word d j h
    put_other fits j (inr h) =
        let e : d + 3 + (j - (d + 3)) ≡ j = omega arith in
        rw (← e)
        (sym (digit_of_quotient (put word d v) (d + 3) (j - (d + 3))) ∙ ap (λ (n : ℕ). digit n (j - (d + 3))) (put_above fits)
        ∙ digit_of_quotient word (d + 3) (j - (d + 3)))

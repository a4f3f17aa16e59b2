-- Numbers with a sign: one negated, and one widened from 32 bits to 64.
use mathlib.Core.Path.{◌≡◌, ◌∙◌}
use Prim.Native.Nat.{ℕ, zero, suc, ◌^◌, ◌<◌}
use native.Mathlib.Omega.{arith}
use lib.IntN.{ℤ, pos, neg_ℤ, ◌-ℤ◌, +ℤ_idl}
use mir.Syntax.{Width, w32, w64}
use mir.Val.{SFits, hbits, to_z, of_z}
use mir.ValLaws.{to_z_pos, to_z-of_z}

module _ (w : Width) (n : ℕ) (small : n < 2 ^ hbits w) where
  -- the difference as the code computes it
  pub negated_is : pos 0 -ℤ to_z w n ≡ neg_ℤ (pos n)
  negated_is = rw (to_z_pos w n small) (+ℤ_idl (neg_ℤ (pos n)))

  pub negated_fits : SFits w (pos 0 -ℤ to_z w n)
  negated_fits = rw negated_is (go n small)
    where
      go : (n : ℕ) → n < 2 ^ hbits w → SFits w (neg_ℤ (pos n))
      go zero h = record { sfits = h }
      go (suc n) h = record { sfits = omega arith }

-- what a call returned in 32 bits, where it is widened to 64
pub widened_fits : {number : ℤ} → SFits w32 number → SFits w64 (to_z w32 (of_z w32 number))
widened_fits {number} f = rw (to_z-of_z w32 number f) (record { sfits = omega (arith, f.sfits) })

pub widened_is : {number : ℤ} → SFits w32 number → to_z w64 (of_z w64 (to_z w32 (of_z w32 number))) ≡ number
widened_is {number} f = to_z-of_z w64 (to_z w32 (of_z w32 number)) (widened_fits f) ∙ to_z-of_z w32 number f

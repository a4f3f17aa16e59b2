-- A list has a 0 exactly if its least number is one.
use mathlib.Core.List.{List}
use mathlib.Core.Path.{◌≡◌}
use Prim.Native.Nat.{ℕ, zero, suc, ◌<◌}
use native.Mathlib.Omega.{arith}
use lib.ListN.{length, get_or}
use Rattle.finite.specs.Decide.{stable}
use Rattle.finite.specs.Extremes.{least, least_le, least_largest}
use Rattle.sizes.specs.Sized.{HasZero, dec_has_zero}

module _ (sizes : List ℕ) where
  pub least_zero : 0 < length sizes → {v : ℕ} → v ≡ least (λ i. get_or sizes i 0) (length sizes) → v ≡ 0 → HasZero sizes
  least_zero some e z = stable (dec_has_zero sizes) (λ none.
      let one = least_largest (λ i. get_or sizes i 0) (length sizes) 1 some (λ i h.
      let not_zero : ¬ (get_or sizes i 0 ≡ 0) = λ q. none (suc i, omega arith, omega arith, q) in omega arith) in
      omega arith)

  pub zero_least : {v : ℕ} → v ≡ least (λ i. get_or sizes i 0) (length sizes) → HasZero sizes → v ≡ 0
  zero_least e (zero, a, b, q) = absurd (omega arith)
  zero_least e (suc i, a, b, q) = omega (arith, least_le (λ i. get_or sizes i 0) (length sizes) i (omega arith))

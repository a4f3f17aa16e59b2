-- What is put of the digits of a label.
use mathlib.Core.Bool.{Bool, true, false}
use mathlib.Core.List.{List, [], ◌∷◌, ◌++◌}
use mathlib.Core.Path.{◌≡◌, refl, sym, ap, ◌∙◌}
use Prim.Native.Nat.{ℕ, suc, ◌+◌, ◌/◌, ◌%◌, ◌<◌}
use native.Mathlib.Omega.{arith}
use lib.ListN.{set}
use lib.Seq.{set-set, sets}
use Rattle.std.specs.Int.{from_bool}
use Rattle.bits.specs.Bit.{bit}
use Rattle.digits.specs.Decimal.{space, digit, decimal, field}
use Rattle.labeltext.specs.TidySize.{tens, hundreds, Digits, one, two, three, digits}
use Rattle.tidy.specs.Digits.{DigitsOf}

pub bit_is : (b : Bool) → from_bool b ≡ bit b
bit_is true = refl
bit_is false = refl

-- three digits are put, each over the one before where that was none, and a space
module _ (label : ℕ) (text : List ℕ) (at : ℕ) where
  abbrev put : ℕ → ℕ → ℕ → ℕ → ℕ → ℕ → List ℕ
  put i j k x y z = set (set (set (set text at x) i y) j z) k space

  pub digits_put : label < 1000 → {x y z : ℕ} → DigitsOf label x y z
      → (i j k : ℕ) → i ≡ at + hundreds label → j ≡ i + tens label → k ≡ j + 1
      → put i j k x y z ≡ sets text at (field label space)
  digits_put h {x} {y} {z} is i j k second third last = go (digits label h)
    where
      whole : (word : List ℕ) → decimal label ≡ word → sets text at (field label space) ≡ sets text at (word ++ (space ∷ []))
      whole word e = ap (λ (w : List ℕ). sets text at (w ++ (space ∷ []))) e

      go : Digits label → put i j k x y z ≡ sets text at (field label space)
      go (one low t u e) =
          let a : i ≡ at = omega arith in
          let b : j ≡ at = omega arith in
          let c : k ≡ suc at = omega arith in
          let d : z ≡ digit label = omega (arith, is.third) in
          (λ m. put (a m) (b m) (c m) x y (d m))
          ∙ ap (λ (l : List ℕ). set (set l at (digit label)) (suc at) space) (set-set text at x y)
          ∙ ap (λ (l : List ℕ). set l (suc at) space) (set-set text at y (digit label))
          ∙ sym (whole (digit label ∷ []) e)
      go (two t u low e) =
          let a : i ≡ at = omega arith in
          let b : j ≡ suc at = omega arith in
          let c : k ≡ suc (suc at) = omega arith in
          let d : y ≡ digit (label / 10) = omega (arith, is.second) in
          (λ m. put (a m) (b m) (c m) x (d m) (is.third m))
          ∙ ap (λ (l : List ℕ). set (set l (suc at) (digit (label % 10))) (suc (suc at)) space) (set-set text at x (digit (label / 10)))
          ∙ sym (whole (digit (label / 10) ∷ digit (label % 10) ∷ []) e)
      go (three t u e) =
          let a : i ≡ suc at = omega arith in
          let b : j ≡ suc (suc at) = omega arith in
          let c : k ≡ suc (suc (suc at)) = omega arith in
          let d : x ≡ digit (label / 10 / 10) = omega (arith, is.first) in
          (λ m. put (a m) (b m) (c m) (d m) (is.second m) (is.third m))
          ∙ sym (whole (digit (label / 10 / 10) ∷ digit (label / 10 % 10) ∷ digit (label % 10) ∷ []) e)

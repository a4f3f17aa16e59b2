-- The digits of a number: those of its tenth and the last one, at most five for an unsigned 16-bit number and
-- twenty for one of 64 bits.
use Rattle.std.specs.Prelude.{List, [], ◌∷◌, ◌++◌, ◌≡◌, refl, ℕ, zero, suc, ◌+◌, ◌*◌, ◌/◌, ◌%◌, ◌^◌, ◌≤◌, ◌<◌, length}
use Rattle.std.proofs.Math.Logic.{if_pos, if_neg}
use Rattle.std.proofs.Common.{sym, ap, ◌∙◌, arith, length-append}
use Rattle.std.proofs.Math.Decide.{dec_lt}
use Rattle.std.specs.Fmt.{decimal as printed}
use Rattle.std.proofs.lemmas.Fmt.{AppendsLastDigit, decimal_from_appends, length-decimal-le}
use Rattle.digits.specs.Decimal.{digit, digits_in, decimal}

-- as many turns as the number says are enough
turns_same : (one other number : ℕ) → number ≤ one → number ≤ other → digits_in one number ≡ digits_in other number
unfolding digits_in
turns_same zero zero number h k = refl
turns_same zero (suc other) number h k = sym (if_pos (dec_lt number 10) (omega arith) _ _)
turns_same (suc one) zero number h k = if_pos (dec_lt number 10) (omega arith) _ _
turns_same (suc one) (suc other) number h k = elim (dec_lt number 10) [
  | yes small ↦ if_pos (dec_lt number 10) small _ _ ∙ sym (if_pos (dec_lt number 10) small _ _)
  | no large ↦
      if_neg (dec_lt number 10) large _ _
      ∙ ap (λ (l : List ℕ). l ++ (digit (number % 10) ∷ [])) (turns_same one other (number / 10) (omega arith) (omega arith))
      ∙ sym (if_neg (dec_lt number 10) large _ _)
]

-- a digit
pub decimal_one : (number : ℕ) → number < 10 → decimal number ≡ digit number ∷ []
unfolding decimal digits_in
decimal_one zero h = refl
decimal_one (suc number) h = if_pos (dec_lt (suc number) 10) h _ _

-- more than one
pub decimal_more : (number : ℕ) → 10 ≤ number → decimal number ≡ decimal (number / 10) ++ (digit (number % 10) ∷ [])
unfolding decimal digits_in
decimal_more zero h = absurd (omega arith)
decimal_more (suc number) h =
    if_neg (dec_lt (suc number) 10) (λ small. omega arith) _ _
    ∙ ap (λ (l : List ℕ). l ++ (digit (suc number % 10) ∷ []))
    (turns_same number (suc number / 10) (suc number / 10) (omega arith) (omega arith))

-- two and three of them
pub decimal_two : (number : ℕ) → 10 ≤ number → number < 100 → decimal number ≡ digit (number / 10) ∷ digit (number % 10) ∷ []
decimal_two number low high =
    decimal_more number low ∙ ap (λ (l : List ℕ). l ++ (digit (number % 10) ∷ [])) (decimal_one (number / 10) (omega arith))

pub decimal_three : (number : ℕ) → 100 ≤ number → number < 1000
    → decimal number ≡ digit (number / 10 / 10) ∷ digit (number / 10 % 10) ∷ digit (number % 10) ∷ []
decimal_three number low high =
    decimal_more number (omega arith)
    ∙ ap (λ (l : List ℕ). l ++ (digit (number % 10) ∷ [])) (decimal_two (number / 10) (omega arith) (omega arith))

-- a digit more than its tenth has
pub length_more : (number : ℕ) → 10 ≤ number → length (decimal number) ≡ length (decimal (number / 10)) + 1
length_more number h = ap length (decimal_more number h) ∙ length-append (decimal (number / 10)) (digit (number % 10) ∷ [])

-- a number below 10 ^ (places + 1) has at most places + 1 of them
pub short : (places number : ℕ) → number < 10 * 10 ^ places → length (decimal number) ≤ suc places
short zero number h = omega (arith, ap length (decimal_one number (omega arith)))
short (suc places) number h = elim (dec_lt number 10) [
  | yes small ↦ omega (arith, ap length (decimal_one number small))
  | no large ↦ omega (arith, length_more number (omega arith), short places (number / 10) (omega arith))
]

-- what the library prints of a number
pub library_decimal : (number : ℕ) → number < 2 ^ 64 → printed number ≡ decimal number
library_decimal number h =
    let last : AppendsLastDigit (λ turns n. decimal n) = record { one = λ turns. decimal_one; more = λ turns. decimal_more } in
    sym (decimal_from_appends (λ turns n. decimal n) last 20 number h (length-decimal-le 20 number (omega arith) (omega arith) h))

pub decimal_short : (number : ℕ) → number < 65536 → length (decimal number) ≤ 5
decimal_short number h =
    omega (arith, ap length (library_decimal number (omega arith)), length-decimal-le 5 number (omega arith) (omega arith) (omega arith))

pub decimal_wide : (number : ℕ) → number < 2 ^ 64 → length (decimal number) ≤ 20
decimal_wide number h = omega (arith, ap length (library_decimal number h), length-decimal-le 20 number (omega arith) (omega arith) h)

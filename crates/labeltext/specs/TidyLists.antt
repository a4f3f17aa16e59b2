-- The tidy text of a list keeps the form and lists it: its numbers have one to three digits, and one space stands between them.
use Rattle.std.specs.Prelude.{List, [], ◌∷◌, ◌≡◌, ℕ, suc, ◌+◌, ◌*◌, ◌/◌, ◌%◌, ◌<◌, length, get_or}
use Rattle.std.proofs.Common.{sym, subst, arith}
use Rattle.std.proofs.Math.Decide.{dec_lt}
use Rattle.digits.specs.Decimal.{decimal}
use Rattle.digits.specs.Digits.{decimal_one, decimal_two, decimal_three}
use Rattle.labeltext.specs.Form as form
use Rattle.labeltext.specs.Form.{Number, After, Line, Lists, some_spaces}
use Rattle.labeltext.specs.Tidy.{tidy_rest, tidy_line, tidy_text}

-- each number of a list is below 1,000
abbrev pub Small : List ℕ → Type 0
Small [] = Unit
Small (number ∷ numbers) = (number < 1000) × Small numbers

pub small : (numbers : List ℕ) → ((i : ℕ) → i < length numbers → get_or numbers i 0 < 1000) → Small numbers
small [] h = tt
small (number ∷ numbers) h = (h 0 (omega arith), small numbers (λ i l. h (suc i) (omega arith)))

-- the digits of a number below 1,000 are a word of one to three digits
decimal_number : (n : ℕ) → n < 1000 → Number (decimal n) n
decimal_number n h = elim (dec_lt n 10) [
  | yes a ↦ subst (λ (w : List ℕ). Number w n) (sym (decimal_one n a)) (form.one n a)
  | no a ↦ elim (dec_lt n 100) [
    | yes b ↦
        let is : 10 * (n / 10) + n % 10 ≡ n = omega arith in
        subst (λ (w : List ℕ). Number w n) (sym (decimal_two n (omega arith) b))
        (subst (Number _) is (form.two (n / 10) (n % 10) (omega arith) (omega arith)))
    | no b ↦
        let m : ℕ = n / 10 in
        let is : 100 * (m / 10) + 10 * (m % 10) + n % 10 ≡ n = omega arith in
        subst (λ (w : List ℕ). Number w n) (sym (decimal_three n (omega arith) h))
        (subst (Number _) is (form.three (m / 10) (m % 10) (n % 10) (omega arith) (omega arith) (omega arith)))
  ]
]

-- ---- it lists the numbers
rest_after : (numbers : List ℕ) → Small numbers → After (tidy_rest numbers) numbers
unfolding tidy_rest
rest_after [] s = form.last 0
rest_after (number ∷ numbers) (h, s) = form.next (some_spaces 0) (decimal_number number h) (rest_after numbers s)

tidy_line_lem : (numbers : List ℕ) → Small numbers → Line (tidy_line numbers) numbers
unfolding tidy_line
tidy_line_lem [] s = form.none 0
tidy_line_lem (number ∷ numbers) (h, s) = form.some 0 (decimal_number number h) (rest_after numbers s)

pub tidy_lists : (numbers : List ℕ) → Small numbers → Lists (tidy_text numbers) numbers
tidy_lists numbers s = form.ended (tidy_line_lem numbers s)

-- "The tidy form: no leading zeros, one space between, one newline at the end."
use Rattle.std.specs.Prelude.{List, [], ◌∷◌, ◌++◌, ℕ}
use Rattle.digits.specs.Decimal.{space, newline, decimal}

-- what stands after a number: nothing, where it was the last one; or a space, the next number, and what stands after that
unfoldable pub tidy_rest : (numbers : List ℕ) → List ℕ
unfolding decimal
tidy_rest [] = []
tidy_rest (number ∷ numbers) = space ∷ (decimal number ++ tidy_rest numbers)

-- "no leading zeros, one space between"
unfoldable pub tidy_line : (numbers : List ℕ) → List ℕ
unfolding decimal tidy_rest
tidy_line [] = []
tidy_line (number ∷ numbers) = decimal number ++ tidy_rest numbers

-- "one newline at the end"
abbrev pub tidy_text : (numbers : List ℕ) → List ℕ
tidy_text numbers = tidy_line numbers ++ (newline ∷ [])

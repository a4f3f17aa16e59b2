-- The form of a text. "Numbers of one to three decimal digits, leading zeros allowed. Between two numbers stand one or more spaces,
-- or one comma with any spaces round it. Spaces may stand before the first and after the last number, and one newline may end the
-- text."
use Rattle.std.specs.Prelude.{List, [], ◌∷◌, ◌++◌, ℕ, suc, ◌+◌, ◌*◌, ◌≤◌, ◌<◌, length, replicate}
use Rattle.digits.specs.Decimal.{space, newline, digit}

abbrev pub comma : ℕ
comma = 44

-- so many spaces
abbrev pub spaces : ℕ → List ℕ
spaces k = replicate k space

-- "numbers of one to three decimal digits, leading zeros allowed": the bytes of a word, and its number
pub data Number : (word : List ℕ) → ℕ → Type 0 where
  one : (a : ℕ) → a < 10 → Number (digit a ∷ []) a
  two : (a b : ℕ) → a < 10 → b < 10 → Number (digit a ∷ digit b ∷ []) (10 * a + b)
  three : (a b c : ℕ) → a < 10 → b < 10 → c < 10 → Number (digit a ∷ digit b ∷ digit c ∷ []) (100 * a + 10 * b + c)

-- "Between two numbers stand one or more spaces, or one comma with any spaces round it."
pub data Between : List ℕ → Type 0 where
  some_spaces : (k : ℕ) → Between (spaces (suc k))
  one_comma : (k l : ℕ) → Between (spaces k ++ comma ∷ spaces l)

-- what stands after a number, and the numbers listed there: spaces, where it was the last one; or what stands between two numbers,
-- the next number, and what stands after that
pub data After : (line numbers : List ℕ) → Type 0 where
  last : (k : ℕ) → After (spaces k) []
  next : {between word line numbers : List ℕ} {number : ℕ} → Between between → Number word number → After line numbers
      → After (between ++ (word ++ line)) (number ∷ numbers)

-- a line, and the numbers listed there: spaces, where there is no number; or spaces, the first number, and what stands after it
pub data Line : (line numbers : List ℕ) → Type 0 where
  none : (k : ℕ) → Line (spaces k) []
  some : {word line numbers : List ℕ} {number : ℕ} (k : ℕ) → Number word number → After line numbers
      → Line (spaces k ++ (word ++ line)) (number ∷ numbers)

-- a text, and the numbers listed there: a line, and "one newline may end the text"
pub data Lists : (text numbers : List ℕ) → Type 0 where
  bare : {line numbers : List ℕ} → Line line numbers → Lists line numbers
  ended : {line numbers : List ℕ} → Line line numbers → Lists (line ++ (newline ∷ [])) numbers

-- "a text of at most 4,096 bytes" that keeps the form
pub record KeepsForm (text : List ℕ) : Type 0 where
  pub short : length text ≤ 4096
  pub numbers : List ℕ
  pub lists : Lists text numbers

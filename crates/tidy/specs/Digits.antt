-- The three digits of a label as bytes, with zeros in front where it has fewer; and those of each label of a list, in three arrays.
use Rattle.std.specs.Prelude.{List, ◌≡◌, ℕ, ◌/◌, ◌%◌, ◌<◌, length, get_or}
use Rattle.digits.specs.Decimal.{digit}

abbrev pub hundred_of : ℕ → ℕ
hundred_of label = digit (label / 100)

abbrev pub ten_of : ℕ → ℕ
ten_of label = digit (label / 10 % 10)

abbrev pub one_of : ℕ → ℕ
one_of label = digit (label % 10)

pub record DigitsOf (label hundred ten one : ℕ) : Type 0 where
  pub first : hundred ≡ hundred_of label
  pub second : ten ≡ ten_of label
  pub third : one ≡ one_of label

-- the digits of label k stand at place k
abbrev pub AllDigits : (labels hundreds tens ones : List ℕ) → Type 0
AllDigits labels hundreds tens ones =
    (k : ℕ) → k < length labels → DigitsOf (get_or labels k 0) (get_or hundreds k 0) (get_or tens k 0) (get_or ones k 0)

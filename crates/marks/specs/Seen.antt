-- Marks for labels that have been seen. "However that check is done now, let it mark seen labels in 32 bytes, one bit each."
use Rattle.std.specs.Prelude.{List, ◌≡◌, ℕ, zero, suc, ◌/◌, ◌%◌, replicate}
use Rattle.finite.specs.BitTable.{digit_of, with_digit}
use Rattle.finite.specs.Search.{Some}

-- the mark of a label: bit v / 32, counted from the low end, of byte v % 32 for label v
abbrev pub mark_of : (seen : List ℕ) (label : ℕ) → ℕ
mark_of seen label = digit_of seen (label % 32) (label / 32)

-- with one label more: its bit is 1
abbrev pub with_label : (seen : List ℕ) (label : ℕ) → List ℕ
with_label seen label = with_digit seen (label % 32) (label / 32) 1

-- "after any number of labels": the marks when the first k labels of a row have been seen
unfoldable pub seen_after : (row : ℕ → ℕ) (k : ℕ) → List ℕ
seen_after row zero = replicate 32 0
seen_after row (suc k) = with_label (seen_after row k) (row k)

-- "the label is among them"
abbrev pub Among : (row : ℕ → ℕ) (k label : ℕ) → Type 0
Among row k label = Some (λ i. row i ≡ label) 0 k

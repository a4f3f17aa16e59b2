-- Label lists. "The label list gives the labels by position." Positions count from 1, and so do labels.
use Rattle.std.specs.Prelude.{◌≡◌, ◌⊎◌, List, ℕ, zero, suc, ◌-◌, ◌≤◌, ◌<◌, length, get_or}
use Rattle.std.proofs.Common.{ap, arith}
use Rattle.finite.specs.Search.{Some}

-- the label at position i of a list; there is no position 0
abbrev pub label_at : List ℕ → ℕ → ℕ
label_at labels zero = 0
label_at labels (suc i) = get_or labels i 0

-- it is the entry of index i - 1, since entries count from 0
pub label_at_lem : (labels : List ℕ) (i : ℕ) → 1 ≤ i → get_or labels (i - 1) 0 ≡ label_at labels i
label_at_lem labels zero h = absurd (omega arith)
label_at_lem labels (suc i) h = ap (λ (k : ℕ). get_or labels k 0) (omega arith)

-- some position of 1 to n has the property
abbrev pub SomePosition : (ℕ → Type 0) → ℕ → Type 0
SomePosition P n = Some P 1 (suc n)

-- "label outside 1 to n"
abbrev pub LabelOutside : List ℕ → Type 0
LabelOutside labels = SomePosition (λ i. (label_at labels i < 1) ⊎ (length labels < label_at labels i)) (length labels)

-- "label occurs twice": at position j and at an earlier one
abbrev pub LabelTwice : List ℕ → Type 0
LabelTwice labels = SomePosition (λ j. Some (λ i. label_at labels i ≡ label_at labels j) 1 j) (length labels)

-- "a list of the labels 1 to n, each once"; f is the label at a position
pub record EachOnce (f : ℕ → ℕ) (n : ℕ) : Type 0 where
  pub range : (i : ℕ) → 1 ≤ i → i ≤ n → (1 ≤ f i) × (f i ≤ n)
  pub once : (i j : ℕ) → 1 ≤ i → i ≤ n → 1 ≤ j → j ≤ n → f i ≡ f j → i ≡ j

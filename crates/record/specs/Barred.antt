-- Barred patterns. "A list of the labels 1 to n, each once, is Baxter if no positions i < j < k < l have labels a, b, c, d there
-- with c < a + 1 = d < b, or with b < d + 1 = a < c."
use Rattle.std.specs.Prelude.{◌≡◌, ◌⊎◌, List, ℕ, ◌+◌, ◌<◌, length}
use Rattle.finite.specs.Search.{Some}
use Rattle.record.specs.Labels.{label_at, SomePosition, EachOnce}

-- the first condition
abbrev pub BarredFirst : (a b c d : ℕ) → Type 0
BarredFirst a b c d = (c < a + 1) × (a + 1 ≡ d) × (d < b)

-- the second condition
abbrev pub BarredSecond : (a b c d : ℕ) → Type 0
BarredSecond a b c d = (b < d + 1) × (d + 1 ≡ a) × (a < c)

-- the labels f of positions 1 to n have a barred pattern
abbrev pub Barred : (ℕ → ℕ) → ℕ → Type 0
Barred f n =
    SomePosition (λ l. Some (λ k. Some (λ j. Some (λ i. BarredFirst (f i) (f j) (f k) (f l) ⊎ BarredSecond (f i) (f j) (f k) (f l)) 1 j) 1 k) 1 l) n

-- a Baxter list
pub record Baxter (labels : List ℕ) : Type 0 where
  pub each_once : EachOnce (label_at labels) (length labels)
  pub not_barred : ¬ Barred (label_at labels) (length labels)

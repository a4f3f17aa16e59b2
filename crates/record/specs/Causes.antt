-- The causes for which a label list is refused, each decided.
use Rattle.std.specs.Prelude.{◌≡◌, ◌⊎◌, List, ℕ, suc, ◌+◌, ◌<◌, length}
use Rattle.std.proofs.Math.Decide.{dec_lt, ℕ_discrete}
use Rattle.finite.specs.Decide.{dec-×₃, dec-⊎}
use Rattle.finite.specs.Search.{dec_some}
use Rattle.record.specs.Labels.{label_at, LabelOutside, LabelTwice}
use Rattle.record.specs.Barred.{BarredFirst, BarredSecond, Barred}

-- "room or label list of 0 or over 255 entries"
abbrev pub BadCount : ℕ → Type 0
BadCount n = (n ≡ 0) ⊎ (255 < n)

unfoldable pub dec_count : (n : ℕ) → Dec (BadCount n)
unfolding dec-⊎ ℕ_discrete dec_lt
dec_count n = dec-⊎ (ℕ_discrete n 0) (dec_lt 255 n)

unfoldable pub dec_outside : (labels : List ℕ) → Dec (LabelOutside labels)
unfolding dec_some dec-⊎ dec_lt
dec_outside labels = dec_some _ (λ i. dec-⊎ (dec_lt (label_at labels i) 1) (dec_lt (length labels) (label_at labels i))) 1 (suc (length labels))

unfoldable pub dec_twice : (labels : List ℕ) → Dec (LabelTwice labels)
unfolding dec_some ℕ_discrete
dec_twice labels = dec_some _ (λ j. dec_some _ (λ i. ℕ_discrete (label_at labels i) (label_at labels j)) 1 j) 1 (suc (length labels))

-- four labels meet the first condition or the second
unfoldable pub dec_meets : (a b c d : ℕ) → Dec (BarredFirst a b c d ⊎ BarredSecond a b c d)
unfolding dec-⊎ dec-×₃ ℕ_discrete dec_lt
dec_meets a b c d =
    dec-⊎ (dec-×₃ (dec_lt c (a + 1)) (ℕ_discrete (a + 1) d) (dec_lt d b)) (dec-×₃ (dec_lt b (d + 1)) (ℕ_discrete (d + 1) a) (dec_lt a c))

unfoldable pub dec_barred : (f : ℕ → ℕ) (n : ℕ) → Dec (Barred f n)
unfolding dec_some dec_meets
dec_barred f n =
    dec_some _ (λ l. dec_some _ (λ k. dec_some _ (λ j. dec_some _ (λ i. dec_meets (f i) (f j) (f k) (f l)) 1 j) 1 k) 1 l) 1 (suc n)

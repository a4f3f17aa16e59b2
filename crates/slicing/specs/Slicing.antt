-- Slicing plans. "A plan is slicing exactly if no four of its labels, in order of position, are shaped like 2413 or 3142."
use Rattle.std.specs.Prelude.{◌⊎◌, ℕ, suc, ◌<◌}
use Rattle.std.proofs.Math.Decide.{dec_lt}
use Rattle.finite.specs.Decide.{dec-×₃, dec-⊎}
use Rattle.finite.specs.Search.{Some, dec_some}

-- four labels "shaped like 2413", and "like 3142"
abbrev pub Shaped2413 : (a b c d : ℕ) → Type 0
Shaped2413 a b c d = (c < a) × (a < d) × (d < b)

abbrev pub Shaped3142 : (a b c d : ℕ) → Type 0
Shaped3142 a b c d = (b < d) × (d < a) × (a < c)

-- some positions i < j < k < l from s on and before e have labels shaped so, where f is the label at a position
abbrev pub ShapedWithin : (ℕ → ℕ) → (s e : ℕ) → Type 0
ShapedWithin f s e =
    Some (λ l. Some (λ k. Some (λ j. Some (λ i. Shaped2413 (f i) (f j) (f k) (f l) ⊎ Shaped3142 (f i) (f j) (f k) (f l)) s j) s k) s l)
    s e

-- four labels of a plan of n rooms are shaped so
abbrev pub Shaped : (ℕ → ℕ) → (n : ℕ) → Type 0
Shaped f n = ShapedWithin f 1 (suc n)

-- "no four of its labels"
abbrev pub Slicing : (ℕ → ℕ) → (n : ℕ) → Type 0
Slicing f n = ¬ Shaped f n

unfoldable pub dec_shaped : (f : ℕ → ℕ) (n : ℕ) → Dec (Shaped f n)
unfolding dec-×₃ dec-⊎ dec_some dec_lt
dec_shaped f n =
    dec_some _ (λ l. dec_some _ (λ k. dec_some _ (λ j. dec_some _ (λ i. four (f i) (f j) (f k) (f l)) 1 j) 1 k) 1 l) 1 (suc n)
  where
    four : (a b c d : ℕ) → Dec (Shaped2413 a b c d ⊎ Shaped3142 a b c d)
    four a b c d = dec-⊎ (dec-×₃ (dec_lt c a) (dec_lt a d) (dec_lt d b)) (dec-×₃ (dec_lt b d) (dec_lt d a) (dec_lt a c))

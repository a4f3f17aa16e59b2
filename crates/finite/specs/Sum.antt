-- The sum of f i over the numbers i with a ≤ i < e, and its laws: it grows with its summands, it splits at a middle
-- point, and equal summands give equal sums.
use Rattle.std.specs.Prelude.{cond, ◌≡◌, refl, ℕ, zero, suc, ◌+◌, ◌-◌, ◌≤◌, ◌<◌, leb}
use Rattle.std.proofs.Common.{ap, ◌∙◌, inl, inr, eq-or-lt_of_le, le_of_suc-le-suc, arith, le-leb}
use Rattle.std.proofs.lemmas.Bool.{lt-leb}
use Rattle.finite.specs.Decide.{le_or_lt}
use Rattle.finite.specs.Search.{Each}

-- the sum of f i over the i with a ≤ i < e: nothing where e ≤ a
unfoldable pub sum : (ℕ → ℕ) → ℕ → ℕ → ℕ
sum f a zero = 0
sum f a (suc e) = cond (leb a e) (sum f a e + f e) 0

-- a range without numbers sums to nothing
pub sum_empty : (f : ℕ → ℕ) (a e : ℕ) → e ≤ a → sum f a e ≡ 0
unfolding sum
sum_empty f a zero h = refl
sum_empty f a (suc e) h = simp (lt-leb a e h)

-- one number more adds its summand
pub sum_last : (f : ℕ → ℕ) (a e : ℕ) → a ≤ e → sum f a (suc e) ≡ sum f a e + f e
unfolding sum
sum_last f a e h = simp (le-leb a e h)

-- a middle point splits a sum in two
pub sum_split : (f : ℕ → ℕ) (a m e : ℕ) → a ≤ m → m ≤ e → sum f a m + sum f m e ≡ sum f a e
unfolding sum
sum_split f a m zero h l = omega (arith, sum_empty f a m (omega arith))
sum_split f a m (suc e) h l = elim (eq-or-lt_of_le l) [
  | inl q ↦ ap (λ (x : ℕ). sum f a x + sum f x (suc e)) q ∙ omega (arith, sum_empty f (suc e) (suc e) (omega arith))
  | inr k ↦ omega (arith, sum_split f a m e h (le_of_suc-le-suc k), sum_last f m e (omega arith), sum_last f a e (omega arith))
]

-- a sum of ones is the length of the range
pub sum_ones : (a e : ℕ) → sum (λ i. 1) a e ≡ e - a
sum_ones a zero = omega (arith, sum_empty (λ i. 1) a 0 (omega arith))
sum_ones a (suc e) = elim (le_or_lt a e) [
  | inl h ↦ omega (arith, sum_ones a e, sum_last (λ i. 1) a e h)
  | inr h ↦ omega (arith, sum_empty (λ i. 1) a (suc e) h)
]

-- where no summand is larger, the sum is not
pub sum_le : (f g : ℕ → ℕ) (a e : ℕ) → Each (λ i. f i ≤ g i) a e → sum f a e ≤ sum g a e
unfolding sum
sum_le f g a zero le = omega arith
sum_le f g a (suc e) le = elim (le_or_lt a e) [
  | inl h ↦ omega (arith, sum_last f a e h, sum_last g a e h, le e h (omega arith), sum_le f g a e (λ i b c. le i b (omega arith)))
  | inr h ↦ omega (arith, sum_empty f a (suc e) h)
]

-- where moreover one is smaller, the sum is
pub sum_lt : (f g : ℕ → ℕ) (a e : ℕ) → Each (λ i. f i ≤ g i) a e → (j : ℕ) → a ≤ j → j < e → f j < g j → sum f a e < sum g a e
sum_lt f g a e le j from to less =
    let below = sum_le f g a j (λ i b c. le i b (omega arith)) in
    let above = sum_le f g (suc j) e (λ i b c. le i (omega arith) c) in
    omega (arith, sum_split f a (suc j) e (omega arith) to, sum_split g a (suc j) e (omega arith) to, sum_last f a j from, sum_last g a j from)

-- equal summands give equal sums
pub sum_same : (f g : ℕ → ℕ) (a e : ℕ) → Each (λ i. f i ≡ g i) a e → sum f a e ≡ sum g a e
sum_same f g a e same =
    omega (arith, sum_le f g a e (λ i b c. omega (arith, same i b c)), sum_le g f a e (λ i b c. omega (arith, same i b c)))

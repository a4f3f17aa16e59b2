-- The list of f 0 to f (n - 1).
use Rattle.std.specs.Prelude.{◌≡◌, refl, List, [], ◌∷◌, ◌++◌, ℕ, zero, suc, ◌+◌, ◌≤◌, ◌<◌, length, get_or, take}
use Rattle.std.proofs.Common.{ap, ◌∙◌, not-suc-le-zero, arith}

unfoldable pub table : {A : Type 0} → (ℕ → A) → ℕ → List A
table f zero = []
table f (suc n) = f 0 ∷ table (λ i. f (suc i)) n

pub length_table : {A : Type 0} (f : ℕ → A) (n : ℕ) → length (table f n) ≡ n
unfolding table
length_table f zero = refl
length_table f (suc n) = ap suc (length_table (λ i. f (suc i)) n)

pub get_d_table : {A : Type 0} (f : ℕ → A) (n i : ℕ) (z : A) → i < n → get_or (table f n) i z ≡ f i
unfolding table
get_d_table f zero i z h = absurd (not-suc-le-zero h)
get_d_table f (suc n) zero z h = refl
get_d_table f (suc n) (suc i) z h = get_d_table (λ i. f (suc i)) n i z (omega arith)

pub take_table : {A : Type 0} (f : ℕ → A) (m k : ℕ) → k ≤ m → take k (table f m) ≡ table f k
unfolding table
take_table f m zero h = refl
take_table f zero (suc k) h = absurd (not-suc-le-zero h)
take_table f (suc m) (suc k) h = ap (λ (rest : List _). f 0 ∷ rest) (take_table (λ i. f (suc i)) m k (omega arith))

-- two functions that agree as far as n
pub table_same : {A : Type 0} (f g : ℕ → A) (n : ℕ) → ((i : ℕ) → i < n → f i ≡ g i) → table f n ≡ table g n
unfolding table
table_same f g zero h = refl
table_same f g (suc n) h = λ j. h 0 (omega arith) j ∷ table_same (λ i. f (suc i)) (λ i. g (suc i)) n (λ i l. h (suc i) (omega arith)) j

-- one list after the other
pub table_append : {A : Type 0} (f : ℕ → A) (n m : ℕ) → table f (n + m) ≡ table f n ++ table (λ i. f (n + i)) m
unfolding table
table_append f zero m =
    let same : 0 + m ≡ m = omega arith in
    ap (table f) same ∙ table_same f (λ i. f (0 + i)) m (λ i h. ap f (omega arith))
table_append f (suc n) m =
    let same : suc n + m ≡ suc (n + m) = omega arith in
    ap (table f) same ∙ ap (λ (rest : List _). f 0 ∷ rest) (table_append (λ i. f (suc i)) n m
    ∙ ap (λ (rest : List _). table (λ i. f (suc i)) n ++ rest)
    (table_same (λ i. f (suc (n + i))) (λ i. f (suc n + i)) m (λ i h. ap f (omega arith))))

-- How many numbers of a range have a property; an injection of a range into itself is onto, and a sum keeps its value where its
-- summands change places; and ranks: in a strict total order on the numbers below n, the counts of what stands below each number
-- are the numbers below n, each once, and a map that keeps the order keeps them.
use Rattle.std.specs.Prelude.{cond, ◌≢◌, ◌⊎◌, ◌≡◌, refl, ℕ, zero, suc, ◌+◌, ◌-◌, ◌≤◌, ◌<◌, min, eqb}
use Rattle.std.proofs.Common.{inl, inr, sym, ap, ◌∙◌, zero-le, not-suc-le-zero, arith, eq-eqb, ne_eqb}
use Rattle.finite.specs.Decide.{le_or_lt, eq_or_ne}
use Rattle.finite.specs.Search.{Some, Each}
use Rattle.finite.specs.Sum.{sum, sum_lt, sum_ones, sum_same}
use Rattle.finite.specs.SumBelow.{sum_swap, sum_only}

-- ---- counting
-- 1 where a statement holds, else 0
unfoldable pub indicator : {A : Type 0} → Dec A → ℕ
indicator (yes a) = 1
indicator (no h) = 0

-- how many i with a ≤ i < e have P
unfoldable pub count : (P : ℕ → Type 0) → ((i : ℕ) → Dec (P i)) → ℕ → ℕ → ℕ
count P d a e = sum (λ i. indicator (d i)) a e

indicator_le : {A B : Type 0} (d : Dec A) (e : Dec B) → (A → B) → indicator d ≤ indicator e
unfolding indicator
indicator_le (yes a) (yes b) f = omega arith
indicator_le (yes a) (no h) f = absurd (h (f a))
indicator_le (no h) e f = omega arith

indicator_lt : {A B : Type 0} (d : Dec A) (e : Dec B) → ¬ A → B → indicator d < indicator e
unfolding indicator
indicator_lt (yes a) e f b = absurd (f a)
indicator_lt (no h) (yes q) f b = omega arith
indicator_lt (no h) (no g) f b = absurd (g b)

module _ (P Q : ℕ → Type 0) (d : (i : ℕ) → Dec (P i)) (t : (i : ℕ) → Dec (Q i)) (a e : ℕ) where
  -- what has P has Q too, and something has only Q
  pub count_lt : Each (λ i. P i → Q i) a e → (j : ℕ) → a ≤ j → j < e → ¬ P j → Q j → count P d a e < count Q t a e
  unfolding count
  count_lt f j from to np q =
      sum_lt (λ i. indicator (d i)) (λ i. indicator (t i)) a e (λ i b c. indicator_le (d i) (t i) (f i b c)) j from to
      (indicator_lt (d j) (t j) np q)

-- where something does not have P, not all are counted
pub count_short : (P : ℕ → Type 0) (d : (i : ℕ) → Dec (P i)) (a e j : ℕ) → a ≤ j → j < e → ¬ P j → count P d a e < e - a
unfolding count indicator
count_short P d a e j from to np =
    omega (arith, sum_ones a e, count_lt P (λ i. Unit {0}) d (λ i. yes tt) a e (λ i b c p. tt) j from to np tt)

-- ---- an injection of a range into itself is onto
-- x, one less where it is above v
squash : ℕ → ℕ → ℕ
squash v x = x - min 1 (x - v)

squash_is : (v x : ℕ) → ((x ≤ v) × (squash v x ≡ x)) ⊎ ((v < x) × (suc (squash v x) ≡ x))
unfolding squash
squash_is v x = elim (le_or_lt x v) [ inl h ↦ inl (h, omega arith) | inr h ↦ inr (h, omega arith) ]

squash_bounds : (v x a e : ℕ) → x ≢ v → a ≤ v → v < suc e → a ≤ x → x < suc e → (a ≤ squash v x) × (squash v x < e)
squash_bounds v x a e ne av ve ax xe = elim (squash_is v x) [ inl r ↦ omega arith | inr r ↦ omega arith ]

squash_injective : (v x y : ℕ) → x ≢ v → y ≢ v → squash v x ≡ squash v y → x ≡ y
squash_injective v x y nx ny e = elim (squash_is v x) [
  | inl r ↦ elim (squash_is v y) [ inl q ↦ omega arith | inr q ↦ omega arith ]
  | inr r ↦ elim (squash_is v y) [ inl q ↦ omega arith | inr q ↦ omega arith ]
]

-- each number of the range is f i for some i of it
pub onto : (a e : ℕ) (f : ℕ → ℕ) → Each (λ i. (a ≤ f i) × (f i < e)) a e
    → ((i j : ℕ) → a ≤ i → i < e → a ≤ j → j < e → f i ≡ f j → i ≡ j) → (y : ℕ) → a ≤ y → y < e → Some (λ i. f i ≡ y) a e
onto a zero f within injective y from to = absurd (not-suc-le-zero to)
onto a (suc e) f within injective y from to = elim (eq_or_ne (f e) y) [
  | inl q ↦ (e, omega arith, omega arith, q)
  | inr ne ↦
      let last = within e (omega arith) (omega arith) in
      let ny : y ≢ f e = omega arith in
      let bounds = squash_bounds (f e) y a e ny last.0 last.1 from to in
      let (i, b, c, q) = onto a e (λ i. squash (f e) (f i)) squashed
      (λ i j ib ic jb jc q. injective i j ib (omega arith) jb (omega arith) (squash_injective (f e) (f i) (f j) (other i ib ic) (other j jb jc) q))
      (squash (f e) y) bounds.0 bounds.1 in
      (i, b, omega arith, squash_injective (f e) (f i) y (other i b c) ny q)
]
  where
    other : (i : ℕ) → a ≤ i → i < e → f i ≢ f e
    other i b c q = omega (arith, injective i e b (omega arith) (omega arith) (omega arith) q)

    squashed : Each (λ i. (a ≤ squash (f e) (f i)) × (squash (f e) (f i) < e)) a e
    squashed i b c =
        let last = within e (omega arith) (omega arith) in
        let here = within i b (omega arith) in
        squash_bounds (f e) (f i) a e (other i b c) last.0 last.1 here.0 here.1

-- so a sum over the numbers below n keeps its value where its summands change places: both are the sum of a square of numbers that
-- has summand v in row i where f i is v, and 0 elsewhere, taken by rows and taken by columns
pub sum_reordered : (g f : ℕ → ℕ) (n : ℕ) → ((i : ℕ) → i < n → f i < n)
    → ((i j : ℕ) → i < n → j < n → f i ≡ f j → i ≡ j) → sum (λ i. g (f i)) 0 n ≡ sum g 0 n
sum_reordered g f n within injective =
    sym (sum_same (λ i. sum (at i) 0 n) (λ i. g (f i)) 0 n row) ∙ sum_swap at n n
    ∙ sum_same (λ v. sum (λ i. at i v) 0 n) g 0 n column
  where
    at : ℕ → ℕ → ℕ
    at i v = cond (eqb (f i) v) (g v) 0

    row : (i : ℕ) → 0 ≤ i → i < n → sum (at i) 0 n ≡ g (f i)
    row i l h =
        sum_only (at i) n (f i) (within i h) (λ v k ne. simp (ne_eqb (f i) v (λ e. ne (sym e)))) ∙ simp (eq-eqb (f i) (f i) refl)

    column : (v : ℕ) → 0 ≤ v → v < n → sum (λ i. at i v) 0 n ≡ g v
    column v l h =
        let (i, a, b, e) = onto 0 n f (λ i p q. (zero-le, within i q)) (λ i j p q r s. injective i j q s) v l h in
        sum_only (λ i. at i v) n i b (λ j k ne. simp (ne_eqb (f j) v (λ q. ne (injective j i k b (q ∙ sym e)))))
        ∙ simp (eq-eqb (f i) v e)

-- ---- ranks
-- a strict total order on the numbers below n
pub record Strict (n : ℕ) (R : ℕ → ℕ → Type 0) : Type 0 where
  pub dec : (a b : ℕ) → Dec (R a b)
  pub asym : {a b : ℕ} → R a b → R b a → ⊥
  pub trans : {a b c : ℕ} → R a b → R b c → R a c
  pub total : (a b : ℕ) → a < n → b < n → a ≢ b → R a b ⊎ R b a

module _ {n : ℕ} {R : ℕ → ℕ → Type 0} (s : Strict n R) where
  -- how many numbers stand below a
  unfoldable pub rank : ℕ → ℕ
  rank a = count (λ j. R j a) (λ j. s.dec j a) 0 n

  -- what stands below has the lower rank
  pub rank_lt : (a b : ℕ) → a < n → R a b → rank a < rank b
  unfolding rank
  rank_lt a b ha r =
      count_lt (λ j. R j a) (λ j. R j b) (λ j. s.dec j a) (λ j. s.dec j b) 0 n (λ j l h q. s.trans q r) a (omega arith) ha
      (λ q. s.asym q q) r

  -- ranks are below n
  pub rank_below : (a : ℕ) → a < n → rank a < n
  unfolding rank
  rank_below a ha = omega (arith, count_short (λ j. R j a) (λ j. s.dec j a) 0 n a (omega arith) ha (λ q. s.asym q q))

  -- what has the lower rank stands below
  pub rank_lt→R : (a b : ℕ) → a < n → b < n → rank a < rank b → R a b
  rank_lt→R a b ha hb l = elim (eq_or_ne a b) [
    | inl q ↦ absurd (omega (arith, ap rank q))
    | inr ne ↦ elim (s.total a b ha hb ne) [ inl r ↦ r | inr r ↦ absurd (omega (arith, rank_lt b a hb r)) ]
  ]

  -- no two numbers have the same rank
  pub rank_injective : (a b : ℕ) → a < n → b < n → rank a ≡ rank b → a ≡ b
  rank_injective a b ha hb e = elim (eq_or_ne a b) [
    | inl q ↦ q
    | inr ne ↦ elim (s.total a b ha hb ne) [
      | inl r ↦ absurd (omega (arith, rank_lt a b ha r))
      | inr r ↦ absurd (omega (arith, rank_lt b a hb r))
    ]
  ]

  -- each number below n is a rank
  pub rank_onto : (y : ℕ) → y < n → Some (λ a. rank a ≡ y) 0 n
  rank_onto y h = onto 0 n rank (λ i b c. (omega arith, rank_below i c)) (λ i j ib ic jb jc. rank_injective i j ic jc) y (omega arith) h

-- ---- ranks are kept
-- heights that rise with each step from one level to the next, where each level below n is taken
module _ (n : ℕ) (level height : ℕ → ℕ) (taken : (v : ℕ) → v < n → Some (λ a. level a ≡ v) 0 n)
    (rises : (a b : ℕ) → a < n → b < n → level b ≡ suc (level a) → height a < height b) where
  level_le_height : (v a : ℕ) → a < n → level a < n → level a ≡ v → v ≤ height a
  level_le_height zero a ha hl e = omega arith
  level_le_height (suc v) a ha hl e =
      let (b, l, hb, q) = taken v (omega arith) in
      omega (arith, level_le_height v b hb (omega arith) q, rises b a hb ha (omega arith))

  height_le_level : ((a : ℕ) → a < n → height a < n) → (j a : ℕ) → a < n → level a + suc j ≡ n → height a ≤ level a
  height_le_level below zero a ha e = omega (arith, below a ha)
  height_le_level below (suc j) a ha e =
      let (b, l, hb, q) = taken (suc (level a)) (omega arith) in
      omega (arith, height_le_level below j b hb (omega arith), rises a b ha hb q)

  -- heights below n are the levels
  pub height_is_level : ((a : ℕ) → a < n → height a < n) → (a : ℕ) → a < n → level a < n → height a ≡ level a
  height_is_level below a ha hl =
      omega (arith, level_le_height (level a) a ha hl refl, height_le_level below (n - suc (level a)) a ha (omega arith))

-- a function that rises on the numbers below n and stays below n changes none of them
pub rising_is_same : (n : ℕ) (h : ℕ → ℕ) → ((i : ℕ) → i < n → h i < n) → ((i : ℕ) → suc i < n → h i < h (suc i)) → (i : ℕ) → i < n → h i ≡ i
rising_is_same n h below rises i l =
    height_is_level n (λ i. i) h (λ v hv. (v, omega arith, hv, refl)) (λ a b ha hb e. rw e (rises a (rw (← e) hb))) below i l l

-- a map of the numbers below n to those below m that keeps a strict total order
module _ {n m : ℕ} {R Q : ℕ → ℕ → Type 0} (s : Strict n R) (t : Strict m Q) (f : ℕ → ℕ) (within : (a : ℕ) → a < n → f a < m)
    (keep : (a b : ℕ) → R a b → Q (f a) (f b)) where
  rises : (a b : ℕ) → a < n → b < n → rank s b ≡ suc (rank s a) → rank t (f a) < rank t (f b)
  rises a b ha hb e = rank_lt t (f a) (f b) (within a ha) (keep a b (rank_lt→R s a b ha hb (omega arith)))

  -- there are no fewer numbers on the side that it maps to
  pub keep→size : n ≤ m
  keep→size = elim (le_or_lt n 0) [
    | inl h ↦ omega arith
    | inr h ↦
        let (a, l, ha, q) = rank_onto s (n - 1) (omega arith) in
        let high = level_le_height n (rank s) (λ a. rank t (f a)) (rank_onto s) rises (n - 1) a ha (rank_below s a ha) q in
        omega (arith, rank_below t (f a) (within a ha))
  ]

  -- where there are as many numbers on both sides, ranks are kept
  pub keep→rank : n ≡ m → (a : ℕ) → a < n → rank t (f a) ≡ rank s a
  keep→rank e a ha =
      height_is_level n (rank s) (λ a. rank t (f a)) (rank_onto s) rises (λ b hb. omega (arith, rank_below t (f b) (within b hb))) a ha
      (rank_below s a ha)

-- A bit that says whether a statement holds, as a number; and a loop that looks at the numbers below n in turn: what one more number does
-- to whether some number has been found.
use Rattle.std.specs.Prelude.{◌≡◌, refl, ◌⊎◌, ◌≢◌, ℕ, zero, suc, ◌+◌, ◌*◌, ◌≤◌, max, eqb}
use Rattle.std.proofs.Common.{sym, subst, ◌∙◌, inl, inr, zero-le, arith}
use Rattle.std.specs.Int.Bits.{bit_and, bit_or}
use Rattle.finite.specs.Decide.{Tells, eq_or_ne, tells_equal, tells_iff}
use Rattle.finite.specs.Search.{Some}
use Rattle.finite.specs.Count.{indicator}

-- the bit is 1 where the statement holds, else 0
abbrev pub Marks : ℕ → Type 0 → Type 0
Marks bit A = ((bit ≡ 1) × A) ⊎ ((bit ≡ 0) × (¬ A))

pub marks_le : {A : Type 0} {a : ℕ} → Marks a A → a ≤ 1
marks_le (inl (e, h)) = omega arith
marks_le (inr (e, h)) = omega arith

-- the number that tells whether a decided statement holds marks it
pub marks_indicator : {A : Type 0} (d : Dec A) → Marks (indicator d) A
unfolding indicator
marks_indicator (yes a) = inl (refl, a)
marks_indicator (no h) = inr (refl, h)

-- two bits or-ed are the larger one
pub or_is_max : (a b : ℕ) → a ≤ 1 → b ≤ 1 → bit_or a b ≡ max a b
or_is_max zero zero small also = refl
or_is_max zero (suc zero) small also = refl
or_is_max (suc zero) zero small also = refl
or_is_max (suc zero) (suc zero) small also = refl
or_is_max zero (suc (suc b)) small also = absurd (omega arith)
or_is_max (suc zero) (suc (suc b)) small also = absurd (omega arith)
or_is_max (suc (suc a)) b small also = absurd (omega arith)

-- a product marks that both hold
pub marks_both : {A B : Type 0} {a b : ℕ} → Marks a A → Marks b B → Marks (a * b) (A × B)
marks_both (inl (e, h)) (inl (f, g)) = inl (rw (e, f), (h, g))
marks_both (inl (e, h)) (inr (f, g)) = inr (rw (e, f), λ (x, y). g y)
marks_both {b = b} (inr (e, h)) m = inr (rw e (omega arith), λ (x, y). h x)

-- so does the bit that two have in common
pub marks_and : {A B : Type 0} {a b : ℕ} → Marks a A → Marks b B → Marks (bit_and a b) (A × B)
marks_and (inl (e, h)) (inl (f, g)) = inl (λ i. bit_and (e i) (f i), (h, g))
marks_and (inl (e, h)) (inr (f, g)) = inr (λ i. bit_and (e i) (f i), λ (x, y). g y)
marks_and (inr (e, h)) (inl (f, g)) = inr (λ i. bit_and (e i) (f i), λ (x, y). h x)
marks_and (inr (e, h)) (inr (f, g)) = inr (λ i. bit_and (e i) (f i), λ (x, y). h x)

-- what a bit marks, where it is known whether that holds
pub marks_yes : {A : Type 0} {a : ℕ} → Marks a A → A → a ≡ 1
marks_yes (inl (e, h)) x = e
marks_yes (inr (e, h)) x = absurd (h x)

pub marks_no : {A : Type 0} {a : ℕ} → Marks a A → ¬ A → a ≡ 0
marks_no (inl (e, h)) x = absurd (x h)
marks_no (inr (e, h)) x = e

-- and what a bit says of it
pub marks_holds : {A : Type 0} {a : ℕ} → Marks a A → a ≡ 1 → A
marks_holds (inl (e, h)) one = h
marks_holds (inr (e, h)) one = absurd (omega arith)

pub marks_fails : {A : Type 0} {a : ℕ} → Marks a A → a ≢ 1 → ¬ A
marks_fails (inl (e, h)) other = absurd (other e)
marks_fails (inr (e, h)) other = h

-- two bits that mark the same are the same
pub marks_once : {A : Type 0} {a b : ℕ} → Marks a A → Marks b A → a ≡ b
marks_once (inl (e, h)) m = e ∙ sym (marks_yes m h)
marks_once (inr (e, h)) m = e ∙ sym (marks_no m h)

-- a bit marks what holds just where the other does
pub marks_same : {A B : Type 0} {a : ℕ} → Marks a A → (A → B) → (B → A) → Marks a B
marks_same (inl (e, h)) to from = inl (e, to h)
marks_same (inr (e, h)) to from = inr (e, λ b. h (from b))

module _ (P : ℕ → Type 0) where
  -- before the first turn nothing has been looked at
  pub none_yet : ¬ Some P 0 0
  none_yet (i, l, h, p) = omega arith

  -- one more, which has it not
  pub none_here : (n : ℕ) → ¬ Some P 0 n → ¬ P n → ¬ Some P 0 (n + 1)
  none_here n none not (i, l, h, p) = elim (eq_or_ne i n) [ inl e ↦ not (subst P e p) | inr ne ↦ none (i, l, omega arith, p) ]

  -- all have been looked at
  pub none_at_all : (n i : ℕ) → n ≤ i → ¬ Some P 0 i → ¬ Some P 0 n
  none_at_all n i past none (j, l, h, p) = none (j, l, omega arith, p)

  -- ---- the same of a bit that marks whether one has been found
  pub marks_none : Marks 0 (Some P 0 0)
  marks_none = inr (refl, none_yet)

  pub marks_more : (n found here : ℕ) → Marks found (Some P 0 n) → Marks here (P n) → Marks (bit_or found here) (Some P 0 (n + 1))
  marks_more n found here (inl (e, (i, l, h, p))) (inl (g, q)) = inl (rw (e, g), (i, l, omega arith, p))
  marks_more n found here (inl (e, (i, l, h, p))) (inr (g, q)) = inl (rw (e, g), (i, l, omega arith, p))
  marks_more n found here (inr (e, none)) (inl (g, q)) = inl (rw (e, g), (n, zero-le, omega arith, q))
  marks_more n found here (inr (e, none)) (inr (g, q)) = inr (rw (e, g), none_here n none q)

  pub marks_tell : (n i found : ℕ) → i ≡ n → Marks found (Some P 0 i) → Tells (eqb found 1) (Some P 0 n)
  marks_tell n i found e marks = tells_iff (found ≡ 1) (Some P 0 n) (eqb found 1) (there marks) (back marks) (tells_equal found 1)
    where
      there : Marks found (Some P 0 i) → found ≡ 1 → Some P 0 n
      there (inl (one, s)) set = rw e at s
      there (inr (none, s)) set = absurd (omega arith)

      back : Marks found (Some P 0 i) → Some P 0 n → found ≡ 1
      back (inl (one, s)) some = one
      back (inr (none, s)) some = absurd (s (rw e some))

-- Search in a range of numbers a ≤ i < e: whether some number has a property, whether each has it, the first that has it and the last.
use Rattle.std.specs.Prelude.{◌≡◌, ◌⊎◌}
use Rattle.std.proofs.Common.{sym, eq-or-lt_of_le, le_of_suc-le-suc}
use Rattle.std.proofs.Math.Path.{subst}
use Rattle.std.proofs.Math.Logic.{inl, inr}
use Prim.Native.Nat.{ℕ, zero, suc, ◌≤◌, ◌<◌}
use native.Mathlib.Omega.{arith}
use Rattle.finite.specs.Decide.{le_or_lt}

-- some i with a ≤ i < e has P
abbrev pub Some : (ℕ → Type 0) → ℕ → ℕ → Type 0
Some P a e = (i : ℕ) × (a ≤ i) × (i < e) × P i

-- each i with a ≤ i < e has P
abbrev pub Each : (ℕ → Type 0) → ℕ → ℕ → Type 0
Each P a e = (i : ℕ) → a ≤ i → i < e → P i

-- the last i with a ≤ i < e that has P
pub record Last (P : ℕ → Type 0) (a e : ℕ) : Type 0 where
  pub at : ℕ
  pub from : a ≤ at
  pub to : at < e
  pub has : P at
  pub after : (j : ℕ) → at < j → j < e → ¬ P j

-- the first i with a ≤ i < e that has P
pub record First (P : ℕ → Type 0) (a e : ℕ) : Type 0 where
  pub at : ℕ
  pub from : a ≤ at
  pub to : at < e
  pub has : P at
  pub before : (j : ℕ) → a ≤ j → j < at → ¬ P j

module _ (P : ℕ → Type 0) (d : (i : ℕ) → Dec (P i)) where
  -- the last one, or none; the search goes down from e
  unfoldable pub last : (a e : ℕ) → Last P a e ⊎ Each (λ i. ¬ P i) a e
  unfolding le_or_lt
  last a zero = inr (λ j b c p. omega arith)
  last a (suc e) = go (le_or_lt a e) (d e) (last a e)
    where
      go : (a ≤ e) ⊎ (e < a) → Dec (P e) → Last P a e ⊎ Each (λ i. ¬ P i) a e → Last P a (suc e) ⊎ Each (λ i. ¬ P i) a (suc e)
      go (inr h) p r = inr (λ j b c p. omega arith)
      go (inl h) (yes p) r = inl (record { at = e; from = h; to = omega arith; has = p; after = λ j b c q. omega arith })
      go (inl h) (no np) (inl r) = inl (record { at = r.at; from = r.from; to = omega arith; has = r.has; after = λ j b c. pick j b (eq-or-lt_of_le (le_of_suc-le-suc c)) })
        where
          pick : (j : ℕ) → r.at < j → (j ≡ e) ⊎ (j < e) → ¬ P j
          pick j b (inl q) = subst (λ (x : ℕ). ¬ P x) (sym q) np
          pick j b (inr l) = r.after j b l
      go (inl h) (no np) (inr f) = inr (λ j b c. pick j b (eq-or-lt_of_le (le_of_suc-le-suc c)))
        where
          pick : (j : ℕ) → a ≤ j → (j ≡ e) ⊎ (j < e) → ¬ P j
          pick j b (inl q) = subst (λ (x : ℕ). ¬ P x) (sym q) np
          pick j b (inr l) = f j b l

  unfoldable pub dec_some : (a e : ℕ) → Dec (Some P a e)
  unfolding last
  dec_some a e = go (last a e)
    where
      go : Last P a e ⊎ Each (λ i. ¬ P i) a e → Dec (Some P a e)
      go (inl r) = yes (r.at, r.from, r.to, r.has)
      go (inr f) = no (λ s. f s.0 s.1 s.2 s.3)

-- none has P, nor has one more
pub none_more : (P : ℕ → Type 0) (a e : ℕ) → ¬ Some P a e → ¬ P e → ¬ Some P a (suc e)
none_more P a e none not (i, from, to, has) = elim (eq-or-lt_of_le (le_of_suc-le-suc to)) [
  | inl same ↦ not (subst P same has)
  | inr l ↦ none (i, from, l, has)
]

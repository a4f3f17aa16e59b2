-- The first number of a range that has a property, and whether each number of a range has it.
-- The companion of Search, which has the last one and whether there is some.
use Rattle.std.specs.Prelude.{◌≡◌, ◌⊎◌}
use Rattle.std.proofs.Common.{sym, eq-or-lt_of_le, le_of_suc-le-suc, arith}
use Rattle.std.proofs.Math.Path.{subst}
use Rattle.std.proofs.Math.Logic.{inl, inr}
use Prim.Native.Nat.{ℕ, zero, suc, ◌≤◌, ◌<◌}
use Rattle.finite.specs.Decide.{le_or_lt, dec-¬, stable}
use Rattle.finite.specs.Search.{Some, Each, First, dec_some}

module _ (P : ℕ → Type 0) (d : (i : ℕ) → Dec (P i)) where
  -- the first one, or none; the search goes up to e
  unfoldable pub first : (a e : ℕ) → First P a e ⊎ Each (λ i. ¬ P i) a e
  unfolding le_or_lt
  first a zero = inr (λ j b c p. omega arith)
  first a (suc e) = go (first a e) (le_or_lt a e) (d e)
    where
      go : First P a e ⊎ Each (λ i. ¬ P i) a e → (a ≤ e) ⊎ (e < a) → Dec (P e) → First P a (suc e) ⊎ Each (λ i. ¬ P i) a (suc e)
      go (inl r) h p = inl (record { at = r.at; from = r.from; to = omega arith; has = r.has; before = r.before })
      go (inr none) (inr h) p = inr (λ j b c q. omega arith)
      go (inr none) (inl h) (yes p) = inl (record { at = e; from = h; to = omega arith; has = p; before = none })
      go (inr none) (inl h) (no np) = inr (λ j b c. pick j b (eq-or-lt_of_le (le_of_suc-le-suc c)))
        where
          pick : (j : ℕ) → a ≤ j → (j ≡ e) ⊎ (j < e) → ¬ P j
          pick j b (inl q) = subst (λ (x : ℕ). ¬ P x) (sym q) np
          pick j b (inr l) = none j b l

  -- the first one of some
  unfoldable pub first_of : (a e : ℕ) → Some P a e → First P a e
  unfolding first
  first_of a e (x, l, u, p) = elim (first a e) [ inl r ↦ r | inr none ↦ absurd (none x l u p) ]

  -- each has P where there is none that has it not
  unfoldable pub dec_each : (a e : ℕ) → Dec (Each P a e)
  unfolding dec_some dec-¬
  dec_each a e = go (dec_some (λ i. ¬ P i) (λ i. dec-¬ (d i)) a e)
    where
      go : Dec (Some (λ i. ¬ P i) a e) → Dec (Each P a e)
      go (yes s) = no (λ f. s.3 (f s.0 s.1 s.2))
      go (no h) = yes (λ i b c. stable (d i) (λ np. h (i, b, c, np)))

-- what a search from a up to e answers: the first number that has P, or where none before e has it a number that is not before e
pub record FirstOrEnd (P : ℕ → Type 0) (a e at : ℕ) : Type 0 where
  pub from : a ≤ at
  pub has : at < e → P at
  pub before : (j : ℕ) → a ≤ j → j < at → ¬ P j

-- no number that has P comes before it
pub not_after : {P : ℕ → Type 0} {a e at : ℕ} → FirstOrEnd P a e at → (j : ℕ) → a ≤ j → P j → at ≤ j
not_after {P} {a} {e} {at} x j from has = elim (le_or_lt at j) [ inl h ↦ h | inr h ↦ absurd (x.before j from h has) ]

-- A search that goes through a whole range: what is told of the numbers so far, and of one more.
use mathlib.Core.Bool.{Bool, true, false}
use mathlib.Core.Logic.{◌⊎◌, inl, inr}
use mathlib.Core.Path.{◌≡◌, sym, subst}
use Prim.Native.Nat.{ℕ, suc, ◌+◌}
use native.Mathlib.Omega.{arith}
use Rattle.finite.specs.Decide.{Tells, eq_or_ne}
use Rattle.finite.specs.Search.{Some}

module _ (P : ℕ → Type 0) (i : ℕ) where
  -- i + 1 has the property
  pub found_here : P (suc i) → Some P 1 (suc (i + 1))
  found_here p = (suc i, omega arith, omega arith, p)

  -- it has not: as before
  pub found_before : ¬ P (suc i) → (b : Bool) → Tells b (Some P 1 (suc i)) → Tells b (Some P 1 (suc (i + 1)))
  found_before n true (j, a, b, p) = (j, a, omega arith, p)
  found_before n false t = λ (j, a, b, p). elim (eq_or_ne j (suc i)) [ inl e ↦ n (subst P e p) | inr e ↦ t (j, a, omega arith, p) ]

  -- a mark that is set where i + 1 has it, as the code leaves it
  pub found_by : (old new : Bool) → Tells old (Some P 1 (suc i)) → (P (suc i) × (new ≡ true)) ⊎ (¬ P (suc i) × (new ≡ old)) → Tells new (Some P 1 (suc (i + 1)))
  found_by old new t (inl (p, e)) = subst (λ (x : Bool). Tells x (Some P 1 (suc (i + 1)))) (sym e) (found_here p)
  found_by old new t (inr (n, e)) = subst (λ (x : Bool). Tells x (Some P 1 (suc (i + 1)))) (sym e) (found_before n old t)

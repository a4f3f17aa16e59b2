-- "one nonzero name on two rooms" (M-106), of the names of n rooms; and the same told by the later of the two rooms.
use Rattle.std.specs.Prelude.{◌≡◌, ◌≢◌, ℕ}
use Rattle.std.proofs.Common.{sym, ◌∙◌, inl, inr, zero-le, arith}
use Rattle.finite.specs.Decide.{le_or_lt}
use Rattle.finite.specs.Search.{Some}
use Rattle.finite.specs.Extremes.{greatest, greatest_ge}

abbrev pub Twice : (name : ℕ → ℕ) (n : ℕ) → Type 0
Twice name n = Some (λ i. Some (λ j. (i ≢ j) × (name i ≢ 0) × (name i ≡ name j)) 0 n) 0 n

-- room j is named, and an earlier one has its name
abbrev pub Again : (name : ℕ → ℕ) (j : ℕ) → Type 0
Again name j = (name j ≢ 0) × Some (λ i. name i ≡ name j) 0 j

module _ (name : ℕ → ℕ) (n : ℕ) where
  pub again→twice : Some (Again name) 0 n → Twice name n
  again→twice (j, l, h, (named, (i, m, g, e))) =
      (i, zero-le, omega arith, (j, zero-le, h, ((λ s. omega arith), (λ none. named (sym e ∙ none)), e)))

  pub twice→again : Twice name n → Some (Again name) 0 n
  twice→again (i, l, h, (j, m, g, (differ, named, e))) = elim (le_or_lt i j) [
    | inl before ↦ (j, zero-le, g, ((λ none. named (e ∙ none)), (i, zero-le, omega arith, e)))
    | inr after ↦ (i, zero-le, h, (named, (j, zero-le, after, sym e)))
  ]

-- where the largest name is 0 no room is named
pub unnamed→not_twice : (name : ℕ → ℕ) (n : ℕ) → greatest name n ≡ 0 → ¬ Twice name n
unnamed→not_twice name n none (i, l, h, (j, m, g, (differ, named, e))) = named (omega (arith, none, greatest_ge name n i h))

-- Past the last triple of a body that has no spare bit set every triple is 000: in the table each of these is one more run below, and
-- no fall.
use mathlib.Core.Bool.{false}
use mathlib.Core.List.{List}
use mathlib.Core.Path.{◌≡◌, refl, sym, ap, subst, ◌∙◌}
use Prim.Native.Nat.{ℕ, zero, suc, ◌+◌, ◌-◌, ◌*◌, ◌≤◌}
use native.Mathlib.Omega.{arith}
use native.Mathlib.Nat.{add-zero}
use Rattle.bits.specs.Bit.{bit}
use Rattle.record.specs.Triple.{Triple, triple}
use Rattle.record.specs.Walk.{Counts, missing, counts, step, and_then, walk}
use Rattle.record.specs.Record.{triple_in}
use Rattle.record.specs.Read.{Missing}
use Rattle.judging.specs.Judge.{Clear}
use Rattle.record.specs.Rises.{third_of, falls, falls_next}

-- every triple after the first k is 000
abbrev pub ZeroPast : (ℕ → Triple) → (k : ℕ) → Type 0
ZeroPast t k = (j : ℕ) → k ≤ j → t (suc (suc j)) ≡ triple false false false

pub zero_past : (body : List ℕ) (n : ℕ) → 1 ≤ n → Clear body (3 * n - 3) → ZeroPast (triple_in body) (n - 1)
zero_past body n some clear j h =
    λ i. triple (clear (3 * j) (omega arith) i) (clear (3 * j + 1) (omega arith) i) (clear (3 * j + 2) (omega arith) i)

abbrev below_of : Counts → ℕ
below_of missing = 0
below_of (counts p q) = p

abbrev above_of : Counts → ℕ
above_of missing = 0
above_of (counts p q) = q

-- counts with d more runs below
abbrev more : (d : ℕ) → Counts → Counts
more d c = and_then c (λ p q. counts (d + p) q)

module _ (t : ℕ → Triple) (k : ℕ) (zero-on : ZeroPast t k) where
  walk_past : (d : ℕ) → walk t (k + d) ≡ more d (walk t k)
  unfolding walk step
  walk_past zero = ap (walk t) (add-zero k) ∙ none (walk t k)
    where
      none : (c : Counts) → c ≡ more 0 c
      none missing = refl
      none (counts p q) = let same : p ≡ 0 + p = omega arith in ap (λ (b : ℕ). counts b q) same
  walk_past (suc d) =
      let s : k + suc d ≡ suc (k + d) = omega arith in
      ap (walk t) s ∙ (λ i. and_then (walk_past d i) (step (zero-on (k + d) (omega arith) i))) ∙ one (walk t k)
    where
      one : (c : Counts) → and_then (more d c) (step (triple false false false)) ≡ more (suc d) c
      one missing = refl
      one (counts p q) = let same : suc (d + p) ≡ suc d + p = omega arith in ap (λ (b : ℕ). counts b q) same

  pub falls_past : (d : ℕ) → falls t (suc (k + d)) ≡ falls t (suc k)
  falls_past zero = let s : k + 0 ≡ k = omega arith in ap (λ (m : ℕ). falls t (suc m)) s
  falls_past (suc d) =
      let s : k + suc d ≡ suc (k + d) = omega arith in
      ap (λ (m : ℕ). falls t (suc m)) s ∙ omega (arith, falls_next t (k + d), ap (λ (u : Triple). bit (third_of u)) (zero-on (k + d) (omega arith)), falls_past d)

  -- a run that is missing then was missing before
  pub missing_before : (d : ℕ) → walk t (k + d) ≡ missing → walk t k ≡ missing
  missing_before d e = go (walk t k) (sym (walk_past d) ∙ e)
    where
      go : (c : Counts) → more d c ≡ missing → c ≡ missing
      go missing e = refl
      go (counts p q) e = absurd (subst Missing (sym e) tt)

  -- and the counts before were d less below
  pub counts_before : (d p q : ℕ) → walk t (k + d) ≡ counts p q → (d ≤ p) × (walk t k ≡ counts (p - d) q)
  counts_before d p q e = go (walk t k) (sym (walk_past d) ∙ e)
    where
      go : (c : Counts) → more d c ≡ counts p q → (d ≤ p) × (c ≡ counts (p - d) q)
      go missing e = absurd (subst Missing e tt)
      go (counts x y) e =
          let below : d + x ≡ p = ap below_of e in
          let less : x ≡ p - d = omega arith in
          (omega arith, λ i. counts (less i) (ap above_of e i))

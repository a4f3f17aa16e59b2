-- Planes at the start: a 1 where no runs are, in the second plane, and all else 0.
use mathlib.Core.List.{List}
use mathlib.Core.Logic.{◌≢◌, ◌⊎◌, inl, inr}
use mathlib.Core.Path.{◌≡◌, refl, sym, ◌∙◌}
use Prim.Native.Nat.{ℕ, zero, suc, ◌+◌, ◌-◌, ◌*◌, ◌≤◌, ◌<◌}
use native.Mathlib.Omega.{arith}
use lib.ListN.{length, get_or, set, replicate, length-set, length-replicate, get_or-replicate}
use lib.Seq.{get_or-set_same, get_or-set_other}
use Rattle.tallying.specs.Shows.{bordered, Shows}

abbrev pub one_only : ℕ → List ℕ
one_only size = set (replicate size 0) 129 1

module _ (size : ℕ) where
  pub length_one : length (one_only size) ≡ size
  length_one = length-set (replicate {A = ℕ} size 0) 129 1 ∙ length-replicate {A = ℕ} size 0

  zero_at : (k : ℕ) → k < size → k ≢ 129 → get_or (one_only size) k 0 ≡ 0
  zero_at k h ne = get_or-set_other (replicate {A = ℕ} size 0) 129 k 1 0 ne ∙ get_or-replicate {A = ℕ} size k 0 0 h

  -- a plane of zeros
  pub zeros_show : (base : ℕ) → base + 110 < size → (base ≡ 0) ⊎ (220 ≤ base) → {below above : ℕ} → Shows (λ p q. 0) base below above (one_only size)
  zeros_show base h which = record { at = λ u v hu hv lu lv. zero_at (base + 10 * u + (10 - v)) (omega arith) (λ e. away u v lu e which) ∙ sym (none u v) }
    where
      away : (u v : ℕ) → u ≤ 10 → base + 10 * u + (10 - v) ≡ 129 → (base ≡ 0) ⊎ (220 ≤ base) → ⊥
      away u v l e (inl z) = omega arith
      away u v l e (inr z) = omega arith

      none : (u v : ℕ) → bordered (λ p q. 0) u v ≡ 0
      none zero v = refl
      none (suc p) zero = refl
      none (suc p) (suc q) = refl

  -- the plane with the 1
  module _ (h : 220 < size) (e : ℕ → ℕ → ℕ) (here : e 0 0 ≡ 1) (over : (p q : ℕ) → 1 ≤ p + q → e p q ≡ 0) where
    away : (u v : ℕ) → u ≤ 10 → 110 + 10 * u + (10 - v) ≢ 129 → get_or (one_only size) (110 + 10 * u + (10 - v)) 0 ≡ 0
    away u v l ne = zero_at (110 + 10 * u + (10 - v)) (omega arith) ne

    own : (u v : ℕ) → u ≤ 10 → v ≤ 10 → get_or (one_only size) (110 + 10 * u + (10 - v)) 0 ≡ bordered e u v
    own zero v lu lv = away zero v lu (λ d. omega arith)
    own (suc p) zero lu lv = away (suc p) zero lu (λ d. omega arith)
    own (suc zero) (suc zero) lu lv = get_or-set_same (replicate {A = ℕ} size 0) 129 1 0 (omega (arith, length-replicate {A = ℕ} size 0)) ∙ sym here
    own (suc zero) (suc (suc q)) lu lv = away 1 (suc (suc q)) lu (λ d. omega arith) ∙ sym (over 0 (suc q) (omega arith))
    own (suc (suc p)) (suc q) lu lv = away (suc (suc p)) (suc q) lu (λ d. omega arith) ∙ sym (over (suc p) q (omega arith))

    pub one_shows : {below above : ℕ} → Shows e 110 below above (one_only size)
    one_shows = record { at = λ u v hu hv lu lv. own u v lu lv }

-- A number less another is 0 or more exactly if it is not the smaller one.
use Rattle.std.specs.Prelude.{Bool, true, false, cond, ◌≡◌, refl, ℕ, zero, suc, ◌-◌, ◌≤◌, ltb, pos, negsuc, ◌-ℤ◌}
use Rattle.std.proofs.Common.{ap, arith, ltb-true, ltb-false}
use Rattle.sizes.specs.Placed.{NotNegative}

pub not_negative→at_least : (a b : ℕ) → NotNegative (pos a -ℤ pos b) → b ≤ a
not_negative→at_least a zero h = omega arith
not_negative→at_least a (suc b) (k, e) = go (ltb a (suc b)) refl e
  where
    go : (t : Bool) → ltb a (suc b) ≡ t → cond t (negsuc (suc b - suc a)) (pos (a - suc b)) ≡ pos k → suc b ≤ a
    go true q e = absurd (let z : ◌≡◌ {A = ℕ} 0 1 = cc in omega arith)
    go false q e = omega (arith, ltb-false a (suc b) q)

pub at_least→not_negative : (a b : ℕ) → b ≤ a → NotNegative (pos a -ℤ pos b)
at_least→not_negative a zero h = (a, ap pos (omega arith))
at_least→not_negative a (suc b) h = (a - suc b, go (ltb a (suc b)) refl)
  where
    go : (t : Bool) → ltb a (suc b) ≡ t → cond t (negsuc (suc b - suc a)) (pos (a - suc b)) ≡ pos (a - suc b)
    go true q = absurd (omega (arith, ltb-true a (suc b) q))
    go false q = refl

-- A label that was read and compared: on which side it lies.
use mathlib.Core.Bool.{Bool, true, false, beq}
use mathlib.Core.Path.{◌≡◌, refl, sym, ap, ◌∙◌}
use Prim.Native.Nat.{ℕ}
use native.Mathlib.Omega.{arith}
use lib.Dec.{ltb}
use Rattle.patterns.specs.Sides.{Beyond}

beq_same : (a b : Bool) → beq a b ≡ true → a ≡ b
beq_same true true e = refl
beq_same true false e = sym e
beq_same false true e = e
beq_same false false e = refl

beq_differ : (a b : Bool) → beq a b ≡ false → ¬ (a ≡ b)
beq_differ true true e d = let z : ◌≡◌ {A = ℕ} 0 1 = cc in omega arith
beq_differ true false e d = let z : ◌≡◌ {A = ℕ} 0 1 = cc in omega arith
beq_differ false true e d = let z : ◌≡◌ {A = ℕ} 0 1 = cc in omega arith
beq_differ false false e d = let z : ◌≡◌ {A = ℕ} 0 1 = cc in omega arith

module _ (f : ℕ → ℕ) (above : Bool) (label at value : ℕ) (is : value ≡ f at) where
  pub is_beyond : beq (ltb label value) above ≡ true → Beyond f above label at
  is_beyond t = ap (ltb label) (sym is) ∙ beq_same (ltb label value) above t

  pub not_beyond : beq (ltb label value) above ≡ false → ¬ Beyond f above label at
  not_beyond t b = beq_differ (ltb label value) above t (ap (ltb label) is ∙ b)

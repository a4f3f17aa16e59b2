-- The order of two labels along a cut, and the two shapes.
use Rattle.std.specs.Prelude.{◌≢◌, ◌⊎◌, ◌≡◌, refl, ℕ, ◌≤◌}
use Rattle.std.proofs.Common.{inl, inr, arith}
use Rattle.slicing.specs.Slicing.{Shaped2413, Shaped3142, ShapedWithin}
use Rattle.slicing.specs.Cuts.{opposite, Before}
use Rattle.slicing.specs.declared.Cut.{Cut}
use Rattle.slicing.specs.declared.Cut.TheVariants.{Vertical, Horizontal}

pub opposite_twice : (cut : Cut) → opposite (opposite cut) ≡ cut
opposite_twice Vertical = refl
opposite_twice Horizontal = refl

pub before_trans : (cut : Cut) (a b c : ℕ) → Before cut a b → Before cut b c → Before cut a c
before_trans Vertical a b c h k = omega arith
before_trans Horizontal a b c h k = omega arith

pub before_itself : (cut : Cut) (a : ℕ) → ¬ Before cut a a
before_itself Vertical a h = omega arith
before_itself Horizontal a h = omega arith

-- not both left of it and below it
pub before_one_way : (cut : Cut) (a b : ℕ) → Before cut a b → ¬ Before (opposite cut) a b
before_one_way Vertical a b h k = omega arith
before_one_way Horizontal a b h k = omega arith

-- two different labels the other way round
pub before_back : (cut : Cut) (a b : ℕ) → a ≢ b → ¬ Before cut b a → Before cut a b
before_back Vertical a b ne h = omega arith
before_back Horizontal a b ne h = omega arith

pub before_turned : (cut : Cut) (a b : ℕ) → Before cut b a → Before (opposite cut) a b
before_turned Vertical a b h = h
before_turned Horizontal a b h = h

-- the two shapes, each by the cut of its first and third label
pub shaped : (cut : Cut) (a b c d : ℕ) → Before cut b d → Before cut d a → Before cut a c → Shaped2413 a b c d ⊎ Shaped3142 a b c d
shaped Vertical a b c d p q r = inr (p, q, r)
shaped Horizontal a b c d p q r = inl (r, q, p)

-- and no shape of labels of which the first and the last stand in order, and the first and the third or the second and the last
pub not_shaped : (cut : Cut) (a b c d : ℕ) → Before cut a d → Before cut a c ⊎ Before cut b d
    → ¬ (Shaped2413 a b c d ⊎ Shaped3142 a b c d)
not_shaped Vertical a b c d far near (inr shape) = omega arith
not_shaped Vertical a b c d far (inl near) (inl shape) = omega arith
not_shaped Vertical a b c d far (inr near) (inl shape) = omega arith
not_shaped Horizontal a b c d far near (inl shape) = omega arith
not_shaped Horizontal a b c d far (inl near) (inr shape) = omega arith
not_shaped Horizontal a b c d far (inr near) (inr shape) = omega arith

-- what some rooms have, more rooms have
pub more_shaped : {f : ℕ → ℕ} (a b : ℕ) {s e : ℕ} → s ≤ a → b ≤ e → ShapedWithin f a b → ShapedWithin f s e
more_shaped a b from to (l, p, q, (k, c, d, (j, g, h, (i, x, y, shape)))) =
    (l, omega arith, omega arith, (k, omega arith, d, (j, omega arith, h, (i, omega arith, y, shape))))

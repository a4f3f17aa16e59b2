-- Sides: two rooms exchanged stand on opposite sides of each other.
use Rattle.std.specs.Prelude.{◌≢◌, ◌≡◌, refl, ℕ, ◌<◌}
use Rattle.std.proofs.Math.Logic.{ite}
use Rattle.std.proofs.Common.{ap, ◌∙◌, arith}
use Rattle.std.proofs.Math.Decide.{dec_lt}
use Rattle.drawing.specs.declared.Side.{Side}
use Rattle.drawing.specs.declared.Side.TheVariants.{Left, Right, Above, Below}
use Rattle.drawing.specs.Side.{side_of, converse}

pub side_exchanged : (f : ℕ → ℕ) (i j : ℕ) → i ≢ j → side_of f j i ≡ converse (side_of f i j)
unfolding side_of
side_exchanged f i j differ = go (dec_lt j i) (dec_lt i j) (dec_lt (f j) (f i)) (dec_lt (f i) (f j))
  where
    go : (after : Dec (j < i)) (before : Dec (i < j)) (larger : Dec (f j < f i)) (smaller : Dec (f i < f j))
        → ite after (ite larger Left Below) (ite smaller Right Above)
        ≡ converse (ite before (ite smaller Left Below) (ite larger Right Above))
    go (yes p) (yes q) larger smaller = absurd (omega arith)
    go (yes p) (no q) (yes l) smaller = refl
    go (yes p) (no q) (no l) smaller = refl
    go (no p) (yes q) larger (yes l) = refl
    go (no p) (yes q) larger (no l) = refl
    go (no p) (no q) larger smaller = absurd (omega (arith, differ))

-- so it is for any side
pub exchange_side : (f : ℕ → ℕ) (i j : ℕ) → i ≢ j → {side : Side} → side_of f i j ≡ side → side_of f j i ≡ converse side
exchange_side f i j differ e = side_exchanged f i j differ ∙ ap converse e

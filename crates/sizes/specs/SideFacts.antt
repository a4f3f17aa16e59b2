-- A room stands left of another one exactly if the question answers that the other is right of it, and below it exactly if it answers
-- that the other is above it.
use Rattle.std.specs.Prelude.{◌≢◌, ◌↔◌, ◌≡◌, ℕ, ◌<◌}
use Rattle.std.proofs.Math.Logic.{ite}
use Rattle.std.proofs.Math.Path.{refl}
use Rattle.std.proofs.Math.Decide.{dec_lt}
use Rattle.std.proofs.Common.{arith}
use Rattle.drawing.specs.Side.{side_of}
use Rattle.drawing.specs.declared.Side.{Side}
use Rattle.drawing.specs.declared.Side.TheVariants.{Left, Right, Above, Below}
use Rattle.sizes.specs.Direction.{across, upward, Before}

module _ (f : ℕ → ℕ) (i j : ℕ) (differ : i ≢ j) (labels_differ : f i ≢ f j) where
  abbrev side : Dec (j < i) → Dec (f j < f i) → Dec (f i < f j) → Side
  side earlier smaller larger = ite earlier (ite smaller Left Below) (ite larger Right Above)

  pub left_iff_other_right : Before f across i j ↔ (side_of f j i ≡ Right)
  unfolding side_of
  left_iff_other_right = (to (dec_lt j i) (dec_lt (f j) (f i)) (dec_lt (f i) (f j)), from (dec_lt j i) (dec_lt (f j) (f i)) (dec_lt (f i) (f j)))
    where
      to : (e : Dec (j < i)) (s : Dec (f j < f i)) (l : Dec (f i < f j)) → Before f across i j → side e s l ≡ Right
      to (yes a) s l (h, k) = absurd (omega arith)
      to (no a) s (yes c) (h, k) = refl
      to (no a) s (no c) (h, k) = absurd (c k)

      from : (e : Dec (j < i)) (s : Dec (f j < f i)) (l : Dec (f i < f j)) → side e s l ≡ Right → Before f across i j
      from (yes a) (yes b) l e = absurd (let z : ◌≡◌ {A = ℕ} 0 1 = cc in omega arith)
      from (yes a) (no b) l e = absurd (let z : ◌≡◌ {A = ℕ} 0 1 = cc in omega arith)
      from (no a) s (yes c) e = (omega (arith, differ), c)
      from (no a) s (no c) e = absurd (let z : ◌≡◌ {A = ℕ} 0 1 = cc in omega arith)

  pub below_iff_other_above : Before f upward i j ↔ (side_of f j i ≡ Above)
  unfolding side_of
  below_iff_other_above = (to (dec_lt j i) (dec_lt (f j) (f i)) (dec_lt (f i) (f j)), from (dec_lt j i) (dec_lt (f j) (f i)) (dec_lt (f i) (f j)))
    where
      to : (e : Dec (j < i)) (s : Dec (f j < f i)) (l : Dec (f i < f j)) → Before f upward i j → side e s l ≡ Above
      to (yes a) s l (h, k) = absurd (omega arith)
      to (no a) s (yes c) (h, k) = absurd (omega arith)
      to (no a) s (no c) (h, k) = refl

      from : (e : Dec (j < i)) (s : Dec (f j < f i)) (l : Dec (f i < f j)) → side e s l ≡ Above → Before f upward i j
      from (yes a) (yes b) l e = absurd (let z : ◌≡◌ {A = ℕ} 0 1 = cc in omega arith)
      from (yes a) (no b) l e = absurd (let z : ◌≡◌ {A = ℕ} 0 1 = cc in omega arith)
      from (no a) s (yes c) e = absurd (let z : ◌≡◌ {A = ℕ} 0 1 = cc in omega arith)
      from (no a) s (no c) e = (omega (arith, differ), omega (arith, labels_differ))

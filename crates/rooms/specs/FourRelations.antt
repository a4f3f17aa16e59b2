-- Two different rooms of a floorplan are in one of the four relations left, right, below, above; UpsideDown and Staircase have that
-- they are in no other.
use Rattle.std.specs.Prelude.{◌≢◌, ◌⊎◌, ℕ, ◌≤◌, ◌<◌, max}
use Rattle.std.proofs.Common.{inl, inr, arith}
use Rattle.finite.specs.Decide.{le_or_lt}
use Rattle.rooms.specs.Plan.{Plan, Fits, Floorplan, swap, swap_floorplan, Left, Below, left_a<, left_b<, left→right≤left}
use Rattle.rooms.specs.SharedRow.{row→left_or_right}
use Rattle.rooms.specs.UpperRight.{upper_right→left_or_below}
use Rattle.rooms.specs.UpsideDown.{lower_right→left_or_above}
use Rattle.rooms.specs.TwoOrders.{Related, along, along_back, across, across_back}

module _ (p : Plan) (k : Floorplan p) where
  open p use {count, left, bottom, right, top}

  pub related : (a b : ℕ) → a < count → b < count → a ≢ b → Related (Left p) (Below p) a b
  related a b ha hb ne =
      go (k.fits a ha) (k.fits b hb) (le_or_lt (top a) (bottom b)) (le_or_lt (top b) (bottom a)) (le_or_lt (right a) (left b)) (le_or_lt (right b) (left a))
    where
      in_row : Left p a b ⊎ Left p b a → Related (Left p) (Below p) a b
      in_row (inl r) = along r
      in_row (inr r) = along_back r

      in_column : Below p a b ⊎ Below p b a → Related (Left p) (Below p) a b
      in_column (inl r) = across r
      in_column (inr r) = across_back r

      go : Fits p a → Fits p b → (top a ≤ bottom b) ⊎ (bottom b < top a) → (top b ≤ bottom a) ⊎ (bottom a < top b)
          → (right a ≤ left b) ⊎ (left b < right a) → (right b ≤ left a) ⊎ (left a < right b)
          → Related (Left p) (Below p) a b
      go fa fb (inr s) (inr t) u v = in_row (row→left_or_right p k a b (max (bottom a) (bottom b)) ha hb ne (omega arith) (omega arith))
      go fa fb (inl s) t (inr u) (inr v) = in_column (row→left_or_right (swap p) (swap_floorplan k) a b (max (left a) (left b)) ha hb ne (omega arith) (omega arith))
      go fa fb (inr s) (inl t) (inr u) (inr v) = in_column (row→left_or_right (swap p) (swap_floorplan k) a b (max (left a) (left b)) ha hb ne (omega arith) (omega arith))
      go fa fb (inl s) t (inl u) v = elim (upper_right→left_or_below p k a b ha hb u s) [ inl r ↦ along r | inr r ↦ across r ]
      go fa fb (inl s) t (inr u) (inl v) = elim (lower_right→left_or_above p k b a hb ha v s) [ inl r ↦ along_back r | inr r ↦ across r ]
      go fa fb (inr s) (inl t) (inl u) v = elim (lower_right→left_or_above p k a b ha hb u t) [ inl r ↦ along r | inr r ↦ across_back r ]
      go fa fb (inr s) (inl t) (inr u) (inl v) = elim (upper_right→left_or_below p k b a hb ha v t) [ inl r ↦ along_back r | inr r ↦ across_back r ]

  pub left_asym : {a b : ℕ} → Left p a b → Left p b a → ⊥
  left_asym {a} {b} l r = omega (arith, left→right≤left k l, left→right≤left k r, k.fits a (left_a< l), k.fits b (left_b< l))

-- The side on which a room stands, by its cases: each is a pair of comparisons.
use mathlib.Core.Path.{◌≡◌, refl, sym, ◌∙◌}
use mathlib.Core.List.{List}
use mathlib.Core.Logic.{ite, if_pos, if_neg}
use Prim.Native.Nat.{ℕ, suc, ◌≤◌, ◌<◌}
use native.Mathlib.Decide.{dec_lt}
use native.Mathlib.Omega.{arith}
use lib.ListN.{get_or}
use Rattle.record.specs.Labels.{label_at}
use Rattle.drawing.specs.declared.Side.TheVariants.{Left, Right, Above, Below}
use Rattle.drawing.specs.Side.{side_of}

side_is : (f : ℕ → ℕ) (i j : ℕ)
    → side_of f i j ≡ ite (dec_lt i j) (ite (dec_lt (f i) (f j)) Left Below) (ite (dec_lt (f j) (f i)) Right Above)
unfolding side_of dec_lt
side_is f i j = refl

-- the positions of the indices i and j
module _ (labels : List ℕ) (p q i j : ℕ) (at_first : suc i ≡ p) (at_second : suc j ≡ q) where
  pub side_left : i < j → get_or labels i 0 < get_or labels j 0 → Left ≡ side_of (label_at labels) p q
  side_left h k =
      rw (← at_first, ← at_second)
      (sym (side_is (label_at labels) (suc i) (suc j) ∙ if_pos (dec_lt (suc i) (suc j)) (omega arith) _ _
      ∙ if_pos (dec_lt (get_or labels i 0) (get_or labels j 0)) k Left Below))

  pub side_below : i < j → get_or labels j 0 ≤ get_or labels i 0 → Below ≡ side_of (label_at labels) p q
  side_below h k =
      rw (← at_first, ← at_second)
      (sym (side_is (label_at labels) (suc i) (suc j) ∙ if_pos (dec_lt (suc i) (suc j)) (omega arith) _ _
      ∙ if_neg (dec_lt (get_or labels i 0) (get_or labels j 0)) (λ l. omega arith) Left Below))

  pub side_right : j ≤ i → get_or labels j 0 < get_or labels i 0 → Right ≡ side_of (label_at labels) p q
  side_right h k =
      rw (← at_first, ← at_second)
      (sym (side_is (label_at labels) (suc i) (suc j) ∙ if_neg (dec_lt (suc i) (suc j)) (λ l. omega arith) _ _
      ∙ if_pos (dec_lt (get_or labels j 0) (get_or labels i 0)) k Right Above))

  pub side_above : j ≤ i → get_or labels i 0 ≤ get_or labels j 0 → Above ≡ side_of (label_at labels) p q
  side_above h k =
      rw (← at_first, ← at_second)
      (sym (side_is (label_at labels) (suc i) (suc j) ∙ if_neg (dec_lt (suc i) (suc j)) (λ l. omega arith) _ _
      ∙ if_neg (dec_lt (get_or labels j 0) (get_or labels i 0)) (λ l. omega arith) Right Above))

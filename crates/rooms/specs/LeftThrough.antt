-- Rooms on the two sides of one line: what is left of a room on its right side is left of all that is right of a room on its left side.
use Rattle.std.specs.Prelude.{◌≡◌, ◌⊎◌, ℕ, ◌≤◌, ◌<◌, min, max}
use Rattle.std.proofs.Common.{subst, inl, inr, arith}
use Rattle.finite.specs.Decide.{le_or_lt}
use Rattle.rooms.specs.Orders.{one, step}
use Rattle.rooms.specs.Chain.{chain_trans}
use Rattle.rooms.specs.Plan.{Plan, Fits, Floorplan, UprightEdge, LeftStep, Left}

min_le→one : {a b y : ℕ} → min a b ≤ y → (a ≤ y) ⊎ (b ≤ y)
min_le→one {a} {b} {y} h = elim (le_or_lt a y) [ inl g ↦ inl g | inr g ↦ inr (omega arith) ]

lt_max→one : {a b y : ℕ} → y < max a b → (y < a) ⊎ (y < b)
lt_max→one {a} {b} {y} h = elim (le_or_lt a y) [ inl g ↦ inr (omega arith) | inr g ↦ inl g ]

module _ (p : Plan) (k : Floorplan p) where
  open p use {left, bottom, top}

  -- w and c are directly left of d, and c is directly left of z: all four are on one line
  left_step_through : {w d c z : ℕ} → LeftStep p w d → LeftStep p c d → LeftStep p c z → LeftStep p w z
  left_step_through {w} {d} {c} {z} u v s = record { a< = u.a<; b< = s.b<; meet = omega (arith, u.meet, v.meet, s.meet); line = line }
    where
      same : left d ≡ left z
      same = omega (arith, v.meet, s.meet)

      line : (y : ℕ) → min (bottom w) (bottom z) ≤ y → y < max (top w) (top z) → UprightEdge p (left z) y
      line y lo hi = go (k.fits d u.b<) (k.fits c v.a<) (min_le→one lo) (lt_max→one hi)
        where
          by_u : min (bottom w) (bottom d) ≤ y → y < max (top w) (top d) → UprightEdge p (left z) y
          by_u a b = subst (λ (x : ℕ). UprightEdge p x y) same (u.line y a b)

          by_v : min (bottom c) (bottom d) ≤ y → y < max (top c) (top d) → UprightEdge p (left z) y
          by_v a b = subst (λ (x : ℕ). UprightEdge p x y) same (v.line y a b)

          go : Fits p d → Fits p c → (bottom w ≤ y) ⊎ (bottom z ≤ y) → (y < top w) ⊎ (y < top z) → UprightEdge p (left z) y
          go fd fc (inl a) (inl b) = by_u (omega arith) (omega arith)
          go fd fc (inr a) (inr b) = s.line y (omega arith) (omega arith)
          go fd fc (inl a) (inr b) = elim (le_or_lt (top d) y) [
            | inr e ↦ by_u (omega arith) (omega arith)
            | inl e ↦ elim (le_or_lt (top c) y) [ inr f ↦ by_v (omega arith) (omega arith) | inl f ↦ s.line y (omega arith) (omega arith) ]
          ]
          go fd fc (inr a) (inl b) = elim (le_or_lt (bottom d) y) [
            | inl e ↦ by_u (omega arith) (omega arith)
            | inr e ↦ elim (le_or_lt (bottom c) y) [ inl f ↦ by_v (omega arith) (omega arith) | inr f ↦ s.line y (omega arith) (omega arith) ]
          ]

  -- what is left of d is left of all that is right of c, where c is directly left of d
  left_through_step : {w d c b : ℕ} → LeftStep p w d → LeftStep p c d → Left p c b → Left p w b
  left_through_step u v (one s) = one (left_step_through u v s)
  left_through_step u v (step r s) = step (left_through_step u v r) s

  pub left_through : {a d c b : ℕ} → Left p a d → LeftStep p c d → Left p c b → Left p a b
  left_through (one u) v r = left_through_step u v r
  left_through (step q u) v r = chain_trans q (left_through_step u v r)

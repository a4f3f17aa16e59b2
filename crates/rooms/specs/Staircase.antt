-- No room is both right of a room a and above it. A staircase goes up from a's upper-right corner: straight up where an edge is
-- drawn, else to the right as far as edges are drawn. The rooms right of a stay on its right, those above a on its left.
use Rattle.std.specs.Prelude.{◌≡◌}
use Rattle.std.proofs.Math.Path.{refl, subst}
use Rattle.std.proofs.Common.{sym, ap, inl, arith, le_of_eq, le_antisymm, eq-or-lt_of_le}
use Rattle.std.proofs.Math.Logic.{inr}
use Prim.Native.Nat.{ℕ, zero, suc, ◌+◌, ◌-◌, ◌≤◌, ◌<◌, zero-le}
use Rattle.finite.specs.Decide.{le_or_lt, eq_or_ne, stable}
use Rattle.rooms.specs.Orders.{one, step}
use Rattle.rooms.specs.Runs.{EndsAt, run_end, run_end_lem}
use Rattle.rooms.specs.Plan.{Plan, swap, UprightEdge, FlatEdge, Floorplan, tiles, swap_floorplan, Left, Below, left_b<, left→right≤left}
use Rattle.rooms.specs.EdgesAtPoint.{dec_upright_edge, no_hook}
use Rattle.rooms.specs.SharedRow.{east_drawn}

module _ (p : Plan) (k : Floorplan p) where
  open p use {west, south, east, north}

  -- the staircase, at x, goes on into row y: straight up, or aside along the flat edges at y and up from where they end
  data Turn (x y : ℕ) : ℕ → Type 0 where
    straight : UprightEdge p x y → Turn x y x
    aside : {end : ℕ} → ¬ UprightEdge p x y → EndsAt (λ z. FlatEdge p z y) x end → Turn x y end

  turn : (x y : ℕ) → (z : ℕ) × Turn x y z
  turn x y = go (dec_upright_edge p x y)
    where
      go : Dec (UprightEdge p x y) → (z : ℕ) × Turn x y z
      go (yes e) = (x, straight e)
      go (no e) = (
        run_end (λ z. FlatEdge p z y) (dec_upright_edge (swap p) y) east x,
        aside e (run_end_lem (λ z. FlatEdge p z y) (dec_upright_edge (swap p) y) east x (λ (i, l, h, o). omega (arith, o, k.fits i h))),
      )

  module _ (x y : ℕ) where
    turn_rises : {z : ℕ} → Turn x y z → x ≤ z
    turn_rises (straight e) = omega arith
    turn_rises (aside e r) = r.le

    turn_inside : {z : ℕ} → x ≤ east → Turn x y z → z ≤ east
    turn_inside h (straight e) = h
    turn_inside {z} h (aside e r) = elim (eq-or-lt_of_le r.le) [
      | inl q ↦ omega arith
      | inr l ↦ let (i, li, hi, o) = r.has (z - 1) (omega arith) (omega arith) in omega (arith, o, k.fits i hi)
    ]

    -- it goes up along an edge
    turn_drawn : {z : ℕ} → west < x → x ≤ east → south < y → y < north → UprightEdge p x (y - 1) → Turn x y z → UprightEdge p z y
    turn_drawn a b c d v (straight e) = e
    turn_drawn {z} a b c d v (aside e r) = elim (eq-or-lt_of_le (turn_inside b (aside e r))) [
      | inl q ↦ subst (λ (x : ℕ). UprightEdge p x y) (sym q) (east_drawn p k (omega arith) y (omega arith) d)
      | inr l ↦ stable (dec_upright_edge p z y) (λ none. hook none (no_hook p (tiles k) z y (omega (arith, r.le)) r.not_there none))
    ]
      where
        hook : ¬ UprightEdge p z y → (¬ UprightEdge p z (y - 1)) × (¬ FlatEdge p (z - 1) y) → ⊥
        hook none n = elim (eq-or-lt_of_le r.le) [
          | inl q ↦ n.0 (subst (λ (x : ℕ). UprightEdge p x (y - 1)) q v)
          | inr l ↦ n.1 (r.has (z - 1) (omega arith) (omega arith))
        ]

    -- an upright line on its right that goes on into row y stays on its right
    turn_before_line : {z : ℕ} (line : ℕ) → west < x → x ≤ line → line ≤ east → south < y → y < north
        → UprightEdge p line (y - 1) → UprightEdge p line y → Turn x y z → z ≤ line
    turn_before_line line a b c d e v w (straight f) = b
    turn_before_line {z} line a b c d e v w (aside none r) = elim (le_or_lt z line) [
      | inl h ↦ h
      | inr h ↦ elim (eq_or_ne x line) [
        | inl q ↦ absurd (none (subst (λ (x : ℕ). UprightEdge p x y) (sym q) w))
        | inr q ↦ absurd (k.no_cross line y (omega (arith, turn_inside (omega arith) (aside none r))) v w (r.has (line - 1) (omega arith) (omega arith)) (r.has line b h))
      ]
    ]

    -- a flat line at y that comes from its left ends on its left
    turn_past_line : {z : ℕ} (end : ℕ) → west < x → x ≤ east → end ≤ east → south < y → y < north → UprightEdge p x (y - 1)
        → ((c : ℕ) → x ≤ suc c → c < end → FlatEdge p c y) → Turn x y z → end ≤ z
    turn_past_line end a b c d e v line (straight w) = elim (le_or_lt end x) [
      | inl h ↦ h
      | inr h ↦ absurd (k.no_cross x y (omega arith) v w (line (x - 1) (omega arith) (omega arith)) (line x (omega arith) h))
    ]
    turn_past_line {z} end a b c d e v line (aside none r) = elim (le_or_lt end z) [ inl h ↦ h | inr h ↦ absurd (r.not_there (line z (omega (arith, r.le)) h)) ]

module _ (p : Plan) (k : Floorplan p) (a : ℕ) (ha : a < p.count) where
  open p use {count, left, bottom, right, top, east, north}

  -- the staircase in row top a + j - 1
  stair : (j : ℕ) → ℕ
  stair zero = right a
  stair (suc j) = (turn p k (stair j) (top a + j)).0

  stair_zero : stair zero ≡ right a
  unfolding stair
  stair_zero = refl

  stair_turn : (j : ℕ) → Turn p k (stair j) (top a + j) (stair (suc j))
  unfolding stair
  stair_turn j = (turn p k (stair j) (top a + j)).1

  record StairAt (j : ℕ) : Type 0 where
    past : right a ≤ stair j
    inside : stair j ≤ east
    drawn : UprightEdge p (stair j) (top a + j - 1)

  stair_at : (j : ℕ) → top a + j ≤ north → StairAt j
  unfolding stair
  stair_at zero h =
      record { past = omega arith; inside = omega (arith, k.fits a ha); drawn = (a, zero-le, ha, record { side = inr refl; bottom = omega (arith, k.fits a ha); top = omega (arith, k.fits a ha) }) }
  stair_at (suc j) h =
      let s = stair_at j (omega arith) in
      let fa = k.fits a ha in
      let t = stair_turn j in
      record {
        past = omega (arith, s.past, turn_rises p k (stair j) (top a + j) t);
        inside = turn_inside p k (stair j) (top a + j) s.inside t;
        drawn = subst (λ (z : ℕ). UprightEdge p (stair (suc j)) z) (omega arith) (turn_drawn p k (stair j) (top a + j) (omega (arith, s.past)) s.inside (omega arith) (omega arith) s.drawn t);
      }

  stair_rises : (i j : ℕ) → i ≤ j → stair i ≤ stair j
  stair_rises i zero l = le_of_eq (ap stair (le_antisymm l zero-le))
  stair_rises i (suc j) l = elim (eq-or-lt_of_le l) [
    | inl q ↦ le_of_eq (ap stair q)
    | inr g ↦ omega (arith, stair_rises i j (omega arith), turn_rises p k (stair j) (top a + j) (stair_turn j))
  ]

  -- an upright line that is right of the staircase in one row is so in every row above that it reaches
  stair_before_line : (line i j : ℕ) → i ≤ j → top a + j ≤ north → stair i ≤ line → line ≤ east → ((y : ℕ) → top a + i ≤ suc y
      → y < top a + j → UprightEdge p line y) → stair j ≤ line
  stair_before_line line i zero l h from to drawn = omega (arith, ap stair (le_antisymm l zero-le))
  stair_before_line line i (suc j) l h from to drawn = elim (eq-or-lt_of_le l) [
    | inl q ↦ omega (arith, ap stair q)
    | inr g ↦
        let s = stair_at j (omega arith) in
        let fa = k.fits a ha in
        turn_before_line p k (stair j) (top a + j) line (omega (arith, s.past)) (stair_before_line line i j (omega arith) (omega arith) from to (λ y u v. drawn y u (omega arith))) to (omega arith) (omega arith)
        (drawn (top a + j - 1) (omega arith) (omega arith)) (drawn (top a + j) (omega arith) (omega arith)) (stair_turn j)
  ]

  -- every room right of a is right of the staircase
  left→past_stair : {b : ℕ} → Left p a b → (j : ℕ) → bottom b < top a + j → top a + j ≤ top b → stair j ≤ left b
  left→past_stair {b} (one d) j u v =
      let fa = k.fits a ha in
      let fb = k.fits b d.b< in
      stair_before_line (left b) zero j zero-le (omega arith) (omega (arith, stair_zero, d.meet)) (omega arith) (λ y h g. d.line y (omega arith) (omega arith))
  left→past_stair {b} (step {b = c} r d) j u v =
      let fb = k.fits b d.b< in
      let fc = k.fits c d.a< in
      let meet = d.meet in
      elim (le_or_lt (top a + j) (top c)) [
        | inl h ↦ elim (le_or_lt (top a + j) (bottom c)) [
          | inr g ↦ omega (arith, left→past_stair r j g h)
          | inl g ↦ omega (arith, left→past_stair r (suc (bottom c) - top a) (omega arith) (omega arith), stair_rises j (suc (bottom c) - top a) (omega arith))
        ]
        | inr h ↦ stair_before_line (left b) (top c - top a) j (omega arith) (omega arith)
            (elim (le_or_lt (top a) (top c)) [
              | inl g ↦ omega (arith, left→past_stair r (top c - top a) (omega arith) (omega arith))
              | inr g ↦ let start : top c - top a ≡ zero = omega arith in omega (arith, stair_zero, left→right≤left k r, ap stair start)
            ])
            (omega arith) (λ y lo hi. d.line y (omega arith) (omega arith))
      ]

  -- every room above a is left of the staircase
  below→before_stair : {b : ℕ} → Below p a b → (j : ℕ) → top a + j ≡ bottom b → right b ≤ stair (suc j)
  below→before_stair {b} (one d) j e =
      let fa = k.fits a ha in
      let fb = k.fits b d.b< in
      let meet = d.meet in
      let s = stair_at j (omega arith) in
      turn_past_line p k (stair j) (top a + j) (right b) (omega (arith, s.past)) s.inside (omega arith) (omega arith) (omega arith) s.drawn
      (λ z lo hi. subst (λ (y : ℕ). FlatEdge p z y) (sym e) (d.line z (omega (arith, s.past)) (omega arith))) (stair_turn j)
  below→before_stair {b} (step {b = c} r d) j e =
      let fa = k.fits a ha in
      let fb = k.fits b d.b< in
      let fc = k.fits c d.a< in
      let meet = d.meet in
      let s = stair_at j (omega arith) in
      let i = bottom c - top a in
      let under = left→right≤left (swap_floorplan k) r in
      let before = below→before_stair r i (omega arith) in
      let rises = stair_rises (suc i) j (omega arith) in
      turn_past_line p k (stair j) (top a + j) (right b) (omega (arith, s.past)) s.inside (omega arith) (omega arith) (omega arith) s.drawn
      (λ z lo hi. subst (λ (y : ℕ). FlatEdge p z y) (sym e) (d.line z (omega arith) (omega arith))) (stair_turn j)

  pub not_left_and_below : {b : ℕ} → Left p a b → Below p a b → ⊥
  not_left_and_below {b} l r =
      let fb = k.fits b (left_b< l) in
      let j = bottom b - top a in
      let under = left→right≤left (swap_floorplan k) r in
      omega (arith, below→before_stair r j (omega arith), left→past_stair l (suc j) (omega arith) (omega arith))

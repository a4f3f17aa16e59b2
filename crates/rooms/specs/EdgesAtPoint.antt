-- Unit edges of a floorplan: one is drawn exactly where the rooms on its two sides differ, and then it lies on an edge of both. At
-- no point do just two drawn unit edges form a hook.
use Rattle.std.specs.Prelude.{◌≡◌, ◌≢◌, ℕ, zero, ◌-◌, ◌<◌}
use Rattle.std.proofs.Common.{ap, inl, inr, zero-le, arith}
use Rattle.std.proofs.Math.Decide.{dec_le, dec_lt, ℕ_discrete}
use Rattle.finite.specs.Decide.{le_or_lt, eq_or_ne, dec-×₃, dec-⊎, dec_iff}
use Rattle.finite.specs.Search.{dec_some}
use Rattle.rooms.specs.Plan.{Plan, RoomCovers, Tiles, swap, swap_covers, swap_tiles, owner, owner_covers, OnUpright, UprightEdge, FlatEdge, Inner}

pub dec_upright_edge : (p : Plan) (x y : ℕ) → Dec (UprightEdge p x y)
dec_upright_edge p x y = dec_some (OnUpright p x y) on 0 p.count
  where
    on : (i : ℕ) → Dec (OnUpright p x y i)
    on i = dec_iff (λ h. record { side = h.0; bottom = h.1; top = h.2 }) (λ h. (h.side, h.bottom, h.top))
        (dec-×₃ (dec-⊎ (ℕ_discrete (p.left i) x) (ℕ_discrete (p.right i) x)) (dec_le (p.bottom i) y) (dec_lt y (p.top i)))

-- ---- the rooms c and d on the two sides of the upright unit edge at x in row y
module _ (p : Plan) (t : Tiles p) (c d x y : ℕ) (hc : c < p.count) (hd : d < p.count) (some : zero < x) (i : RoomCovers p c (x - 1) y) (j : RoomCovers p d x y) where
  open p use {left, right}

  pub two_rooms→sides_meet : c ≢ d → (right c ≡ x) × (left d ≡ x)
  two_rooms→sides_meet ne = (
    elim (le_or_lt (right c) x) [ inl h ↦ omega arith | inr h ↦ absurd (ne (t.apart c d x y hc hd (omega arith) j)) ],
    elim (le_or_lt x (left d)) [ inl h ↦ omega arith | inr h ↦ absurd (ne (t.apart c d (x - 1) y hc hd i (omega arith))) ],
  )

  edge→two_rooms : UprightEdge p x y → c ≢ d
  edge→two_rooms (m, l, hm, o) e = elim o.side [
    | inl q ↦ omega (arith, i, ap left e, ap left (t.apart m d x y hm hd (omega (arith, o, t.fits m hm)) j))
    | inr q ↦ omega (arith, j, ap right e, ap right (t.apart m c (x - 1) y hm hc (omega (arith, o, t.fits m hm)) i))
  ]

  pub edge→sides_meet : UprightEdge p x y → (right c ≡ x) × (left d ≡ x)
  edge→sides_meet edge = two_rooms→sides_meet (edge→two_rooms edge)

  pub no_edge→one_room : ¬ UprightEdge p x y → c ≡ d
  no_edge→one_room none = elim (eq_or_ne c d) [
    | inl e ↦ e
    | inr ne ↦ absurd (none (c, zero-le, hc, record { side = inr (two_rooms→sides_meet ne).0; bottom = i.bottom; top = i.top }))
  ]

-- where no edge leads right from a point and none leads up, none leads down and none left
pub no_hook : (p : Plan) → Tiles p → (x y : ℕ) → Inner p x y → ¬ FlatEdge p x y → ¬ UprightEdge p x y
    → (¬ UprightEdge p x (y - 1)) × (¬ FlatEdge p (x - 1) y)
no_hook p t x y h no-right no-up =
    let sw = owner p (x - 1) (y - 1) in
    let se = owner p x (y - 1) in
    let nw = owner p (x - 1) y in
    let ne = owner p x y in
    let (hsw, isw) = owner_covers t (x - 1) (y - 1) (omega arith) in
    let (hse, ise) = owner_covers t x (y - 1) (omega arith) in
    let (hnw, inw) = owner_covers t (x - 1) y (omega arith) in
    let (hne, ine) = owner_covers t x y (omega arith) in
    let left_is = no_edge→one_room p t nw ne x y hnw hne (omega arith) inw ine no-up in
    let under-is = no_edge→one_room (swap p) (swap_tiles t) se ne y x hse hne (omega arith) (swap_covers ise) (swap_covers ine) no-right in
    let all_one = t.apart sw ne (x - 1) (y - 1) hsw hne isw (omega (arith, ap p.left left_is, inw, ine, ap p.bottom under-is, ise)) in (
      λ edge. omega (arith, edge→sides_meet p t sw se x (y - 1) hsw hse (omega arith) isw ise edge, ap p.right all_one, ine),
      λ edge. omega (arith, edge→sides_meet (swap p) (swap_tiles t) sw nw y (x - 1) hsw hnw (omega arith) (swap_covers isw) (swap_covers inw) edge, ap p.top all_one, ine),
    )

-- Rooms side by side: the rooms next to a room, and that two rooms which share a row of unit squares are left and right of one
-- another: walk along the row.
use Rattle.std.specs.Prelude.{◌≡◌, refl, ◌≢◌, ◌⊎◌, ℕ, zero, suc, ◌-◌, ◌≤◌, ◌<◌, min, max}
use Rattle.std.proofs.Common.{sym, subst, inl, inr, zero-le, arith}
use Rattle.finite.specs.Decide.{le_or_lt, eq_or_ne}
use Rattle.finite.specs.Search.{Some}
use Rattle.rooms.specs.Orders.{one, step}
use Rattle.rooms.specs.Plan.{Plan, RoomCovers, tiles, owner, owner_covers, UprightEdge, Floorplan, LeftStep, Left}
use Rattle.rooms.specs.EdgesAtPoint.{edge→sides_meet}

-- room i has unit squares in row y
pub record InRow (p : Plan) (i y : ℕ) : Type 0 where
  pub bottom : p.bottom i ≤ y
  pub top : y < p.top i

module _ (p : Plan) (k : Floorplan p) where
  open p use {count, left, bottom, right, top, west, south, east, north}

  -- two rooms that are next to each other in row y, a on the left
  pub adjacent→left_step : (a b y : ℕ) → a < count → b < count → right a ≡ left b → InRow p a y → InRow p b y → LeftStep p a b
  adjacent→left_step a b y ha hb meet ya yb = record { a< = ha; b< = hb; meet = meet; line = λ z lo hi. go z lo hi (le_or_lt (bottom a) z) (le_or_lt (top a) z) }
    where
      go : (z : ℕ) → min (bottom a) (bottom b) ≤ z → z < max (top a) (top b) → (bottom a ≤ z) ⊎ (z < bottom a)
          → (top a ≤ z) ⊎ (z < top a) → UprightEdge p (left b) z
      go z lo hi (inl h) (inr g) = (a, zero-le, ha, record { side = inr meet; bottom = h; top = g })
      go z lo hi (inr h) q = (b, zero-le, hb, record { side = inl refl; bottom = omega arith; top = omega arith })
      go z lo hi (inl h) (inl g) = (b, zero-le, hb, record { side = inl refl; bottom = omega arith; top = omega arith })

  -- the room just left of b in row y
  beside_left : (b y : ℕ) → b < count → InRow p b y → west < left b → let c = owner p (left b - 1) y in (c < count) × RoomCovers p c (left b - 1) y × LeftStep p c b
  beside_left b y hb yb h =
      let fb = k.fits b hb in
      let c = owner p (left b - 1) y in
      let (hc, i) = owner_covers (tiles k) (left b - 1) y (omega arith) in
      let (meet, start) = edge→sides_meet p (tiles k) c b (left b) y hc hb (omega arith) i (omega arith) (b, zero-le, hb, record { side = inl refl; bottom = yb.bottom; top = yb.top }) in
      (hc, i, adjacent→left_step c b y hc hb meet (omega arith) yb)

  -- ---- the rooms next to a room, and the sides of the outline
  pub left_neighbour : (a : ℕ) → a < count → west < left a → Some (λ c. LeftStep p c a) 0 count
  left_neighbour a ha h = let (hc, i, d) = beside_left a (bottom a) ha (omega (arith, k.fits a ha)) h in (owner p (left a - 1) (bottom a), zero-le, hc, d)

  pub right_neighbour : (a : ℕ) → a < count → right a < east → Some (λ c. LeftStep p a c) 0 count
  right_neighbour a ha h =
      let fa = k.fits a ha in
      let c = owner p (right a) (bottom a) in
      let (hc, i) = owner_covers (tiles k) (right a) (bottom a) (omega arith) in
      let (end, meet) = edge→sides_meet p (tiles k) a c (right a) (bottom a) ha hc (omega arith) (omega arith) i (a, zero-le, ha, record { side = inr refl; bottom = omega arith; top = omega arith }) in
      (c, zero-le, hc, adjacent→left_step a c (bottom a) ha hc (sym meet) (omega arith) (omega (arith, i)))

  pub west_drawn : west < east → (y : ℕ) → south ≤ y → y < north → UprightEdge p west y
  west_drawn wide y lo hi =
      let (h, i) = owner_covers (tiles k) west y (omega arith) in
      (owner p west y, zero-le, h, record { side = inl (omega (arith, i, k.fits (owner p west y) h)); bottom = i.bottom; top = i.top })

  pub east_drawn : west < east → (y : ℕ) → south ≤ y → y < north → UprightEdge p east y
  east_drawn wide y lo hi =
      let (h, i) = owner_covers (tiles k) (east - 1) y (omega arith) in
      (owner p (east - 1) y, zero-le, h, record { side = inr (omega (arith, i, k.fits (owner p (east - 1) y) h)); bottom = i.bottom; top = i.top })

  -- ---- two rooms in one row
  -- one ends before the other starts
  one_ends_before : (a b y : ℕ) → a < count → b < count → a ≢ b → InRow p a y → InRow p b y → (right a ≤ left b) ⊎ (right b ≤ left a)
  one_ends_before a b y ha hb ne ya yb = elim (le_or_lt (right a) (left b)) [
    | inl h ↦ inl h
    | inr h ↦ elim (le_or_lt (right b) (left a)) [
      | inl g ↦ inr g
      | inr g ↦ absurd (ne (k.apart a b (max (left a) (left b)) y ha hb (omega (arith, k.fits a ha)) (omega (arith, k.fits b hb))))
    ]
  ]

  -- by induction on how far right b starts
  row→left_within : (far a b y : ℕ) → left b ≤ far → a < count → b < count → InRow p a y → InRow p b y → right a ≤ left b → Left p a b
  row→left_within zero a b y l ha hb ya yb h = absurd (omega (arith, k.fits a ha))
  row→left_within (suc far) a b y l ha hb ya yb h =
      let fa = k.fits a ha in
      let c = owner p (left b - 1) y in
      let (hc, i, d) = beside_left b y hb yb (omega (arith, fa)) in
      elim (eq_or_ne a c) [
        | inl q ↦ one (subst (λ (z : ℕ). LeftStep p z b) (sym q) d)
        | inr q ↦ elim (one_ends_before a c y ha hc q ya (omega (arith, i))) [
          | inl g ↦ step (row→left_within far a c y (omega (arith, i)) ha hc ya (omega (arith, i)) g) d
          | inr g ↦ absurd (omega (arith, fa, i))
        ]
      ]

  pub row→left : (a b y : ℕ) → a < count → b < count → InRow p a y → InRow p b y → right a ≤ left b → Left p a b
  row→left a b y ha hb ya yb h = row→left_within (left b) a b y (omega arith) ha hb ya yb h

  pub row→left_or_right : (a b y : ℕ) → a < count → b < count → a ≢ b → InRow p a y → InRow p b y → Left p a b ⊎ Left p b a
  row→left_or_right a b y ha hb ne ya yb = elim (one_ends_before a b y ha hb ne ya yb) [
    | inl h ↦ inl (row→left a b y ha hb ya yb h)
    | inr h ↦ inr (row→left b a y hb ha yb ya h)
  ]

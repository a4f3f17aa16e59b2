-- "No point is a corner of four rooms": where four drawn unit edges meet, a room has its corner in each of the four quadrants of
-- the point; and of three different rooms with a corner at one point two lie across it from each other, so four drawn unit edges
-- meet there.
use Rattle.std.specs.Prelude.{◌≡◌, ◌≢◌, ◌⊎◌, ℕ, ◌-◌, ◌<◌}
use Rattle.std.proofs.Common.{inl, inr, zero-le, arith}
use Rattle.finite.specs.Search.{Some}
use Rattle.rooms.specs.Outline.{Corner}
use Rattle.rooms.specs.Plan.{Plan, room_of, Tiles, swap, swap_covers, swap_tiles, owner, owner_covers, UprightEdge, FlatEdge, Inner, Floorplan}
use Rattle.rooms.specs.EdgesAtPoint.{edge→sides_meet}

-- the rooms of the four quadrants of the point (x, y) have a corner there
pub record Quadrants (p : Plan) (x y : ℕ) : Type 0 where
  pub lower_left : Some (λ i. (p.right i ≡ x) × (p.top i ≡ y)) 0 p.count
  pub lower_right : Some (λ i. (p.left i ≡ x) × (p.top i ≡ y)) 0 p.count
  pub upper_left : Some (λ i. (p.right i ≡ x) × (p.bottom i ≡ y)) 0 p.count
  pub upper_right : Some (λ i. (p.left i ≡ x) × (p.bottom i ≡ y)) 0 p.count

pub four_edges→quadrants : (p : Plan) → Tiles p → (x y : ℕ) → Inner p x y → UprightEdge p x (y - 1) → UprightEdge p x y
    → FlatEdge p (x - 1) y → FlatEdge p x y → Quadrants p x y
four_edges→quadrants p k x y h low high near far =
    let sw = owner p (x - 1) (y - 1) in
    let se = owner p x (y - 1) in
    let nw = owner p (x - 1) y in
    let ne = owner p x y in
    let (hsw, isw) = owner_covers k (x - 1) (y - 1) (omega arith) in
    let (hse, ise) = owner_covers k x (y - 1) (omega arith) in
    let (hnw, inw) = owner_covers k (x - 1) y (omega arith) in
    let (hne, ine) = owner_covers k x y (omega arith) in
    let under = edge→sides_meet p k sw se x (y - 1) hsw hse (omega arith) isw ise low in
    let over = edge→sides_meet p k nw ne x y hnw hne (omega arith) inw ine high in
    let before = edge→sides_meet (swap p) (swap_tiles k) sw nw y (x - 1) hsw hnw (omega arith) (swap_covers isw) (swap_covers inw) near in
    let after = edge→sides_meet (swap p) (swap_tiles k) se ne y x hse hne (omega arith) (swap_covers ise) (swap_covers ine) far in
    record {
      lower_left = (sw, zero-le, hsw, (under.0, before.0));
      lower_right = (se, zero-le, hse, (under.1, after.0));
      upper_left = (nw, zero-le, hnw, (over.0, before.1));
      upper_right = (ne, zero-le, hne, (over.1, after.1));
    }

-- ---- back: the rooms at a point by the diagonal of the point on which they lie
module _ (p : Plan) (k : Floorplan p) (x y : ℕ) where
  open p use {count, left, bottom, right, top}

  -- a room above or to the left has an edge on each line through the point, and so has a room across from it
  rising→cross : (a d : ℕ) → a < count → d < count → right a ≡ x → top a ≡ y → left d ≡ x → bottom d ≡ y → ⊥
  rising→cross a d ha hd ra ta ld bd =
      let fa = k.fits a ha in
      let fd = k.fits d hd in
      k.no_cross x y (omega arith)
      (a, zero-le, ha, record { side = inr ra; bottom = omega arith; top = omega arith })
      (d, zero-le, hd, record { side = inl ld; bottom = omega arith; top = omega arith })
      (a, zero-le, ha, record { side = inr ta; bottom = omega arith; top = omega arith })
      (d, zero-le, hd, record { side = inl bd; bottom = omega arith; top = omega arith })

  pub falling→cross : (b c : ℕ) → b < count → c < count → left b ≡ x → top b ≡ y → right c ≡ x → bottom c ≡ y → ⊥
  falling→cross b c hb hc lb tb rc bc =
      let fb = k.fits b hb in
      let fc = k.fits c hc in
      k.no_cross x y (omega arith)
      (b, zero-le, hb, record { side = inl lb; bottom = omega arith; top = omega arith })
      (c, zero-le, hc, record { side = inr rc; bottom = omega arith; top = omega arith })
      (c, zero-le, hc, record { side = inl bc; bottom = omega arith; top = omega arith })
      (b, zero-le, hb, record { side = inr tb; bottom = omega arith; top = omega arith })

  -- the room lies at the lower left or the upper right of the point; at the lower right or the upper left
  data Rising (i : ℕ) : Type 0 where
    lower_left : right i ≡ x → top i ≡ y → Rising i
    upper_right : left i ≡ x → bottom i ≡ y → Rising i

  data Falling (i : ℕ) : Type 0 where
    lower_right : left i ≡ x → top i ≡ y → Falling i
    upper_left : right i ≡ x → bottom i ≡ y → Falling i

  one_rising : (i j : ℕ) → i < count → j < count → i ≢ j → Rising i → Rising j → ⊥
  one_rising i j hi hj ne (lower_left a b) (lower_left c d) = ne (k.apart i j (x - 1) (y - 1) hi hj (omega (arith, k.fits i hi)) (omega (arith, k.fits j hj)))
  one_rising i j hi hj ne (upper_right a b) (upper_right c d) = ne (k.apart i j x y hi hj (omega (arith, k.fits i hi)) (omega (arith, k.fits j hj)))
  one_rising i j hi hj ne (lower_left a b) (upper_right c d) = rising→cross i j hi hj a b c d
  one_rising i j hi hj ne (upper_right a b) (lower_left c d) = rising→cross j i hj hi c d a b

  one_falling : (i j : ℕ) → i < count → j < count → i ≢ j → Falling i → Falling j → ⊥
  one_falling i j hi hj ne (lower_right a b) (lower_right c d) = ne (k.apart i j x (y - 1) hi hj (omega (arith, k.fits i hi)) (omega (arith, k.fits j hj)))
  one_falling i j hi hj ne (upper_left a b) (upper_left c d) = ne (k.apart i j (x - 1) y hi hj (omega (arith, k.fits i hi)) (omega (arith, k.fits j hj)))
  one_falling i j hi hj ne (lower_right a b) (upper_left c d) = falling→cross i j hi hj a b c d
  one_falling i j hi hj ne (upper_left a b) (lower_right c d) = falling→cross j i hj hi c d a b

  diagonal : (i : ℕ) → Corner (room_of p i) x y → Rising i ⊎ Falling i
  diagonal i (inl a, inl b) = inl (upper_right a b)
  diagonal i (inl a, inr b) = inr (lower_right a b)
  diagonal i (inr a, inl b) = inr (upper_left a b)
  diagonal i (inr a, inr b) = inl (lower_left a b)

  -- no three rooms of a floorplan have a corner at one point
  pub not_three_corners : (a b c : ℕ) → a < count → b < count → c < count → a ≢ b → a ≢ c → b ≢ c → Corner (room_of p a) x y
      → Corner (room_of p b) x y → Corner (room_of p c) x y → ⊥
  not_three_corners a b c ha hb hc ab ac bc at_a at_b at_c = go (diagonal a at_a) (diagonal b at_b) (diagonal c at_c)
    where
      go : Rising a ⊎ Falling a → Rising b ⊎ Falling b → Rising c ⊎ Falling c → ⊥
      go (inl u) (inl v) w = one_rising a b ha hb ab u v
      go (inr u) (inr v) w = one_falling a b ha hb ab u v
      go (inl u) (inr v) (inl w) = one_rising a c ha hc ac u w
      go (inl u) (inr v) (inr w) = one_falling b c hb hc bc v w
      go (inr u) (inl v) (inl w) = one_rising b c hb hc bc v w
      go (inr u) (inl v) (inr w) = one_falling a c ha hc ac u w

-- A room list as a plan: it is accepted exactly if it has 1 to 255 rooms, no nonzero name twice, and its plan is a floorplan.
use Rattle.std.specs.Prelude.{◌≡◌, List, ℕ, ◌≤◌, ◌<◌, length}
use Rattle.std.proofs.Common.{ap, inl, inr, zero-le, arith}
use Rattle.finite.specs.Decide.{le_or_lt, eq_or_ne, stable}
use Rattle.finite.specs.Search.{dec_some}
use Rattle.drawing.specs.declared.Room.{Room}
use Rattle.drawing.specs.Tiling.{Different}
use Rattle.rooms.specs.Outline.{room_in, outline}
use Rattle.rooms.specs.Causes.{FourMeet, NameTwice, AcceptedRooms}
use Rattle.rooms.specs.OutlineLaws.{rooms_within_outline}
use Rattle.rooms.specs.DecideCauses.{dec_covers}
use Rattle.rooms.specs.Plan.{Plan, Fits, Tiles, Floorplan}
use Rattle.rooms.specs.FourCorners.{Quadrants, four_edges→quadrants, not_three_corners}

abbrev pub plan_of : List Room → Plan
plan_of rooms = record {
  count = length rooms;
  left = λ i. (room_in rooms i).left;
  bottom = λ i. (room_in rooms i).bottom;
  right = λ i. (room_in rooms i).right;
  top = λ i. (room_in rooms i).top;
  west = (outline rooms).left;
  south = (outline rooms).bottom;
  east = (outline rooms).right;
  north = (outline rooms).top;
}

-- a room of positive size fits in its list's outline
pub size→fits : (rooms : List Room) (i : ℕ) → i < length rooms → (room_in rooms i).left < (room_in rooms i).right
    → (room_in rooms i).bottom < (room_in rooms i).top → Fits (plan_of rooms) i
size→fits rooms i h wide tall = let w = rooms_within_outline rooms i h in record {
  wide = wide;
  tall = tall;
  west = w.left;
  south = w.bottom;
  east = w.right;
  north = w.top;
}

-- "Name 0 means unnamed and may occur often"
pub unnamed→no_name_twice : (rooms : List Room) → ((i : ℕ) → i < length rooms → (room_in rooms i).name ≡ 0) → ¬ NameTwice rooms
unnamed→no_name_twice rooms none (i, l, h, (j, m, g, (differ, named, same))) = named (none i h)

module _ (rooms : List Room) where
  pub accepted→floorplan : AcceptedRooms rooms → Floorplan (plan_of rooms)
  accepted→floorplan k = record { fits = t.fits; apart = t.apart; covered = t.covered; no_cross = λ x y h low high near far. not_four (four_edges→quadrants (plan_of rooms) t x y h low high near far) }
    where
      t : Tiles (plan_of rooms)
      t = record {
        fits = λ i h. size→fits rooms i h
            (elim (le_or_lt (room_in rooms i).right (room_in rooms i).left) [ inl g ↦ absurd (k.size (i, zero-le, h, inl g)) | inr g ↦ g ])
            (elim (le_or_lt (room_in rooms i).top (room_in rooms i).bottom) [ inl g ↦ absurd (k.size (i, zero-le, h, inr g)) | inr g ↦ g ]);
        apart = λ i j x y hi hj u v. elim (eq_or_ne i j) [ inl e ↦ e | inr ne ↦ absurd (k.overlap (i, zero-le, hi, (j, zero-le, hj, (ne, (x, y, u, v))))) ];
        covered = λ x y h. stable (dec_some _ (λ i. dec_covers (room_in rooms i) x y) 0 (length rooms)) (λ none. k.uncovered (x, y, h, none));
      }

      rights : {i j : ℕ} → i ≡ j → (room_in rooms i).right ≡ (room_in rooms j).right
      rights e = ap (λ (i : ℕ). (room_in rooms i).right) e

      tops : {i j : ℕ} → i ≡ j → (room_in rooms i).top ≡ (room_in rooms j).top
      tops e = ap (λ (i : ℕ). (room_in rooms i).top) e

      -- a room has no corner in two quadrants, since it is wide and tall
      not_four : {x y : ℕ} → Quadrants (plan_of rooms) x y → ⊥
      not_four {x} {y} q =
          let (sw, lsw, hsw, (rsw, tsw)) = q.lower_left in
          let (se, lse, hse, (lse-x, tse)) = q.lower_right in
          let (nw, lnw, hnw, (rnw, bnw)) = q.upper_left in
          let (ne, lne, hne, (lne-x, bne)) = q.upper_right in
          let fse = t.fits se hse in
          let fnw = t.fits nw hnw in
          let fne = t.fits ne hne in
          let different : Different sw se nw ne = (λ e. omega (arith, rights e), λ e. omega (arith, tops e), λ e. omega (arith, rights e), λ e. omega (arith, rights e), λ e. omega (arith, tops e), λ e. omega (arith, rights e)) in
          k.four_meet (sw, lsw, hsw, (se, lse, hse, (nw, lnw, hnw, (ne, lne, hne, (different, (x, y, (inr rsw, inr tsw), (inl lse-x, inr tse), (inr rnw, inl bnw), (inl lne-x, inl bne)))))))

  pub floorplan→accepted : 1 ≤ length rooms → length rooms ≤ 255 → Floorplan (plan_of rooms) → ¬ NameTwice rooms → AcceptedRooms rooms
  floorplan→accepted lo hi k names = record {
    count = λ c. elim c [ inl e ↦ omega arith | inr e ↦ omega arith ];
    size = λ (i, l, h, c). elim c [ inl e ↦ omega (arith, k.fits i h) | inr e ↦ omega (arith, k.fits i h) ];
    overlap = λ (i, l, hi, (j, m, hj, (ne, (x, y, u, v)))). ne (k.apart i j x y hi hj u v);
    uncovered = λ (x, y, h, none). none (k.covered x y h);
    four_meet = four_meet;
    names = names;
  }
    where
      four_meet : ¬ FourMeet rooms
      four_meet (a, la, ha, (b, lb, hb, (c, lc, hc, (d, ld, hd, (ne, (x, y, at_a, at_b, at_c, at-d)))))) = not_three_corners (plan_of rooms) k x y a b c ha hb hc ne.0 ne.1 ne.3 at_a at_b at_c

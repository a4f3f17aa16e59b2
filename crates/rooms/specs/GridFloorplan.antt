-- The grid drawing of a list of the labels 1 to n, each once, is an accepted room list, and its corners are 16-bit numbers. Tiling
-- says so of the rooms by position; here they go by their place in the drawing's list.
use Rattle.std.specs.Prelude.{◌≡◌, List, ℕ, zero, suc, ◌≤◌, ◌<◌, length}
use Rattle.std.proofs.Common.{sym, ap, subst, zero-le, arith}
use Rattle.finite.specs.Search.{Some}
use Rattle.finite.specs.Table.{length_table, get_d_table}
use Rattle.record.specs.Labels.{label_at, SomePosition, EachOnce}
use Rattle.drawing.specs.declared.Room.{Room}
use Rattle.drawing.specs.Drawing.{room_at, drawing_of}
use Rattle.drawing.specs.Tiling.{Tiling, drawing_tiles}
use Rattle.rooms.specs.Outline.{Covers, room_in, SixteenBits}
use Rattle.rooms.specs.Causes.{AcceptedRooms}
use Rattle.rooms.specs.OutlineLaws.{Within, outline_is_smallest}
use Rattle.rooms.specs.Plan.{Tiles, Floorplan}
use Rattle.rooms.specs.FourCorners.{Quadrants, four_edges→quadrants}
use Rattle.rooms.specs.PlanOf.{plan_of, size→fits, floorplan→accepted, unnamed→no_name_twice}

module _ (labels : List ℕ) where
  -- a room for each label
  pub length_drawing : length (drawing_of labels) ≡ length labels
  unfolding drawing_of
  length_drawing = length_table (λ i. room_at (label_at labels) (length labels) (suc i)) (length labels)

  -- places count from 0 and positions from 1
  pub place→position : {i : ℕ} → i < length (drawing_of labels) → suc i ≤ length labels
  place→position h = omega (arith, length_drawing)

  pub room_in_drawing : (i : ℕ) → i < length (drawing_of labels)
      → room_in (drawing_of labels) i ≡ room_at (label_at labels) (length labels) (suc i)
  unfolding drawing_of
  room_in_drawing i h = get_d_table (λ i. room_at (label_at labels) (length labels) (suc i)) (length labels) i (record { left = 0; bottom = 0; right = 0; top = 0; name = 0 }) (place→position h)

  -- "a drawing made from a record has name 0 in all rooms" (M-106)
  pub m106_drawing_unnamed : (i : ℕ) → i < length (drawing_of labels) → (room_in (drawing_of labels) i).name ≡ 0
  m106_drawing_unnamed i h = ap (λ (room : Room). room.name) (room_in_drawing i h)

module _ (labels : List ℕ) (once : EachOnce (label_at labels) (length labels)) (some : 1 ≤ length labels) where
  abbrev rooms : List Room
  rooms = drawing_of labels

  abbrev room : ℕ → Room
  room = room_at (label_at labels) (length labels)

  tiling : Tiling (label_at labels) (length labels)
  tiling = drawing_tiles once

  -- what holds of the room at a position holds of the room at its place, and back
  at_place : (P : Room → Type 0) (i : ℕ) → i < length rooms → P (room (suc i)) → P (room_in rooms i)
  at_place P i h = subst P (sym (room_in_drawing labels i h))

  at_position : (P : Room → Type 0) (i : ℕ) → i < length rooms → P (room_in rooms i) → P (room (suc i))
  at_position P i h = subst P (room_in_drawing labels i h)

  some_place : (P : Room → Type 0) → SomePosition (λ i. P (room i)) (length labels) → Some (λ i. P (room_in rooms i)) 0 (length rooms)
  some_place P (zero, a, b, c) = absurd (omega arith)
  some_place P (suc i, a, b, c) = let h : i < length rooms = omega (arith, length_drawing labels) in (i, zero-le, h, at_place P i h c)

  some_position : (P : Room → Type 0) → Some (λ i. P (room_in rooms i)) 0 (length rooms) → SomePosition (λ i. P (room i)) (length labels)
  some_position P (i, a, h, c) = (suc i, omega arith, omega (arith, place→position labels h), at_position P i h c)

  positive : (i : ℕ) → i < length rooms → ((room_in rooms i).left < (room_in rooms i).right) × ((room_in rooms i).bottom < (room_in rooms i).top)
  positive i h = at_place (λ room. (room.left < room.right) × (room.bottom < room.top)) i h (tiling.positive (suc i) (omega arith) (place→position labels h))

  -- "The outline is 0 to n both ways"
  abbrev square : Room
  square = record { left = 0; bottom = 0; right = length labels; top = length labels; name = 0 }

  within : (i : ℕ) → i < length rooms → Within square (room_in rooms i)
  within i h = omega (arith, at_place (λ room. (room.right ≤ length labels) × (room.top ≤ length labels)) i h (tiling.inside (suc i) (omega arith) (place→position labels h)))

  covers_position : {i x y : ℕ} → i < length rooms → Covers (room_in rooms i) x y → Covers (room (suc i)) x y
  covers_position {i} {x} {y} h = at_position (λ room. Covers room x y) i h

  drawing_plan_tiles : Tiles (plan_of rooms)
  drawing_plan_tiles = record {
    fits = λ i h. size→fits rooms i h (positive i h).0 (positive i h).1;
    apart = λ i j x y hi hj u v. omega (
      arith,
      tiling.apart (suc i) (suc j) x y (omega arith) (place→position labels hi) (omega arith) (place→position labels hj) (covers_position hi u) (covers_position hj v),
    );
    covered = λ x y h.
        let o = outline_is_smallest rooms square (omega (arith, length_drawing labels)) within in
        some_place (λ room. Covers room x y) (tiling.covered x y (omega arith) (omega arith));
  }

  -- no four rooms meet at a point: those of its four quadrants would differ, since each is wide and tall
  no_quadrants : {x y : ℕ} → Quadrants (plan_of rooms) x y → ⊥
  no_quadrants {x} {y} q =
      let (sw, fsw, tsw, at-sw) = some_position (λ room. (room.right ≡ x) × (room.top ≡ y)) q.lower_left in
      let (se, fse, tse, at-se) = some_position (λ room. (room.left ≡ x) × (room.top ≡ y)) q.lower_right in
      let (nw, fnw, tnw, at-nw) = some_position (λ room. (room.right ≡ x) × (room.bottom ≡ y)) q.upper_left in
      let (ne, fne, tne, at-ne) = some_position (λ room. (room.left ≡ x) × (room.bottom ≡ y)) q.upper_right in
      let pse = tiling.positive se fse (omega arith) in
      let pnw = tiling.positive nw fnw (omega arith) in
      let pne = tiling.positive ne fne (omega arith) in
      tiling.no_four_meet x y (record {
        lower_left = (ne, fne, tne, at-ne);
        lower_right = (nw, fnw, tnw, at-nw);
        upper_left = (se, fse, tse, at-se);
        upper_right = (sw, fsw, tsw, at-sw);
        different = (
          λ e. omega (arith, ap (λ (i : ℕ). (room i).left) e),
          λ e. omega (arith, ap (λ (i : ℕ). (room i).bottom) e),
          λ e. omega (arith, ap (λ (i : ℕ). (room i).right) e),
          λ e. omega (arith, ap (λ (i : ℕ). (room i).left) e),
          λ e. omega (arith, ap (λ (i : ℕ). (room i).top) e),
          λ e. omega (arith, ap (λ (i : ℕ). (room i).right) e),
        );
      })

  pub drawing_floorplan : Floorplan (plan_of rooms)
  drawing_floorplan = let t = drawing_plan_tiles in record {
    fits = t.fits;
    apart = t.apart;
    covered = t.covered;
    no_cross = λ x y h low high near far. no_quadrants (four_edges→quadrants (plan_of rooms) t x y h low high near far);
  }

  module _ (few : length labels ≤ 255) where
    pub drawing_accepted : AcceptedRooms (drawing_of labels)
    drawing_accepted = floorplan→accepted rooms (omega (arith, length_drawing labels)) (omega (arith, length_drawing labels)) drawing_floorplan
        (unnamed→no_name_twice rooms (m106_drawing_unnamed labels))

    pub drawing_fits_16_bits : SixteenBits (drawing_of labels)
    drawing_fits_16_bits i l h =
        let w = within i h in
        let p = positive i h in
        (omega arith, omega arith, omega arith, omega arith, omega (arith, m106_drawing_unnamed labels i h))

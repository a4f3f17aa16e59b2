-- The grid drawing is a floorplan: "The n rooms of a floorplan fill the outline, share no unit square, and no point is a corner of
-- four rooms."
use Rattle.std.specs.Prelude.{◌≡◌, ◌≢◌, ℕ, ◌≤◌, ◌<◌}
use Rattle.std.proofs.Common.{sym, ◌∙◌, arith}
use Rattle.record.specs.Labels.{SomePosition, EachOnce}
use Rattle.drawing.specs.declared.Room.{Room}
use Rattle.drawing.specs.Drawing.{room_at}
use Rattle.drawing.specs.Squares.{Covers, covers_own, room_inside, owner_of, owner_position, owner_covers, owner_only}

abbrev pub Different : (a b c d : ℕ) → Type 0
Different a b c d = (a ≢ b) × (a ≢ c) × (a ≢ d) × (b ≢ c) × (b ≢ d) × (c ≢ d)

-- the rooms of four different positions meet at the point (x, y): one has its lower-left corner there, one its lower-right, one its
-- upper-left, one its upper-right
pub record FourMeet (room : ℕ → Room) (n x y : ℕ) : Type 0 where
  pub lower_left : SomePosition (λ i. ((room i).left ≡ x) × ((room i).bottom ≡ y)) n
  pub lower_right : SomePosition (λ i. ((room i).right ≡ x) × ((room i).bottom ≡ y)) n
  pub upper_left : SomePosition (λ i. ((room i).left ≡ x) × ((room i).top ≡ y)) n
  pub upper_right : SomePosition (λ i. ((room i).right ≡ x) × ((room i).top ≡ y)) n
  pub different : Different lower_left.0 lower_right.0 upper_left.0 upper_right.0

-- the rooms drawn for the labels f of the positions 1 to n are a floorplan
pub record Tiling (f : ℕ → ℕ) (n : ℕ) : Type 0 where
  -- "Right is greater than left and top greater than bottom"
  pub positive : (i : ℕ) → 1 ≤ i → i ≤ n → ((room_at f n i).left < (room_at f n i).right) × ((room_at f n i).bottom < (room_at f n i).top)
  -- "The outline is 0 to n both ways"
  pub inside : (i : ℕ) → 1 ≤ i → i ≤ n → ((room_at f n i).right ≤ n) × ((room_at f n i).top ≤ n)
  -- the rooms "share no unit square"
  pub apart : (i j x y : ℕ) → 1 ≤ i → i ≤ n → 1 ≤ j → j ≤ n → Covers (room_at f n i) x y → Covers (room_at f n j) x y → i ≡ j
  -- they "fill the outline"
  pub covered : (x y : ℕ) → x < n → y < n → SomePosition (λ i. Covers (room_at f n i) x y) n
  -- "no point is a corner of four rooms"
  pub no_four_meet : (x y : ℕ) → ¬ FourMeet (room_at f n) n x y

-- the drawing of any list of the labels 1 to n, each once, is a floorplan
pub drawing_tiles : {f : ℕ → ℕ} {n : ℕ} → EachOnce f n → Tiling f n
drawing_tiles {f} {n} once = record {
  positive = λ i from to. omega (arith, covers_own f n i from to);
  inside = room_inside f n;
  apart = λ i j x y fi ti fj tj a b.
      let hx : x < n = omega (arith, a.right, room_inside f n i fi ti) in
      let hy : y < n = omega (arith, a.top, room_inside f n i fi ti) in
      owner_only f n x y hx hy once i fi ti a ∙ sym (owner_only f n x y hx hy once j fj tj b);
  covered = λ x y hx hy. let at = owner_position f n x y hx hy in (owner_of f x y, at.0, omega arith, owner_covers f n x y hx hy);
  -- a room covers a square of the diagonal, so its upper-left corner is above the diagonal and its lower-right corner below it
  no_four_meet = λ x y m.
      let (i, fi, ti, a) = m.upper_left in
      let (j, fj, tj, b) = m.lower_right in
      omega (arith, covers_own f n i fi (omega arith), covers_own f n j fj (omega arith));
}

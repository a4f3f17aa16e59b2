-- Rooms that share no unit square fill the outline just where their areas add up to the outline's area, and they never add up to more:
-- each unit square is counted once for each room that covers it, so at most once, and not at all outside the outline.
use Rattle.std.specs.Prelude.{◌≡◌, ◌≢◌, List}
use Rattle.std.proofs.Math.Path.{sym}
use Rattle.std.proofs.Common.{◌∙◌, arith}
use Rattle.std.proofs.Math.Logic.{inl, inr}
use Prim.Native.Nat.{ℕ, ◌≤◌, ◌<◌, zero-le}
use Rattle.std.proofs.Math.ListN.{length}
use Rattle.finite.specs.Decide.{le_or_lt, eq_or_ne, stable}
use Rattle.finite.specs.Search.{dec_some}
use Rattle.finite.specs.Sum.{sum, sum_same, sum_le, sum_lt}
use Rattle.drawing.specs.declared.Room.{Room}
use Rattle.rooms.specs.Outline.{Covers, room_in, SomeRoom, outline}
use Rattle.rooms.specs.Causes.{Overlap, Uncovered}
use Rattle.rooms.specs.OutlineLaws.{rooms_within_outline}
use Rattle.rooms.specs.DecideCauses.{dec_covers, dec_overlap, dec_uncovered}
use Rattle.finite.specs.SumBelow.{sum_swap, sum_ge, sum_some, sum_single}
use Rattle.corners.specs.Squares.{square, square_le, covers→square, square→covers}
use Rattle.checks.specs.Area.{area_of, squares_are_area}

abbrev pub areas_of : List Room → ℕ
areas_of rooms = sum (λ i. area_of (room_in rooms i)) 0 (length rooms)

module _ (rooms : List Room) (apart : ¬ Overlap rooms) where
  -- how many rooms cover the square
  times : (x y : ℕ) → ℕ
  times x y = sum (λ i. square (room_in rooms i) x y) 0 (length rooms)

  times→some : (x y : ℕ) → 0 < times x y → SomeRoom rooms (λ i. Covers (room_in rooms i) x y)
  unfolding times
  times→some x y h =
      let (i, l, g, s) = sum_some (λ i. square (room_in rooms i) x y) (length rooms) h in (i, l, g, square→covers (room_in rooms i) s)

  some→times : (x y : ℕ) → SomeRoom rooms (λ i. Covers (room_in rooms i) x y) → 1 ≤ times x y
  unfolding times
  some→times x y (i, l, h, c) =
      omega (arith, covers→square (room_in rooms i) c, sum_ge (λ i. square (room_in rooms i) x y) (length rooms) i h)

  times_at_most_once : (x y : ℕ) → times x y ≤ 1
  unfolding times
  times_at_most_once x y = sum_single (λ i. square (room_in rooms i) x y) (length rooms) (λ i. square_le (room_in rooms i) x y) one
    where
      one : (i j : ℕ) → i < length rooms → j < length rooms → 0 < square (room_in rooms i) x y → 0 < square (room_in rooms j) x y → i ≡ j
      one i j hi hj u v = elim (eq_or_ne i j) [
        | inl e ↦ e
        | inr ne ↦ absurd (apart (
          i,
          zero-le,
          hi,
          (j, zero-le, hj, (ne, (x, y, square→covers (room_in rooms i) u, square→covers (room_in rooms j) v))),
        ))
      ]

  times_le_outline : (x y : ℕ) → times x y ≤ square (outline rooms) x y
  times_le_outline x y = elim (le_or_lt (times x y) 0) [
    | inl none ↦ omega arith
    | inr some ↦
        let (i, l, h, c) = times→some x y some in
        let inside : Covers (outline rooms) x y = omega (arith, c, rooms_within_outline rooms i h) in
        omega (arith, times_at_most_once x y, covers→square (outline rooms) inside)
  ]

  -- the rooms' areas, counted square by square
  areas_by_square : areas_of rooms ≡ sum (λ x. sum (times x) 0 (outline rooms).top) 0 (outline rooms).right
  unfolding times
  areas_by_square =
      sum_same (λ i. area_of (room_in rooms i)) (λ i. sum (λ x. sum (square (room_in rooms i) x) 0 north) 0 east) 0 (length rooms)
      (λ i l h. let w = rooms_within_outline rooms i h in sym (squares_are_area (room_in rooms i) east north w.right w.top))
      ∙ sum_swap (λ i x. sum (square (room_in rooms i) x) 0 north) (length rooms) east
      ∙ sum_same (λ x. sum (λ i. sum (square (room_in rooms i) x) 0 north) 0 (length rooms)) (λ x. sum (times x) 0 north) 0 east
      (λ x l h. sum_swap (λ i y. square (room_in rooms i) x y) (length rooms) north)
    where
      north : ℕ
      north = (outline rooms).top

      east : ℕ
      east = (outline rooms).right

  outline_by_square : area_of (outline rooms) ≡ sum (λ x. sum (square (outline rooms) x) 0 (outline rooms).top) 0 (outline rooms).right
  outline_by_square = sym (squares_are_area (outline rooms) (outline rooms).right (outline rooms).top (omega arith) (omega arith))

  column_le : (x : ℕ) → sum (times x) 0 (outline rooms).top ≤ sum (square (outline rooms) x) 0 (outline rooms).top
  column_le x = sum_le (times x) (square (outline rooms) x) 0 (outline rooms).top (λ y l h. times_le_outline x y)

  areas_le_outline : areas_of rooms ≤ area_of (outline rooms)
  areas_le_outline = omega (
    arith,
    areas_by_square,
    outline_by_square,
    sum_le (λ x. sum (times x) 0 (outline rooms).top) (λ x. sum (square (outline rooms) x) 0 (outline rooms).top) 0 (outline rooms).right
        (λ x l h. column_le x),
  )

  -- a square that is left over is counted for the outline only
  pub uncovered→areas_less : Uncovered rooms → areas_of rooms < area_of (outline rooms)
  uncovered→areas_less (x, y, inside, none) = omega (
    arith,
    areas_by_square,
    outline_by_square,
    sum_lt (λ x. sum (times x) 0 (outline rooms).top) (λ x. sum (square (outline rooms) x) 0 (outline rooms).top) 0 (outline rooms).right
        (λ x l h. column_le x) x zero-le inside.right here,
  )
    where
      missed : times x y < square (outline rooms) x y
      missed = elim (le_or_lt (times x y) 0)
          [ inl h ↦ omega (arith, covers→square (outline rooms) inside) | inr h ↦ absurd (none (times→some x y h)) ]

      here : sum (times x) 0 (outline rooms).top < sum (square (outline rooms) x) 0 (outline rooms).top
      here =
          sum_lt (times x) (square (outline rooms) x) 0 (outline rooms).top (λ y l h. times_le_outline x y) y zero-le inside.top missed

  -- where none is, each is counted once for the rooms and once for the outline
  pub covered→areas_same : ¬ Uncovered rooms → areas_of rooms ≡ area_of (outline rooms)
  covered→areas_same covered = areas_by_square
      ∙ sum_same _ _ 0 (outline rooms).right
      (λ x l h. sum_same (times x) (square (outline rooms) x) 0 (outline rooms).top (λ y m g. same x y)) ∙ sym outline_by_square
    where
      same : (x y : ℕ) → times x y ≡ square (outline rooms) x y
      same x y = elim (le_or_lt (square (outline rooms) x y) 0) [
        | inl outside ↦ omega (arith, times_le_outline x y)
        | inr h ↦
            let inside = square→covers (outline rooms) h in
            let some = stable (dec_some _ (λ i. dec_covers (room_in rooms i) x y) 0 (length rooms)) (λ none. covered (
              x,
              y,
              inside,
              none,
            )) in
            omega (arith, times_le_outline x y, some→times x y some, square_le (outline rooms) x y)
      ]

  pub areas_differ→uncovered : areas_of rooms ≢ area_of (outline rooms) → Uncovered rooms
  areas_differ→uncovered differ = stable (dec_uncovered rooms) (λ covered. differ (covered→areas_same covered))

-- so rooms that add up to more do share one
pub overfull→overlap : (rooms : List Room) → area_of (outline rooms) < areas_of rooms → Overlap rooms
overfull→overlap rooms more = stable (dec_overlap rooms) (λ apart. omega (arith, areas_le_outline rooms apart))

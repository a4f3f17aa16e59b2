-- The area of a room is the number of unit squares that it covers: the sum, over all squares as far as its right and its top, of 1 where
-- it covers the square, else 0.
use Rattle.std.specs.Prelude.{◌≡◌}
use Rattle.std.proofs.Math.Path.{ap}
use Rattle.std.proofs.Common.{◌∙◌, inl, inr, mul-le-mul, arith}
use Prim.Native.Nat.{ℕ, zero, suc, ◌-◌, ◌*◌, ◌≤◌, min}
use Rattle.std.proofs.Math.Nat.{mul_comm}
use Rattle.finite.specs.Decide.{le_or_lt}
use Rattle.finite.specs.Sum.{sum, sum_same}
use Rattle.drawing.specs.declared.Room.{Room}
use Rattle.finite.specs.SumBelow.{sum_none, sum_next, sum_times}
use Rattle.corners.specs.Squares.{between, between_le, between_one, between_some, square}

abbrev pub area_of : Room → ℕ
area_of room = (room.right - room.left) * (room.top - room.bottom)

-- a product of two sides, each at most 65535
pub area_bound : (width height : ℕ) → width ≤ 65535 → height ≤ 65535 → width * height ≤ 65535 * 65535
area_bound width height w h = mul-le-mul {n₁ = width} {m₁ = height} {n₂ = 65535} {m₂ = 65535} w h

-- ---- one way
module _ (from to : ℕ) where
  sum_between : (n : ℕ) → sum (between from to) 0 n ≡ min n to - min n from
  sum_between zero = omega (arith, sum_none (between from to))
  sum_between (suc n) = let last = sum_next (between from to) n in elim (le_or_lt (between from to n) 0) [
    | inl none ↦ omega (arith, sum_between n, outside n none)
    | inr here ↦ omega (arith, sum_between n, between_le from to n, between_some from to n here)
  ]
    where
      -- what is not between lies before or behind
      outside : (x : ℕ) → between from to x ≤ 0 → min (suc x) to - min (suc x) from ≡ min x to - min x from
      outside x none = elim (le_or_lt from x) [
        | inl h ↦ elim (le_or_lt to x) [ inl g ↦ omega arith | inr g ↦ omega (arith, between_one from to x h g) ]
        | inr h ↦ omega arith
      ]

-- ---- both ways
module _ (room : Room) where
  -- the squares of a room, counted in a part of the plane that holds it
  pub squares_are_area : (east north : ℕ) → room.right ≤ east → room.top ≤ north
      → sum (λ x. sum (square room x) 0 north) 0 east ≡ area_of room
  unfolding square
  squares_are_area east north h g =
      sum_same (λ x. sum (square room x) 0 north) (λ x. height * column x) 0 east
      (λ x l m. sum_times (column x) row north ∙ ap (λ (z : ℕ). column x * z) rows ∙ mul_comm (column x) height)
      ∙ sum_times height column east ∙ ap (λ (z : ℕ). height * z) columns ∙ mul_comm height width
    where
      column : ℕ → ℕ
      column = between room.left room.right

      row : ℕ → ℕ
      row = between room.bottom room.top

      width : ℕ
      width = room.right - room.left

      height : ℕ
      height = room.top - room.bottom

      columns : sum column 0 east ≡ width
      columns = omega (arith, sum_between room.left room.right east)

      rows : sum row 0 north ≡ height
      rows = omega (arith, sum_between room.bottom room.top north)

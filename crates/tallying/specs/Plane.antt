-- What the contracts of the inner functions say of planes: lists of figures, of which each comes from eight others.
use Rattle.std.specs.Prelude.{List, ◌⊎◌, ◌≡◌, ℕ, ◌+◌, ◌-◌, ◌*◌, ◌^◌, ◌≤◌, ◌<◌, length, get_or}

-- the sum of four figures of a plane and of four of the plane before it
abbrev pub cell_of : (planes : List ℕ) (at : ℕ) → ℕ
cell_of planes at =
    get_or planes at 0 + get_or planes (at + 1) 0 + get_or planes (at + 10) 0 + get_or planes (at + 11) 0
    + (get_or planes (at - 110) 0 + get_or planes (at - 111) 0 + get_or planes (at - 120) 0 + get_or planes (at - 121) 0)

-- the figure at the same place of the plane after it
abbrev pub copy_of : (planes : List ℕ) (at : ℕ) → ℕ
copy_of planes at = get_or planes (110 + at) 0

-- a part of a row that has planes round it, and whose figures are numbers of 64 bits
pub record RowFits (start end : ℕ) (planes : List ℕ) : Type 0 where
  pub after : 121 ≤ start
  pub ordered : start ≤ end
  pub inside : end + 10 < length planes
  pub narrow : end ≤ start + 9
  pub small : (k : ℕ) → start ≤ k → k < end → cell_of planes k < 2 ^ 64

-- the same for rows of a plane
pub record PlaneFits (start rows columns : ℕ) (planes : List ℕ) : Type 0 where
  pub after : 121 ≤ start
  pub inside : start + 10 * rows + columns < length planes
  pub low : rows ≤ 9
  pub narrow : columns ≤ 9
  pub small : (i c : ℕ) → i < rows → c < columns → cell_of planes (start + 10 * i + c) < 2 ^ 64

-- each figure in these rows and columns is what it comes from, and all else is as it was
pub record Swept (start rows columns : ℕ) (before now : List ℕ) : Type 0 where
  pub size : length now ≡ length before
  pub done : (i c : ℕ) → i < rows → c < columns → get_or now (start + 10 * i + c) 0 ≡ cell_of before (start + 10 * i + c)
  pub kept : (k : ℕ) → ((i : ℕ) → i < rows → (k < start + 10 * i) ⊎ (start + 10 * i + columns ≤ k)) → get_or now k 0 ≡ get_or before k 0

-- Sizes, corners and slices as they are lent: a list for each direction, by position.
use Rattle.std.specs.Prelude.{Bool, true, false, ◌||◌, List, ℕ, suc, ℤ, length}
use Rattle.finite.specs.Decide.{Tells}
use Rattle.finite.specs.Table.{table}
use Rattle.record.specs.Labels.{label_at}
use Rattle.sizes.specs.Direction.{Direction, across, upward}
use Rattle.sizes.specs.Lowest.{start_by, start_at, slack}
use Rattle.sizes.specs.Placing.{Honours, dec_honours}

-- one thing for each direction, as widths and heights, the corners x and y, or the sides of an outline
abbrev pub EachWay : Type 0 → Type 0
EachWay A = Direction → A

abbrev pub each_way : {A : Type 0} → A → A → EachWay A
each_way x y across = x
each_way x y upward = y

-- some direction has a property, and each has it
abbrev pub SomeWay : (Direction → Type 0) → Type 0
SomeWay P = (way : Direction) × P way

unfoldable pub dec_some_way : {P : Direction → Type 0} → Dec (P across) → Dec (P upward) → Dec (SomeWay P)
dec_some_way (yes a) u = yes (across, a)
dec_some_way (no a) (yes u) = yes (upward, u)
dec_some_way {P} (no a) (no u) = no go
  where
    go : SomeWay P → ⊥
    go (across, p) = a p
    go (upward, p) = u p

pub each_way_lem : (P : Direction → Type 0) → P across → P upward → (way : Direction) → P way
each_way_lem P a u across = a
each_way_lem P a u upward = u

-- two Bools that tell of the two directions tell whether some direction has it
pub some_way : (P : Direction → Type 0) (s t : Bool) → Tells s (P across) → Tells t (P upward) → Tells (s || t) (SomeWay P)
some_way P true t a u = (across, a)
some_way P false true a u = (upward, u)
some_way P false false a u = λ (way, p). each_way_lem (λ way. ¬ P way) a u way p

unfoldable pub dec_each_way : {P : Direction → Type 0} → Dec (P across) → Dec (P upward) → Dec ((way : Direction) → P way)
dec_each_way {P} (yes a) (yes u) = yes (each_way_lem P a u)
dec_each_way (yes a) (no u) = no (λ f. u (f upward))
dec_each_way (no a) u = no (λ f. a (f across))

-- the number at a position of a list: a size or a corner
abbrev pub number_at : List ℕ → ℕ → ℕ
number_at = label_at

-- the lowest corners of the rooms in one direction, by position
unfoldable pub lowest_corners : (labels : List ℕ) (way : Direction) (sizes : List ℕ) → List ℕ
unfolding table start_by
lowest_corners labels way sizes = table (λ i. start_at (label_at labels) way (number_at sizes) (length labels) (suc i)) (length labels)

-- the slack in one direction of an outline so long
unfoldable pub slack_of : (labels : List ℕ) (way : Direction) (sizes : List ℕ) → (outline : ℕ) → ℤ
unfolding start_by
slack_of labels way sizes outline = slack (label_at labels) way (number_at sizes) (length labels) outline

-- the rooms with their lower-left corners there honour "all left and below relations"
abbrev pub HonoursAll : (labels : List ℕ) (sizes corners : EachWay (List ℕ)) → Type 0
HonoursAll labels sizes corners =
    (way : Direction) → Honours (label_at labels) way (number_at (sizes way)) (length labels) (number_at (corners way))

unfoldable pub dec_honours_all : (labels : List ℕ) (sizes corners : EachWay (List ℕ)) → Dec (HonoursAll labels sizes corners)
unfolding dec_each_way dec_honours
dec_honours_all labels sizes corners = dec_each_way (honoured across) (honoured upward)
  where
    honoured : (way : Direction) → Dec (Honours (label_at labels) way (number_at (sizes way)) (length labels) (number_at (corners way)))
    honoured way = dec_honours (label_at labels) way (number_at (sizes way)) (length labels) (number_at (corners way))

-- The sheet's worked drawing, of 4 1 3 5 2, and its trap of two lists with one drawing, by computation.
use Rattle.std.specs.Prelude.{◌≡◌, refl, Bool, true, false, List, [], ◌∷◌, ℕ}
use Rattle.finite.specs.Decide.{holds}
use Rattle.record.specs.Labels.{label_at}
use Rattle.record.specs.Causes.{dec_barred}
use Rattle.drawing.specs.declared.Room.{Room}
use Rattle.drawing.specs.declared.Side.TheVariants.{Left, Right, Above, Below}
use Rattle.drawing.specs.Drawing.{drawing_of}
use Rattle.drawing.specs.Side.{side_of}

abbrev worked : List ℕ
worked = 4 ∷ 1 ∷ 3 ∷ 5 ∷ 2 ∷ []

-- left, bottom, right, top, unnamed
abbrev room : ℕ → ℕ → ℕ → ℕ → Room
room left bottom right top = record { left = left; bottom = bottom; right = right; top = top; name = 0 }

worked_rooms : drawing_of worked ≡ room 0 0 3 1 ∷ room 0 1 2 5 ∷ room 2 1 3 4 ∷ room 3 0 5 4 ∷ room 2 4 5 5 ∷ []
unfolding drawing_of
worked_rooms = refl

worked_sides : let of = side_of (label_at worked) in (of 1 4 ≡ Left) × (of 4 1 ≡ Right) × (of 1 2 ≡ Below) × (of 2 1 ≡ Above)
unfolding side_of
worked_sides = (refl, refl, refl, refl)

-- "2 4 1 3 and 3 4 1 2 have the same grid drawing, yet only the second is Baxter"
one_drawing : drawing_of (2 ∷ 4 ∷ 1 ∷ 3 ∷ []) ≡ drawing_of (3 ∷ 4 ∷ 1 ∷ 2 ∷ [])
unfolding drawing_of
one_drawing = refl

one_barred : let barred : List ℕ → Bool = λ labels. holds (dec_barred (label_at labels) 4) in
    (barred (2 ∷ 4 ∷ 1 ∷ 3 ∷ []) ≡ true) × (barred (3 ∷ 4 ∷ 1 ∷ 2 ∷ []) ≡ false)
unfolding holds dec_barred
one_barred = (refl, refl)

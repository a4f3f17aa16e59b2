-- Worked plans, computed from the definitions.
use Rattle.std.specs.Prelude.{◌≡◌, refl, Bool, true, false, List, [], ◌∷◌, ℕ}
use Rattle.std.proofs.Math.Decide.{dec_lt}
use Rattle.finite.specs.Decide.{holds}
use Rattle.record.specs.Labels.{label_at}
use Rattle.drawing.specs.declared.Side.{Side}
use Rattle.drawing.specs.declared.Side.TheVariants.{Left, Right, Above, Below}
use Rattle.drawing.specs.declared.Relation.{Relation}
use Rattle.drawing.specs.Side.{side_of}
use Rattle.drawing.specs.Drawing.{last_before, first_later, room_at, drawing_of}
use Rattle.rooms.specs.Segment.{upright, flat, Stretch}
use Rattle.rooms.specs.DecideSegment.{dec_segment, dec_one_segment}
use Rattle.contacts.specs.DecideTouches.{dec_touches, dec_positions_touch}
use Rattle.contacts.specs.Direct.{relation_of}
use Rattle.contacts.specs.GridLine.{line_at}

abbrev directly : Side → Relation
directly side = record { side = side; direct = true }

abbrev through : Side → Relation
through side = record { side = side; direct = false }

abbrev touch : List ℕ → (first second : ℕ) → Bool
touch labels first second = holds (dec_positions_touch labels first second)

-- two rows, 3 4 1 2: the lower left and the upper right room share no piece of edge, but the segment between the rows supports both, from
-- opposite sides
two_rows : let t = touch (3 ∷ 4 ∷ 1 ∷ 2 ∷ []) in (t 1 4 ≡ true) × (t 4 1 ≡ true) × (t 2 3 ≡ true) × (t 1 2 ≡ true)
unfolding holds dec_touches drawing_of
two_rows = (refl, refl, refl, refl)

-- so these two are in a direct relation
two_rows_relations : let of = relation_of (3 ∷ 4 ∷ 1 ∷ 2 ∷ []) in
    (of 1 4 ≡ directly Below) × (of 4 1 ≡ directly Above) × (of 2 3 ≡ directly Below) × (of 1 2 ≡ directly Left)
unfolding holds dec_one_segment drawing_of side_of
two_rows_relations = (refl, refl, refl, refl)

-- a bar over three rooms, 2 3 4 1: the segment under the bar supports the first and the third from the same side
under_a_bar : let t = touch (2 ∷ 3 ∷ 4 ∷ 1 ∷ []) in (t 1 3 ≡ true) × (t 1 4 ≡ true)
unfolding holds dec_touches drawing_of
under_a_bar = (refl, refl)

-- but that is no direct relation: the first is left of the third through the second
under_a_bar_relations : let of = relation_of (2 ∷ 3 ∷ 4 ∷ 1 ∷ []) in
    (of 1 3 ≡ through Left) × (of 1 2 ≡ directly Left) × (of 1 4 ≡ directly Below)
unfolding holds dec_one_segment drawing_of side_of
under_a_bar_relations = (refl, refl, refl)

-- three rooms side by side: the first and the third hang on outline sides alone
side_by_side : let t = touch (1 ∷ 2 ∷ 3 ∷ []) in (t 1 2 ≡ true) × (t 1 3 ≡ false)
unfolding holds dec_touches drawing_of
side_by_side = (refl, refl)

-- four of them: from the first to the fourth it takes three steps
three_steps : let of = relation_of (1 ∷ 2 ∷ 3 ∷ 4 ∷ []) in
    (of 1 4 ≡ through Left) × (of 4 1 ≡ through Right) × (of 1 3 ≡ through Left) × (of 3 4 ≡ directly Left)
unfolding holds dec_one_segment drawing_of side_of
three_steps = (refl, refl, refl, refl)

-- ---- the sheet's pinwheel
abbrev pinwheel : List ℕ
pinwheel = 4 ∷ 1 ∷ 3 ∷ 5 ∷ 2 ∷ []

across_the_middle : let t = touch pinwheel in (t 1 5 ≡ false) × (t 2 4 ≡ false) × (t 1 4 ≡ true) × (t 3 5 ≡ true)
unfolding holds dec_touches drawing_of
across_the_middle = (refl, refl, refl, refl)

pinwheel_relations : let of = relation_of pinwheel in
    (of 1 5 ≡ through Below) × (of 2 4 ≡ through Left) × (of 1 4 ≡ directly Left) × (of 5 3 ≡ directly Above)
unfolding holds dec_one_segment drawing_of side_of
pinwheel_relations = (refl, refl, refl, refl)

abbrev vertical : (line from to : ℕ) → Stretch
vertical line from to = record { direction = upright; line = line; from = from; to = to }

abbrev horizontal : (line from to : ℕ) → Stretch
horizontal line from to = record { direction = flat; line = line; from = from; to = to }

pinwheel_lines : let line = line_at (label_at pinwheel) (room_at (label_at pinwheel) 5) in
    (line 1 ≡ horizontal 1 0 3) × (line 2 ≡ vertical 2 1 5) × (line 3 ≡ vertical 3 0 4) × (line 4 ≡ horizontal 4 2 5)
unfolding dec_lt last_before first_later
pinwheel_lines = (refl, refl, refl, refl)

-- they are segments by the definition of these, and a line cut short is none
pinwheel_segments : let segment : Stretch → Bool = λ s. holds (dec_segment (drawing_of pinwheel) s) in
    (segment (horizontal 1 0 3) ≡ true) × (segment (vertical 2 1 5) ≡ true) × (segment (vertical 3 0 4) ≡ true)
    × (segment (horizontal 4 2 5) ≡ true) × (segment (vertical 3 1 4) ≡ false)
unfolding holds dec_segment drawing_of
pinwheel_segments = (refl, refl, refl, refl, refl)

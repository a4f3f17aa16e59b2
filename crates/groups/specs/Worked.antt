-- Groups of the worked plan 05 31 70, whose labels are 4 1 3 5 2, computed from the definitions. Position 1 is the lowest bit of the first
-- byte; bytes that are not listed are 0.
use Rattle.std.specs.Prelude.{List, [], ◌∷◌, ◌++◌, ◌≡◌, refl, ℕ, replicate, Some, None, Ok, Err}
use Rattle.bits.specs.Bit.{bit_at, bit_in}
use Rattle.record.specs.Walk.{walk}
use Rattle.record.specs.Read.{labels_of}
use Rattle.record.specs.Checked.{dec_no_kind, dec_spare, dec_missing, dec_several}
use Rattle.record.specs.declared.Refusal.TheVariants.{PositionOutside, EmptyGroup, SamePosition}
use Rattle.drawing.specs.declared.Side.TheVariants.{Left, Right, Above, Below}
use Rattle.groups.specs.Group.{dec_outside, dec_some_empty, dec_common}
use Rattle.groups.specs.Standing.{dec_all_stand}
use Rattle.groups.specs.Answer.{groups_answer}

abbrev plan : List ℕ
plan = 0x05 ∷ 0x31 ∷ 0x70 ∷ []

-- position 2 is left of positions 3, 4 and 5, which are right of it
pub worked_left : (groups_answer plan (2 ∷ []) (28 ∷ []) ≡ Ok (Some Left)) × (groups_answer plan (28 ∷ []) (2 ∷ []) ≡ Ok (Some Right))
unfolding labels_of dec_no_kind dec_spare dec_missing dec_several walk bit_at bit_in dec_outside dec_some_empty dec_common dec_all_stand
worked_left = (refl, refl)

-- position 5 is above positions 1, 3 and 4, which are below it
pub worked_above : (groups_answer plan (16 ∷ []) (13 ∷ []) ≡ Ok (Some Above)) × (groups_answer plan (13 ∷ []) (16 ∷ []) ≡ Ok (Some Below))
unfolding labels_of dec_no_kind dec_spare dec_missing dec_several walk bit_at bit_in dec_outside dec_some_empty dec_common dec_all_stand
worked_above = (refl, refl)

-- position 1 is below position 3, and position 2 is left of it; of positions 2 and 4, one comes before position 3 and one after it
pub worked_mixed : (groups_answer plan (3 ∷ []) (4 ∷ []) ≡ Ok None) × (groups_answer plan (10 ∷ []) (4 ∷ []) ≡ Ok None)
unfolding labels_of dec_no_kind dec_spare dec_missing dec_several walk bit_at bit_in dec_outside dec_some_empty dec_common dec_all_stand
worked_mixed = (refl, refl)

-- what is refused, and in which order: position 6 or 256 before an empty group, and before a position in both groups
pub worked_refused : (groups_answer plan (32 ∷ []) [] ≡ Err PositionOutside) × (groups_answer plan (33 ∷ []) (33 ∷ []) ≡ Err PositionOutside)
    × (groups_answer plan [] (replicate 31 0 ++ 128 ∷ []) ≡ Err PositionOutside)
    × (groups_answer plan (1 ∷ []) [] ≡ Err EmptyGroup) × (groups_answer plan (6 ∷ []) (4 ∷ []) ≡ Err SamePosition)
unfolding dec_no_kind dec_spare dec_missing dec_several walk bit_at bit_in dec_outside dec_some_empty dec_common
worked_refused = (refl, refl, refl, refl, refl)

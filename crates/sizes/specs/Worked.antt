-- Worked examples, computed from the definitions: the plan 05 31 70, whose labels are 4 1 3 5 2, with rooms of real sizes, and placings of
-- two rooms side by side.
use Rattle.std.specs.Prelude.{List, [], ◌∷◌, ◌≡◌, refl, ℕ, pos, negsuc, Ok, Err}
use Rattle.bits.specs.Bit.{bit_at, bit_in}
use Rattle.finite.specs.Decide.{dec-⊎}
use Rattle.record.specs.Walk.{walk}
use Rattle.record.specs.Read.{labels_of}
use Rattle.record.specs.Checked.{dec_no_kind, dec_spare, dec_missing, dec_several}
use Rattle.record.specs.declared.Refusal.TheVariants.{SpareBit, ShortOutput, OtherLength, ZeroSize, BrokenRelation}
use Rattle.sizes.specs.Direction.{across, upward}
use Rattle.sizes.specs.Lists.{EachWay, each_way, lowest_corners, slack_of, dec_honours_all}
use Rattle.sizes.specs.Sized.{dec_other_length, dec_zero_size}
use Rattle.sizes.specs.Answer.{PlacingAnswer, slack_each_way, dec_short, corners_answer, slack_answer, placing_answer}

abbrev plan : List ℕ
plan = 0x05 ∷ 0x31 ∷ 0x70 ∷ []

abbrev sizes : EachWay (List ℕ)
sizes = each_way (3 ∷ 1 ∷ 4 ∷ 1 ∷ 5 ∷ []) (9 ∷ 2 ∷ 6 ∷ 5 ∷ 3 ∷ [])

-- the lowest corners
pub worked_corners : (lowest_corners (labels_of plan) across (sizes across) ≡ 0 ∷ 0 ∷ 1 ∷ 5 ∷ 1 ∷ [])
    × (lowest_corners (labels_of plan) upward (sizes upward) ≡ 0 ∷ 9 ∷ 9 ∷ 0 ∷ 15 ∷ [])
unfolding lowest_corners labels_of bit_at bit_in
worked_corners = (refl, refl)

-- they need 6 across and 18 up
pub worked_slack : slack_answer plan sizes (each_way 10 10) ≡ slack_each_way (pos 4) (negsuc 7)
unfolding slack_of labels_of dec_no_kind dec_spare dec_missing dec_several walk bit_at bit_in dec_other_length dec_zero_size
worked_slack = refl

-- what is refused, and in which order: 24 before 25, 25 before 15, and a spare bit of 1 before all of them
pub worked_answers : (corners_answer plan sizes (each_way 5 5) ≡ Ok 5) × (corners_answer plan sizes (each_way 5 4) ≡ Err ShortOutput)
    × (corners_answer plan (each_way (3 ∷ []) (0 ∷ [])) (each_way 0 0) ≡ Err OtherLength)
    × (corners_answer plan (each_way (3 ∷ 1 ∷ 4 ∷ 1 ∷ 5 ∷ []) (9 ∷ 2 ∷ 0 ∷ 5 ∷ 3 ∷ [])) (each_way 0 0) ≡ Err ZeroSize)
    × (corners_answer (0x05 ∷ 0x31 ∷ 0x71 ∷ []) (each_way [] []) (each_way 0 0) ≡ Err SpareBit)
unfolding dec_short dec_no_kind dec_spare dec_missing dec_several walk bit_at bit_in dec_other_length dec_zero_size
worked_answers = (refl, refl, refl, refl, refl)

-- two rooms side by side, 3 and 1 wide: they may touch, and the second may begin later, but not 1 too early; an end is a whole number, so
-- that of a room which begins at 2^32 - 1 is no small one
abbrev judged : (x y : ℕ) → PlacingAnswer
judged x y = placing_answer (0x02 ∷ 0x40 ∷ []) (each_way (3 ∷ 1 ∷ []) (1 ∷ 1 ∷ [])) (each_way (x ∷ y ∷ []) (0 ∷ 7 ∷ []))

pub worked_placings : (judged 4 7 ≡ Ok tt) × (judged 4 9 ≡ Ok tt) × (judged 4 6 ≡ Err BrokenRelation)
    × (judged 4294967295 2 ≡ Err BrokenRelation)
unfolding dec_honours_all labels_of dec_no_kind dec_spare dec_missing dec_several walk bit_at bit_in dec_other_length dec_zero_size dec-⊎
worked_placings = (refl, refl, refl, refl)

-- 24 for a list of corners comes before 25
pub worked_short_placing : placing_answer (0x02 ∷ 0x40 ∷ []) (each_way (3 ∷ 0 ∷ []) (1 ∷ 1 ∷ [])) (each_way (0 ∷ []) (0 ∷ 0 ∷ [])) ≡ Err OtherLength
unfolding dec_honours_all labels_of dec_no_kind dec_spare dec_missing dec_several walk bit_at bit_in dec_other_length dec_zero_size dec-⊎
worked_short_placing = refl

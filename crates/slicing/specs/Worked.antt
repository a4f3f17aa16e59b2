-- Worked examples, computed from the definitions: the request's, a plan of one room, a row and a column, and the two plans of five rooms
-- that are not slicing.
use Rattle.std.specs.Prelude.{List, [], ◌∷◌, ◌≡◌, refl, ℕ, Ok, Err}
use Rattle.bits.specs.Bit.{bit_at, bit_in}
use Rattle.record.specs.Walk.{walk, step}
use Rattle.record.specs.Read.{labels_of}
use Rattle.record.specs.Checked.{dec_no_kind, dec_spare, dec_missing, dec_several}
use Rattle.record.specs.declared.Refusal.TheVariants.{NotSlicing, ShortOutput, SpareBit}
use Rattle.slicing.specs.Slicing.{dec_shaped}
use Rattle.slicing.specs.Tree.{bytes_of}
use Rattle.slicing.specs.Cutting.{cutting_tree}
use Rattle.slicing.specs.Answer.{tree_of, tree_answer}

-- "The record 04 47 00 gives 03 02 02 02 01 01 02 02 01 01"
abbrev request : List ℕ
request = 0x04 ∷ 0x47 ∷ 0x00 ∷ []

pub worked_tree : tree_of request ≡ 0x03 ∷ 0x02 ∷ 0x02 ∷ 0x02 ∷ 0x01 ∷ 0x01 ∷ 0x02 ∷ 0x02 ∷ 0x01 ∷ 0x01 ∷ []
unfolding bytes_of cutting_tree labels_of bit_at bit_in
worked_tree = refl

pub worked_length : tree_answer request 10 ≡ Ok 10
unfolding dec_no_kind dec_spare dec_missing dec_several dec_shaped walk step bytes_of cutting_tree labels_of bit_at bit_in
worked_length = refl

pub worked_short : tree_answer request 9 ≡ Err ShortOutput
unfolding dec_no_kind dec_spare dec_missing dec_several dec_shaped walk step bytes_of cutting_tree labels_of bit_at bit_in
worked_short = refl

-- one room
pub worked_room : tree_of (0x01 ∷ []) ≡ 0x01 ∷ []
unfolding bytes_of cutting_tree labels_of bit_at bit_in
worked_room = refl

-- the labels 4 1 3 5 2 are not those of a slicing plan: 19, and before 15
pub worked_refusal : tree_answer (0x05 ∷ 0x31 ∷ 0x70 ∷ []) 0 ≡ Err NotSlicing
unfolding dec_no_kind dec_spare dec_missing dec_several dec_shaped walk step bytes_of cutting_tree labels_of bit_at bit_in
worked_refusal = refl

-- with a spare bit of 1: 14, before 19
pub worked_record_first : tree_answer (0x05 ∷ 0x31 ∷ 0x71 ∷ []) 0 ≡ Err SpareBit
unfolding dec_no_kind dec_spare dec_missing dec_several dec_shaped walk step bytes_of cutting_tree labels_of bit_at bit_in
worked_record_first = refl

-- A small book, computed from the definitions: the records 02 40, 01 and 05 31 70 one after another, and two more bytes lent.
use Rattle.std.specs.Prelude.{List, [], ◌∷◌, ◌≡◌, refl, ℕ, Some, None, Ok, Err}
use Rattle.std.proofs.Math.Decide.{dec_lt}
use Rattle.bits.specs.Bit.{bit_at, bit_in}
use Rattle.record.specs.Walk.{walk}
use Rattle.record.specs.Rises.{rises, falls}
use Rattle.record.specs.Checked.{dec_no_kind, dec_spare, dec_missing, dec_several}
use Rattle.record.specs.declared.Refusal.TheVariants.{NoKind, ShortBody, BytesAfter, SeveralRuns, ShortOutput, BeyondBook, OtherSummary}
use Rattle.book.specs.Book.{records_of}
use Rattle.book.specs.Summary.{held, summary_of, dec_same}
use Rattle.book.specs.Answer.{dec_beyond, next_answer, part_for, add_answer, book_after, summary_after}
use Rattle.book.specs.declared.BookError.TheVariants.{BadRecord, Refused}

abbrev used : List ℕ
used = 0x02 ∷ 0x40 ∷ 0x01 ∷ 0x05 ∷ 0x31 ∷ 0x70 ∷ []

abbrev small : List ℕ
small = 0x02 ∷ 0x40 ∷ 0x01 ∷ 0x05 ∷ 0x31 ∷ 0x70 ∷ 0xEE ∷ 0xEE ∷ []

-- three plans, eight rooms, three rises and two falls in six bytes
pub worked_records : records_of used ≡ (0x02 ∷ 0x40 ∷ []) ∷ (0x01 ∷ []) ∷ (0x05 ∷ 0x31 ∷ 0x70 ∷ []) ∷ []
unfolding records_of
worked_records = refl

pub worked_summary : summary_of used ≡ held 3 8 3 2
unfolding records_of rises falls bit_at bit_in
worked_summary = refl

-- reading on from place 0 to the end
pub worked_next : (next_answer small 6 0 ≡ Ok (Some 2)) × (next_answer small 6 2 ≡ Ok (Some 1)) × (next_answer small 6 3 ≡ Ok (Some 3))
    × (next_answer small 6 6 ≡ Ok None)
unfolding dec_beyond dec_no_kind dec_spare dec_missing dec_several walk bit_at bit_in
worked_next = (refl, refl, refl, refl)

pub worked_part : part_for (Ok (Some 3)) small 3 ≡ 0x05 ∷ 0x31 ∷ 0x70 ∷ []
worked_part = refl

-- a used part that ends before the record does; a place at which a body stands; a used length and a place beyond
pub worked_next_refused : (next_answer small 5 3 ≡ Err (BadRecord ShortBody 1)) × (next_answer small 6 1 ≡ Err (BadRecord ShortBody 1))
    × (next_answer small 9 0 ≡ Err (Refused BeyondBook)) × (next_answer small 6 7 ≡ Err (Refused BeyondBook))
unfolding dec_beyond dec_no_kind dec_spare dec_missing dec_several walk bit_at bit_in
worked_next_refused = (refl, refl, refl, refl)

-- a record of one room is added
pub worked_add : add_answer small 6 (0x01 ∷ []) (held 3 8 3 2) ≡ Ok 7
unfolding records_of rises falls dec_same dec_no_kind dec_spare dec_missing dec_several walk bit_at bit_in dec_lt
worked_add = refl

pub worked_bytes_left : book_after (Ok 7) small 6 (0x01 ∷ []) ≡ 0x02 ∷ 0x40 ∷ 0x01 ∷ 0x05 ∷ 0x31 ∷ 0x70 ∷ 0x01 ∷ 0xEE ∷ []
worked_bytes_left = refl

pub worked_summary_left : summary_after (Ok 7) small 6 (0x01 ∷ []) (held 3 8 3 2) ≡ held 4 9 3 2
unfolding records_of rises falls bit_at bit_in
worked_summary_left = refl

-- a bad record in the book has its ordinal: the third is cut short, the second has kind 0
pub worked_bad_record : (add_answer small 5 (0x01 ∷ []) (held 3 8 3 2) ≡ Err (BadRecord ShortBody 3))
    × (add_answer (0x02 ∷ 0x40 ∷ 0x00 ∷ 0xEE ∷ []) 3 (0x01 ∷ []) (held 1 2 1 0) ≡ Err (BadRecord NoKind 2))
unfolding records_of rises falls dec_same dec_no_kind dec_spare dec_missing dec_several walk bit_at bit_in dec_lt
worked_bad_record = (refl, refl)

-- 22; 23, also where the added record is bad; then the added record's own refusals, without ordinal; and 15 where there is no room
pub worked_add_refused : (add_answer small 9 (0x01 ∷ []) (held 3 8 3 2) ≡ Err (Refused BeyondBook))
    × (add_answer small 6 (0x01 ∷ []) (held 3 8 2 3) ≡ Err (Refused OtherSummary))
    × (add_answer small 6 (0x02 ∷ 0x00 ∷ []) (held 3 8 2 3) ≡ Err (Refused OtherSummary))
    × (add_answer small 6 (0x02 ∷ 0x00 ∷ []) (held 3 8 3 2) ≡ Err (Refused SeveralRuns))
    × (add_answer small 6 (0x01 ∷ 0x01 ∷ []) (held 3 8 3 2) ≡ Err (Refused BytesAfter))
    × (add_answer small 6 (0x05 ∷ 0x31 ∷ 0x70 ∷ []) (held 3 8 3 2) ≡ Err (Refused ShortOutput))
unfolding records_of rises falls dec_same dec_no_kind dec_spare dec_missing dec_several walk bit_at bit_in dec_lt
worked_add_refused = (refl, refl, refl, refl, refl, refl)

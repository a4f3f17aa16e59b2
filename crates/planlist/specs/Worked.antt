-- Texts computed from the definitions: the listing that the sheet shows "for the bytes 05 31 70", and the
-- line of a worked record that is refused.
use Rattle.std.specs.Prelude.{[], ◌∷◌, ◌≡◌, refl}
use Rattle.bits.specs.Bit.{bit_at, bit_in}
use Rattle.record.specs.Walk.{walk, step}
use Rattle.record.specs.Read.{labels_of}
use Rattle.record.specs.Checked.{dec_no_kind, dec_spare, dec_missing, dec_several}
use Rattle.drawing.specs.Drawing.{last_before, first_later}
use Rattle.digits.specs.Ascii.{ascii}
use Rattle.digits.specs.Decimal.{digits_in, decimal}
use Rattle.listing.specs.Text.{lines_of, text_of}

pub worked_listing : text_of (0x05 ∷ 0x31 ∷ 0x70 ∷ []) ≡ ascii "rooms 5\n1 4 0 0 3 1\n2 1 0 1 2 5\n3 3 2 1 3 4\n4 5 3 0 5 4\n5 2 2 4 5 5\n"
unfolding digits_in decimal lines_of last_before first_later labels_of dec_no_kind dec_spare dec_missing dec_several walk step bit_at bit_in
worked_listing = refl

pub worked_refusal : text_of (0x02 ∷ 0xC1 ∷ []) ≡ ascii "refused 14\n"
unfolding digits_in decimal lines_of last_before first_later labels_of dec_no_kind dec_spare dec_missing dec_several walk step bit_at bit_in
worked_refusal = refl

-- Texts and their answers, computed from the definitions.
use Rattle.std.specs.Prelude.{Result, Ok, Err, List, [], ◌∷◌, ◌≡◌, refl, ℕ}
use Prim.Native.String.{String}
use Rattle.finite.specs.Decide.{dec-¬}
use Rattle.record.specs.declared.Refusal.{Refusal}
use Rattle.record.specs.Causes.{dec_count, dec_outside, dec_twice, dec_barred}
use Rattle.record.specs.Refusal.{number_of}
use Rattle.digits.specs.Ascii.{ascii}
use Rattle.digits.specs.Decimal.{digits_in, decimal}
use Rattle.labeltext.specs.Symbol.{symbol_of}
use Rattle.labeltext.specs.Reader.{run, dec_done}
use Rattle.labeltext.specs.LineOf.{line_length}
use Rattle.labeltext.specs.Decide.{dec_keeps_form}
use Rattle.labeltext.specs.Tidy.{tidy_rest, tidy_line}
use Rattle.labeltext.specs.Answer.{labels_in, tidy_form, tidy_answer}

pub data Shown : Type 0 where
  tidied : List ℕ → Shown
  refusal : ℕ → Shown

-- the tidy form that a slice of 912 bytes gets, or the refusal's number
abbrev pub answer : String → Shown
answer text = show (tidy_answer (ascii text) 912)
  where
    show : Result ℕ Refusal → Shown
    show (Ok size) = tidied (tidy_form (ascii text))
    show (Err r) = refusal (number_of r)

abbrev pub answers : List String → List Shown
answers [] = []
answers (text ∷ texts) = answer text ∷ answers texts

-- leading zeros, commas and spaces go; a tidy text stays
pub worked_tidied : answers (" 4,1 , 03  5 002 \n" ∷ "4 1 3 5 2\n" ∷ "1" ∷ [])
    ≡ tidied (ascii "4 1 3 5 2\n") ∷ tidied (ascii "4 1 3 5 2\n") ∷ tidied (ascii "1\n") ∷ []
unfolding tidy_rest tidy_line labels_in dec_keeps_form dec_done run symbol_of line_length
    digits_in decimal dec-¬ dec_count dec_outside dec_twice dec_barred
worked_tidied = refl

-- nothing but spaces keeps the form, and so do 000 and numbers above n
pub worked_refused : answers ("" ∷ "\n" ∷ "  \n" ∷ "000" ∷ "1 999" ∷ "1 1" ∷ "2 4 1 3" ∷ [])
    ≡ refusal 1 ∷ refusal 1 ∷ refusal 1 ∷ refusal 6 ∷ refusal 6 ∷ refusal 7 ∷ refusal 8 ∷ []
unfolding labels_in dec_keeps_form dec_done run symbol_of line_length dec-¬ dec_count dec_outside dec_twice dec_barred
worked_refused = refl

-- four digits, two commas, a comma at either end, a second newline, one that is not the last byte, and any other byte break it
pub worked_broken : answers ("0001" ∷ "1,,2" ∷ ",1" ∷ "1," ∷ "1\n\n" ∷ "1\n2" ∷ "1\n " ∷ "1\t2" ∷ "x" ∷ [])
    ≡ refusal 18 ∷ refusal 18 ∷ refusal 18 ∷ refusal 18 ∷ refusal 18 ∷ refusal 18 ∷ refusal 18 ∷ refusal 18 ∷ refusal 18 ∷ []
unfolding labels_in dec_keeps_form dec_done run symbol_of line_length dec-¬
worked_broken = refl

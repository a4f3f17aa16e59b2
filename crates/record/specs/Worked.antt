-- The starred worked plans of the sheet, proved by computation from the definitions.
use Rattle.std.specs.Prelude.{◌≡◌, refl, List, [], ◌∷◌, ℕ, Result, Ok, Err}
use Rattle.finite.specs.Table.{table}
use Rattle.bits.specs.Bit.{value, byte_of, pack, bit_at, bit_in}
use Rattle.record.specs.declared.Refusal.{Refusal}
use Rattle.record.specs.Triple.{triple_at}
use Rattle.record.specs.Record.{body_bit, record_of}
use Rattle.record.specs.Causes.{dec_count, dec_outside, dec_twice, dec_barred}
use Rattle.record.specs.Refusal.{number_of}
use Rattle.record.specs.Walk.{walk, step}
use Rattle.record.specs.Read.{labels_of}
use Rattle.record.specs.Checked.{dec_no_kind, dec_spare, dec_missing, dec_several, checked}
use Rattle.record.specs.Answer.{labels_answer}

-- what is given and what is answered
pub data Given : Type 0 where
  labels : List ℕ → Given
  bytes_in : List ℕ → Given

pub data Shown : Type 0 where
  bytes : List ℕ → Shown
  list : List ℕ → Shown
  refusal : ℕ → Shown

-- the bytes that a long enough record slice gets, the labels that a record gives, or the refusal's number
abbrev pub answer : Given → Shown
answer (labels l) = show (labels_answer l 97)
  where
    show : Result ℕ Refusal → Shown
    show (Ok size) = bytes (record_of l)
    show (Err r) = refusal (number_of r)
answer (bytes_in b) = checked (λ r. refusal (number_of r)) b (list (labels_of b))

pub record Plan : Type 0 where
  pub given : Given
  pub answered : Shown

abbrev pub plans : List Plan
plans =
    record { given = labels (1 ∷ []); answered = bytes (0x01 ∷ []) }
    ∷ record { given = labels (1 ∷ 2 ∷ []); answered = bytes (0x02 ∷ 0x40 ∷ []) }
    ∷ record { given = labels (2 ∷ 1 ∷ []); answered = bytes (0x02 ∷ 0xA0 ∷ []) }
    ∷ record { given = labels (3 ∷ 4 ∷ 1 ∷ 2 ∷ []); answered = bytes (0x04 ∷ 0x47 ∷ 0x00 ∷ []) }
    ∷ record { given = labels (4 ∷ 1 ∷ 3 ∷ 5 ∷ 2 ∷ []); answered = bytes (0x05 ∷ 0x31 ∷ 0x70 ∷ []) }
    ∷ record { given = labels (4 ∷ 1 ∷ 3 ∷ 6 ∷ 5 ∷ 2 ∷ []); answered = bytes (0x06 ∷ 0x30 ∷ 0x7E ∷ []) }
    ∷ record { given = labels (5 ∷ 2 ∷ 1 ∷ 4 ∷ 6 ∷ 3 ∷ []); answered = bytes (0x06 ∷ 0x36 ∷ 0x2E ∷ []) }
    ∷ record { given = labels (2 ∷ 7 ∷ 3 ∷ 1 ∷ 5 ∷ 6 ∷ 4 ∷ []); answered = bytes (0x07 ∷ 0x0E ∷ 0x8D ∷ 0xC0 ∷ []) }
    ∷ record { given = labels (2 ∷ 4 ∷ 1 ∷ 3 ∷ []); answered = refusal 8 }
    ∷ record { given = labels (3 ∷ 1 ∷ 4 ∷ 2 ∷ []); answered = refusal 8 }
    ∷ record { given = bytes_in (0x02 ∷ 0x00 ∷ []); answered = refusal 13 }
    ∷ record { given = bytes_in (0x02 ∷ 0x60 ∷ []); answered = refusal 12 }
    ∷ record { given = bytes_in (0x02 ∷ 0xC1 ∷ []); answered = refusal 14 }
    ∷ []

abbrev pub answers : List Plan → List Shown
answers [] = []
answers (p ∷ ps) = answer p.given ∷ answers ps

abbrev pub expected : List Plan → List Shown
expected [] = []
expected (p ∷ ps) = p.answered ∷ expected ps

-- each plan is answered as the sheet says
pub worked_plans : answers plans ≡ expected plans
unfolding record_of body_bit triple_at pack byte_of value table dec_count dec_outside dec_twice dec_barred dec_no_kind dec_spare dec_missing dec_several walk step bit_at bit_in
worked_plans = refl

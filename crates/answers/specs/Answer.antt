-- What Record in answers, and what the output slices then hold. "Order: records 9, 10, 11, 14, 12, 13, then 15."
use Rattle.std.specs.Prelude.{List, ◌++◌, ◌⊎◌, ◌≡◌, ℕ, ◌≤◌, ◌<◌, length, drop, Result, Ok, Err}
use Rattle.std.proofs.Math.Logic.{ite}
use Rattle.std.proofs.Math.Decide.{dec_lt}
use Rattle.finite.specs.Decide.{dec-⊎}
use Rattle.record.specs.Read.{kind_of, labels_of}
use Rattle.record.specs.Checked.{checked}
use Rattle.record.specs.declared.Refusal.{Refusal}
use Rattle.record.specs.declared.Refusal.TheVariants.{ShortOutput}
use Rattle.drawing.specs.Drawing.{drawing_of}
use Rattle.drawing.specs.declared.Room.{Room}

-- "an output slice too short": one of the two has fewer places than the record has rooms
abbrev pub Short : (n labels rooms : ℕ) → Type 0
Short n labels rooms = (labels < n) ⊎ (rooms < n)

unfoldable pub dec_short : (n labels rooms : ℕ) → Dec (Short n labels rooms)
unfolding dec-⊎ dec_lt
dec_short n labels rooms = dec-⊎ (dec_lt labels n) (dec_lt rooms n)

-- the answer for a record and output slices of so many places
abbrev pub record_answer : List ℕ → (labels rooms : ℕ) → Result ℕ Refusal
record_answer bytes labels rooms =
    checked Err bytes
    (ite (dec_short (kind_of bytes) labels rooms) (Err ShortOutput)
    (Ok (kind_of bytes)))

-- how many rooms an answer gives
abbrev pub count_of : Result ℕ Refusal → ℕ
count_of (Ok n) = n
count_of (Err refusal) = 0

-- a record has at most 255 rooms
abbrev pub Few : Result ℕ Refusal → Type 0
Few answer = count_of answer ≤ 255

-- an output slice after the answer, where it held `before`: "labels and rooms by position" from the front and "the excess is
-- untouched", or all as it was
abbrev pub written : {A : Type 0} → Result ℕ Refusal → (result before : List A) → List A
written (Ok n) result before = result ++ drop n before
written (Err refusal) result before = before

-- the two output slices
pub record Slices : Type 0 where
  pub labels : List ℕ
  pub rooms : List Room

abbrev pub slices : (labels : List ℕ) (rooms : List Room) → Slices
slices labels rooms = record { labels = labels; rooms = rooms }

-- what Record in answers for these bytes and slices that held `before`, and what the slices hold then: the rooms are those of the
-- drawing, whose names are 0 (M-106)
pub record RecordIn (bytes : List ℕ) (before : Slices) (answer : Result ℕ Refusal) (after : Slices) : Type 0 where
  pub answered : answer ≡ record_answer bytes (length before.labels) (length before.rooms)
  pub labels_are : after.labels ≡ written answer (labels_of bytes) before.labels
  pub rooms_are : after.rooms ≡ written answer (drawing_of (labels_of bytes)) before.rooms

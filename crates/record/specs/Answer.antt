-- What Labels in answers, and what the record slice then holds. "Order: labels 1, 6, 7, 8, 15."
use Rattle.std.proofs.Math.Logic.{ite}
use Rattle.std.specs.Prelude.{List, ◌++◌, ◌≡◌, ℕ, length, drop, Result, Ok, Err}
use Rattle.std.proofs.Math.Decide.{dec_lt}
use Rattle.record.specs.declared.Refusal.{Refusal}
use Rattle.record.specs.Record.{record_of}
use Rattle.record.specs.Judged.{judged}
use Rattle.record.specs.declared.Refusal.TheVariants.{ShortOutput}

-- the answer for a label list and a record slice of so many bytes
abbrev pub labels_answer : List ℕ → (capacity : ℕ) → Result ℕ Refusal
labels_answer labels capacity =
    judged Err labels
    (ite (dec_lt capacity (length (record_of labels))) (Err ShortOutput)
    (Ok (length (record_of labels))))

-- the record slice after an answer, where it held `before`: the record from the front and the rest untouched, or all as it was
abbrev pub record_after : Result ℕ Refusal → (labels before : List ℕ) → List ℕ
record_after (Ok size) labels before = record_of labels ++ drop size before
record_after (Err refusal) labels before = before

-- what Labels in answers for these labels and a record slice that held `before`, and what the slice holds then
pub record LabelsIn (labels before : List ℕ) (answer : Result ℕ Refusal) (after : List ℕ) : Type 0 where
  pub answered : answer ≡ labels_answer labels (length before)
  pub left : after ≡ record_after answer labels before

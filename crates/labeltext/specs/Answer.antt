-- What tidying a text answers, and what the output slice then holds. "Answers: 18 for a text that breaks the form or is longer than
-- 4,096 bytes, before 1, then 6, 7, 8 and 15."
use Rattle.std.specs.Prelude.{Result, Ok, Err, List, [], ◌++◌, ◌≡◌, ℕ, length, drop}
use Rattle.std.proofs.Math.Logic.{ite}
use Rattle.std.proofs.Math.Decide.{dec_lt}
use Rattle.finite.specs.Decide.{dec-¬}
use Rattle.record.specs.declared.Refusal.{Refusal}
use Rattle.record.specs.Judged.{judged}
use Rattle.record.specs.declared.Refusal.TheVariants.{TextForm, ShortOutput}
use Rattle.labeltext.specs.Form.{KeepsForm}
use Rattle.labeltext.specs.Decide.{dec_keeps_form}
use Rattle.labeltext.specs.Tidy.{tidy_text}

-- "a text that breaks the form or is longer than 4,096 bytes"
abbrev pub BreaksForm : List ℕ → Type 0
BreaksForm text = ¬ KeepsForm text

-- the labels that a text lists; none where it breaks the form
unfoldable pub labels_in : (text : List ℕ) → List ℕ
unfolding dec_keeps_form
labels_in text = elim (dec_keeps_form text) [ yes k ↦ k.numbers | no h ↦ [] ]

-- its tidy form
abbrev pub tidy_form : (text : List ℕ) → List ℕ
tidy_form text = tidy_text (labels_in text)

-- the answer for labels and an output slice of so many bytes: "1, then 6, 7, 8 and 15"
abbrev pub labels_tidied : (labels : List ℕ) (capacity : ℕ) → Result ℕ Refusal
labels_tidied labels capacity =
    judged Err labels
    (ite (dec_lt capacity (length (tidy_text labels))) (Err ShortOutput)
    (Ok (length (tidy_text labels))))

-- the answer for a text: "18 for a text that breaks the form or is longer than 4,096 bytes, before 1"
abbrev pub tidy_answer : (text : List ℕ) (capacity : ℕ) → Result ℕ Refusal
tidy_answer text capacity = ite (dec-¬ (dec_keeps_form text)) (Err TextForm) (labels_tidied (labels_in text) capacity)

-- the output slice after an answer, where it held `before`: the tidy text from the front and the rest untouched, or all as it was
abbrev pub tidy_after : Result ℕ Refusal → (labels before : List ℕ) → List ℕ
tidy_after (Ok size) labels before = tidy_text labels ++ drop size before
tidy_after (Err refusal) labels before = before

-- what the call answers for a text and an output slice that held `before`, and what the slice holds then
pub record Tidied (text before : List ℕ) (answer : Result ℕ Refusal) (after : List ℕ) : Type 0 where
  pub answered : answer ≡ tidy_answer text (length before)
  pub left : after ≡ tidy_after answer (labels_in text) before

-- Demand 1 for label lists: "either its result or one of the numbered refusals, in the stated order". "A cause found gives its
-- number, and no number comes without its cause."
use Rattle.std.proofs.Math.Logic.{ite, if_pos, if_neg}
use Rattle.std.specs.Prelude.{List, ◌≡◌, ℕ, ◌<◌, length, Result, Ok, Err}
use Rattle.std.proofs.Common.{sym, ◌∙◌}
use Rattle.std.proofs.Math.Decide.{dec_lt}
use Rattle.record.specs.Record.{record_of}
use Rattle.record.specs.Judged.{Sound, RefusesLabels, refused_judged, sound_judged, judged_has}
use Rattle.record.specs.Answer.{labels_answer}
use Rattle.record.specs.declared.Refusal.{Refusal}
use Rattle.record.specs.declared.Refusal.TheVariants.{ShortOutput}

-- an answer with its cause, and without the causes that the order names before it
pub data LabelsSays (labels : List ℕ) (capacity : ℕ) : Result ℕ Refusal → Type 0 where
  refused : {refusal : Refusal} → RefusesLabels labels refusal → LabelsSays labels capacity (Err refusal)
  short : Sound labels → capacity < length (record_of labels) → LabelsSays labels capacity (Err ShortOutput)
  wrote : Sound labels → ¬ (capacity < length (record_of labels)) → LabelsSays labels capacity (Ok (length (record_of labels)))

module _ (labels : List ℕ) (capacity : ℕ) where
  -- each answer has its cause
  pub demand1_labels_cause : LabelsSays labels capacity (labels_answer labels capacity)
  demand1_labels_cause =
      judged_has (LabelsSays labels capacity) Err labels _ (λ refusal cause. refused cause) (go (dec_lt capacity (length (record_of labels))))
    where
      go : (d : Dec (capacity < length (record_of labels))) → Sound labels
          → LabelsSays labels capacity (ite d (Err ShortOutput) (Ok (length (record_of labels))))
      go (yes s) all = short all s
      go (no s) all = wrote all s

  -- and an answer with its cause is the answer
  pub demand1_labels_answer : {answer : Result ℕ Refusal} → LabelsSays labels capacity answer → answer ≡ labels_answer labels capacity
  demand1_labels_answer (refused cause) = refused_judged Err labels _ cause
  demand1_labels_answer (short all s) =
      sym (if_pos (dec_lt capacity (length (record_of labels))) s _ _) ∙ sound_judged Err labels _ all
  demand1_labels_answer (wrote all s) =
      sym (if_neg (dec_lt capacity (length (record_of labels))) s _ _) ∙ sound_judged Err labels _ all

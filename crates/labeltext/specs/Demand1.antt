-- Demand 1 for texts: "either its result or one of the numbered refusals, in the stated order". "A cause found gives its number, and
-- no number comes without its cause."
use Rattle.std.specs.Prelude.{Result, Ok, Err, List, ◌≡◌, ℕ, ◌<◌}
use Rattle.std.proofs.Math.Logic.{ite, if_pos, if_neg}
use Rattle.std.proofs.Common.{sym, ◌∙◌}
use Rattle.std.proofs.Math.Decide.{dec_lt}
use Rattle.std.proofs.Math.ListN.{length}
use Rattle.finite.specs.Decide.{dec-¬}
use Rattle.record.specs.Judged.{Sound, RefusesLabels, judged, refused_judged, sound_judged, judged_has}
use Rattle.record.specs.declared.Refusal.{Refusal}
use Rattle.record.specs.declared.Refusal.TheVariants.{TextForm, ShortOutput}
use Rattle.labeltext.specs.Form.{KeepsForm}
use Rattle.labeltext.specs.Decide.{dec_keeps_form}
use Rattle.labeltext.specs.Answer.{BreaksForm, labels_in, tidy_form, labels_tidied, tidy_answer}

-- an accepted text: it keeps the form, and its labels have none of the causes
pub record AcceptedText (text : List ℕ) : Type 0 where
  pub form : KeepsForm text
  pub sound : Sound (labels_in text)

-- an answer with its cause, and without the causes that the order names before it
pub data TidySays (text : List ℕ) (capacity : ℕ) : Result ℕ Refusal → Type 0 where
  breaks : BreaksForm text → TidySays text capacity (Err TextForm)
  refused : {refusal : Refusal} → KeepsForm text → RefusesLabels (labels_in text) refusal → TidySays text capacity (Err refusal)
  short : AcceptedText text → capacity < length (tidy_form text) → TidySays text capacity (Err ShortOutput)
  wrote : AcceptedText text → ¬ (capacity < length (tidy_form text)) → TidySays text capacity (Ok (length (tidy_form text)))

module _ (text : List ℕ) (capacity : ℕ) where
  -- each answer has its cause
  pub demand1_tidy_cause : TidySays text capacity (tidy_answer text capacity)
  unfolding dec-¬
  demand1_tidy_cause = go (dec_keeps_form text) (dec_lt capacity (length (tidy_form text)))
    where
      end : KeepsForm text → Sound (labels_in text) → (e : Dec (capacity < length (tidy_form text)))
          → TidySays text capacity (ite e (Err ShortOutput) (Ok (length (tidy_form text))))
      end form sound (yes s) = short (record { form = form; sound = sound }) s
      end form sound (no s) = wrote (record { form = form; sound = sound }) s

      go : (d : Dec (KeepsForm text)) (e : Dec (capacity < length (tidy_form text)))
          → TidySays text capacity (ite (dec-¬ d) (Err TextForm) (judged Err (labels_in text)
          (ite e (Err ShortOutput) (Ok (length (tidy_form text))))))
      go (no broken) e = breaks broken
      go (yes form) e =
          judged_has (TidySays text capacity) Err (labels_in text) _ (λ refusal cause. refused form cause) (λ sound. end form sound e)

  -- past 18
  pub kept_answer : KeepsForm text → tidy_answer text capacity ≡ labels_tidied (labels_in text) capacity
  kept_answer form = if_neg (dec-¬ (dec_keeps_form text)) (λ broken. broken form) _ _

  -- and an answer with its cause is the answer
  pub demand1_tidy_answer : {answer : Result ℕ Refusal} → TidySays text capacity answer → answer ≡ tidy_answer text capacity
  demand1_tidy_answer (breaks broken) = sym (if_pos (dec-¬ (dec_keeps_form text)) broken _ _)
  demand1_tidy_answer (refused form cause) = refused_judged Err (labels_in text) _ cause ∙ sym (kept_answer form)
  demand1_tidy_answer (short k s) =
      sym (if_pos (dec_lt capacity (length (tidy_form text))) s _ _) ∙ sound_judged Err (labels_in text) _ k.sound
      ∙ sym (kept_answer k.form)
  demand1_tidy_answer (wrote k s) =
      sym (if_neg (dec_lt capacity (length (tidy_form text))) s _ _) ∙ sound_judged Err (labels_in text) _ k.sound
      ∙ sym (kept_answer k.form)

-- Demand 1 for records: "either its result or one of the numbered refusals, in the stated order". "A cause found gives its number,
-- and no number comes without its cause."
use Rattle.std.specs.Prelude.{List, ◌≡◌, ℕ, Result, Ok, Err}
use Rattle.std.proofs.Math.Logic.{ite, if_pos, if_neg}
use Rattle.std.proofs.Common.{sym, ◌∙◌}
use Rattle.record.specs.Read.{kind_of}
use Rattle.record.specs.Checked.{Readable, Refuses, checked_has, refused_checked, readable_checked}
use Rattle.record.specs.declared.Refusal.{Refusal}
use Rattle.record.specs.declared.Refusal.TheVariants.{ShortOutput}
use Rattle.answers.specs.Answer.{Short, dec_short, record_answer}

-- an answer with its cause, and without the causes that the order names before it
pub data RecordSays (bytes : List ℕ) (labels rooms : ℕ) : Result ℕ Refusal → Type 0 where
  refused_record : {refusal : Refusal} → Refuses bytes refusal → RecordSays bytes labels rooms (Err refusal)
  short : Readable bytes → Short (kind_of bytes) labels rooms → RecordSays bytes labels rooms (Err ShortOutput)
  written : Readable bytes → ¬ Short (kind_of bytes) labels rooms → RecordSays bytes labels rooms (Ok (kind_of bytes))

module _ (bytes : List ℕ) (labels rooms : ℕ) where
  abbrev n : ℕ
  n = kind_of bytes

  -- each answer has its cause
  pub demand1_record_cause : RecordSays bytes labels rooms (record_answer bytes labels rooms)
  demand1_record_cause =
      checked_has (RecordSays bytes labels rooms) Err bytes _ (λ refusal cause. refused_record cause) (go (dec_short n labels rooms))
    where
      go : (d : Dec (Short n labels rooms)) → Readable bytes → RecordSays bytes labels rooms (ite d (Err ShortOutput) (Ok n))
      go (yes s) all = short all s
      go (no s) all = written all s

  -- and an answer with its cause is the answer
  pub demand1_record_answer : {answer : Result ℕ Refusal} → RecordSays bytes labels rooms answer → answer ≡ record_answer bytes labels rooms
  demand1_record_answer (refused_record cause) = refused_checked Err bytes _ cause
  demand1_record_answer (short all s) = sym (if_pos (dec_short n labels rooms) s _ _) ∙ readable_checked Err bytes _ all
  demand1_record_answer (written all s) = sym (if_neg (dec_short n labels rooms) s _ _) ∙ readable_checked Err bytes _ all

-- Demand 1 for questions: "either its result or one of the numbered refusals, in the stated order". "A cause found gives its number,
-- and no number comes without its cause."
use Rattle.std.specs.Prelude.{Bool, List, ◌≢◌, ◌⊎◌, ◌≡◌, refl, ℕ, Result, Err}
use Rattle.std.proofs.Math.Logic.{ite, if_pos, if_neg}
use Rattle.std.proofs.Common.{sym, ◌∙◌}
use Rattle.std.proofs.Math.Decide.{ℕ_discrete}
use Rattle.finite.specs.Decide.{Tells, holds, holds_tells, tells_holds}
use Rattle.record.specs.Labels.{label_at}
use Rattle.record.specs.Read.{kind_of, labels_of}
use Rattle.record.specs.Checked.{Readable, Refuses, checked_has, refused_checked, readable_checked}
use Rattle.record.specs.declared.Refusal.{Refusal}
use Rattle.record.specs.declared.Refusal.TheVariants.{PositionOutside, SamePosition}
use Rattle.drawing.specs.declared.Relation.{Relation}
use Rattle.drawing.specs.Side.{side_of}
use Rattle.contacts.specs.Direct.{PositionsDirect, dec_positions_direct, relation_of}
use Rattle.contacts.proofs.DirectFacts.{relation_told}
use Rattle.contacts.specs.Touches.{PositionsTouch}
use Rattle.contacts.specs.DecideTouches.{dec_positions_touch}
use Rattle.questions.specs.Answer.{Outside, dec_outside, answering, question_answer}
use Rattle.questions.specs.declared.Related.{Related}

pub data QuestionSays (bytes : List ℕ) (first second : ℕ) : Result Related Refusal → Type 0 where
  refused_record : {refusal : Refusal} → Refuses bytes refusal → QuestionSays bytes first second (Err refusal)
  outside : Readable bytes → Outside first (kind_of bytes) ⊎ Outside second (kind_of bytes)
      → QuestionSays bytes first second (Err PositionOutside)
  same : Readable bytes → ¬ (Outside first (kind_of bytes) ⊎ Outside second (kind_of bytes)) → first ≡ second
      → QuestionSays bytes first second (Err SamePosition)
  related : {relation : Relation} {touch : Bool}
      → Readable bytes → ¬ (Outside first (kind_of bytes) ⊎ Outside second (kind_of bytes)) → first ≢ second
      → relation.side ≡ side_of (label_at (labels_of bytes)) first second
      → Tells relation.direct (PositionsDirect (labels_of bytes) relation.side first second)
      → Tells touch (PositionsTouch (labels_of bytes) first second)
      → QuestionSays bytes first second (answering relation touch)

module _ (bytes : List ℕ) (first second : ℕ) where
  abbrev relation : Relation
  relation = relation_of (labels_of bytes) first second

  abbrev directly : Dec (PositionsDirect (labels_of bytes) relation.side first second)
  directly = dec_positions_direct (labels_of bytes) relation.side first second

  abbrev touching : Dec (PositionsTouch (labels_of bytes) first second)
  touching = dec_positions_touch (labels_of bytes) first second

  -- each answer has its cause
  pub demand1_question_cause : QuestionSays bytes first second (question_answer bytes first second)
  demand1_question_cause =
      checked_has (QuestionSays bytes first second) Err bytes _ (λ refusal cause. refused_record cause)
      (go (dec_outside first second (kind_of bytes)) (ℕ_discrete first second))
    where
      go : (d : Dec (Outside first (kind_of bytes) ⊎ Outside second (kind_of bytes))) (e : Dec (first ≡ second)) → Readable bytes
          → QuestionSays bytes first second (ite d (Err PositionOutside) (ite e (Err SamePosition)
          (answering relation (holds touching))))
      go (yes o) e all = outside all o
      go (no o) (yes e) all = same all o e
      go (no o) (no e) all = related all o e refl (holds_tells directly) (holds_tells touching)

  -- and an answer with its cause is the answer
  pub demand1_question_answer : {answer : Result Related Refusal} → QuestionSays bytes first second answer
      → answer ≡ question_answer bytes first second
  demand1_question_answer (refused_record cause) = refused_checked Err bytes _ cause
  demand1_question_answer (outside all o) =
      sym (if_pos (dec_outside first second (kind_of bytes)) o _ _) ∙ readable_checked Err bytes _ all
  demand1_question_answer (same all o e) =
      sym (if_neg (dec_outside first second (kind_of bytes)) o _ _ ∙ if_pos (ℕ_discrete first second) e _ _)
      ∙ readable_checked Err bytes _ all
  demand1_question_answer (related {relation = told} {touch} all o e s d t) =
      (λ i. answering (relation_told (labels_of bytes) first second told s d i) (sym (tells_holds touching touch t) i))
      ∙ sym (if_neg (dec_outside first second (kind_of bytes)) o _ _ ∙ if_neg (ℕ_discrete first second) e _ _)
      ∙ readable_checked Err bytes _ all

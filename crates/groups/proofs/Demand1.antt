-- Demand 1 for the question of two groups: "either its result or one of the numbered refusals, in the stated order". "A cause found gives
-- its number, and no number comes without its cause."
use Rattle.std.specs.Prelude.{List, ◌≡◌, ℕ, Some, None, Ok, Err}
use Rattle.std.proofs.Math.Logic.{ite, if_pos, if_neg}
use Rattle.std.proofs.Common.{sym, ◌∙◌}
use Rattle.record.specs.Labels.{label_at}
use Rattle.record.specs.Read.{kind_of, labels_of}
use Rattle.record.specs.Checked.{Readable, Refuses, checked_has, refused_checked, readable_checked}
use Rattle.record.specs.declared.Refusal.{Refusal}
use Rattle.record.specs.declared.Refusal.TheVariants.{PositionOutside, EmptyGroup, SamePosition}
use Rattle.drawing.specs.declared.Side.{Side}
use Rattle.groups.specs.Group.{Outside, dec_outside, SomeEmpty, dec_some_empty, Common, dec_common, Fits}
use Rattle.groups.specs.Standing.{AllStand}
use Rattle.groups.specs.Answer.{GroupsAnswer, standing, groups_answer}
use Rattle.groups.proofs.StandingFacts.{Says, standing_says, says→standing}

-- nothing of the record and of the groups is refused
pub record Asked (bytes first second : List ℕ) : Type 0 where
  pub readable : Readable bytes
  pub fits : Fits (kind_of bytes) first second

pub data GroupsSays (bytes first second : List ℕ) : GroupsAnswer → Type 0 where
  refused_record : {refusal : Refusal} → Refuses bytes refusal → GroupsSays bytes first second (Err refusal)
  outside : Readable bytes → Outside (kind_of bytes) first second → GroupsSays bytes first second (Err PositionOutside)
  empty : Readable bytes → ¬ Outside (kind_of bytes) first second → SomeEmpty first second
      → GroupsSays bytes first second (Err EmptyGroup)
  common : Readable bytes → ¬ Outside (kind_of bytes) first second → ¬ SomeEmpty first second → Common first second
      → GroupsSays bytes first second (Err SamePosition)
  related : {side : Side} → Asked bytes first second → AllStand (label_at (labels_of bytes)) first second side
      → GroupsSays bytes first second (Ok (Some side))
  mixed : Asked bytes first second → ((side : Side) → ¬ AllStand (label_at (labels_of bytes)) first second side)
      → GroupsSays bytes first second (Ok None)

module _ (bytes first second : List ℕ) where
  abbrev answer : GroupsAnswer
  answer = standing (label_at (labels_of bytes)) first second

  says : Asked bytes first second → (x : GroupsAnswer) → Says (label_at (labels_of bytes)) first second x → GroupsSays bytes first second x
  says asked (Ok (Some side)) h = related asked h
  says asked (Ok None) h = mixed asked h
  says asked (Err _) h = elim h [ ]

  -- each answer has its cause
  pub demand1_groups_cause : GroupsSays bytes first second (groups_answer bytes first second)
  demand1_groups_cause =
      checked_has (GroupsSays bytes first second) Err bytes _ (λ refusal cause. refused_record cause)
      (go (dec_outside (kind_of bytes) first second) (dec_some_empty first second) (dec_common first second))
    where
      go : (o : Dec (Outside (kind_of bytes) first second)) (e : Dec (SomeEmpty first second)) (c : Dec (Common first second)) → Readable bytes
          → GroupsSays bytes first second (ite o (Err PositionOutside) (ite e (Err EmptyGroup) (ite c (Err SamePosition) answer)))
      go (yes o) e c all = outside all o
      go (no o) (yes e) c all = empty all o e
      go (no o) (no e) (yes c) all = common all o e c
      go (no o) (no e) (no c) all =
          says (record { readable = all; fits = record { inside = o; filled = e; apart = c } }) answer (standing_says (label_at (labels_of bytes)) first second)

  -- where nothing is refused, it is the answer that says what holds
  pub asked_answer : Asked bytes first second → (x : GroupsAnswer) → Says (label_at (labels_of bytes)) first second x
      → x ≡ groups_answer bytes first second
  asked_answer asked x h =
      says→standing (label_at (labels_of bytes)) first second asked.fits.filled x h
      ∙ sym (if_neg (dec_outside (kind_of bytes) first second) asked.fits.inside _ _ ∙ if_neg (dec_some_empty first second) asked.fits.filled _ _
      ∙ if_neg (dec_common first second) asked.fits.apart _ _)
      ∙ readable_checked Err bytes _ asked.readable

  -- and an answer with its cause is the answer
  pub demand1_groups_answer : {x : GroupsAnswer} → GroupsSays bytes first second x → x ≡ groups_answer bytes first second
  demand1_groups_answer (refused_record cause) = refused_checked Err bytes _ cause
  demand1_groups_answer (outside all o) =
      sym (if_pos (dec_outside (kind_of bytes) first second) o _ _) ∙ readable_checked Err bytes _ all
  demand1_groups_answer (empty all o e) =
      sym (if_neg (dec_outside (kind_of bytes) first second) o _ _ ∙ if_pos (dec_some_empty first second) e _ _)
      ∙ readable_checked Err bytes _ all
  demand1_groups_answer (common all o e c) =
      sym (if_neg (dec_outside (kind_of bytes) first second) o _ _ ∙ if_neg (dec_some_empty first second) e _ _
      ∙ if_pos (dec_common first second) c _ _)
      ∙ readable_checked Err bytes _ all
  demand1_groups_answer (related {side} asked h) = asked_answer asked (Ok (Some side)) h
  demand1_groups_answer (mixed asked h) = asked_answer asked (Ok None) h

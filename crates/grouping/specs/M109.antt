-- M-109 with the question: "For two groups of one room each this is the old relation without the word direct."
use Rattle.std.specs.Prelude.{List, ◌≢◌, ◌⊎◌, ◌≡◌, ℕ, ◌≤◌, Some, Result, Ok, Err}
use Rattle.std.proofs.Common.{inl, inr, sym, subst, ◌∙◌, arith}
use Rattle.record.specs.Labels.{label_at}
use Rattle.record.specs.Read.{kind_of, labels_of}
use Rattle.drawing.specs.Side.{side_of}
use Rattle.groups.specs.Group.{Member, EachIn, Outside, SomeEmpty, Common}
use Rattle.groups.specs.Answer.{GroupsAnswer, groups_answer}
use Rattle.groups.proofs.Demand1.{GroupsSays, refused_record, outside, common, related, demand1_groups_answer}
use Rattle.record.specs.declared.Refusal.{Refusal}
use Rattle.questions.specs.Answer as question
use Rattle.questions.specs.Answer.{question_answer}
use Rattle.questions.specs.Demand1 as asked
use Rattle.questions.specs.Demand1.{QuestionSays, demand1_question_cause}
use Rattle.questions.specs.declared.Related.{Related}

-- position i is the only one in the group
pub record Only (group : List ℕ) (i : ℕ) : Type 0 where
  pub from : 1 ≤ i
  pub to : i ≤ 256
  pub has : Member group i
  pub only : EachIn group (λ k. k ≡ i)

-- the old relation without the word direct, and without the touch
abbrev pub side_alone : Result Related Refusal → GroupsAnswer
side_alone (Ok told) = Ok (Some told.relation.side)
side_alone (Err refusal) = Err refusal

module _ (bytes first second : List ℕ) (i j : ℕ) (one : Only first i) (other : Only second j) where
  abbrev n : ℕ
  n = kind_of bytes

  outside_as : question.Outside i n ⊎ question.Outside j n → Outside n first second
  outside_as (inl (inl e)) = absurd (omega (arith, one.from))
  outside_as (inl (inr h)) = inl (i, one.from, omega (arith, one.to), (one.has, h))
  outside_as (inr (inl e)) = absurd (omega (arith, other.from))
  outside_as (inr (inr h)) = inr (j, other.from, omega (arith, other.to), (other.has, h))

  outside_back : Outside n first second → question.Outside i n ⊎ question.Outside j n
  outside_back (inl (k, a, b, (m, h))) = inl (inr (omega (arith, one.only k a b m)))
  outside_back (inr (k, a, b, (m, h))) = inr (inr (omega (arith, other.only k a b m)))

  filled : ¬ SomeEmpty first second
  filled (inl e) = e (i, one.from, omega (arith, one.to), one.has)
  filled (inr e) = e (j, other.from, omega (arith, other.to), other.has)

  apart : i ≢ j → ¬ Common first second
  apart differ (k, a, b, (m, l)) = differ (sym (one.only k a b m) ∙ other.only k a b l)

  says : {x : Result Related Refusal} → QuestionSays bytes i j x → GroupsSays bytes first second (side_alone x)
  says (asked.refused_record cause) = refused_record cause
  says (asked.outside all o) = outside all (outside_as o)
  says (asked.same all o e) =
      common all (λ z. o (outside_back z)) filled (i, one.from, omega (arith, one.to), (one.has, subst (Member second) (sym e) other.has))
  says (asked.related {relation} {touch} all o differ s d t) =
      related record { readable = all; fits = record { inside = λ z. o (outside_back z); filled = filled; apart = apart differ } }
      (λ k a b m h c e l. (λ u. side_of (label_at (labels_of bytes)) (one.only k a b m u) (other.only h c e l u)) ∙ sym s)

  -- so it is for every record, and whatever is refused
  pub m109_one_room_each : groups_answer bytes first second ≡ side_alone (question_answer bytes i j)
  m109_one_room_each = sym (demand1_groups_answer bytes first second (says (demand1_question_cause bytes i j)))

-- Demand 1 for the three calls: "either its result or one of the numbered refusals, in the stated order". "A cause found gives its number,
-- and no number comes without its cause."
use Rattle.std.specs.Prelude.{List, ◌⊎◌, ◌≡◌, refl, ℕ, ℤ, Ok, Err}
use Rattle.std.proofs.Math.Logic.{ite, if_pos, if_neg}
use Rattle.std.proofs.Common.{sym, ◌∙◌}
use Rattle.finite.specs.Decide.{dec-⊎}
use Rattle.record.specs.Read.{kind_of, labels_of}
use Rattle.record.specs.declared.Refusal.{Refusal}
use Rattle.record.specs.declared.Refusal.TheVariants as refusal
use Rattle.sizes.specs.Direction.{across, upward}
use Rattle.sizes.specs.Lists.{EachWay, slack_of, HonoursAll, dec_honours_all}
use Rattle.sizes.specs.Sized.{OtherLength, dec_other_length, lengths_of, Sized, Unsized, unsized_refused, sized_good, sized_has}
use Rattle.sizes.specs.Answer.{CornersAnswer, SlackAnswer, PlacingAnswer, slack_each_way, Short, dec_short, corners_answer, slack_answer, placing_answer}

-- a list of sizes has another length than the record's number of rooms, and so for a placing one of sizes or of corners
abbrev pub OtherSizes : (bytes : List ℕ) (sizes : EachWay (List ℕ)) → Type 0
OtherSizes bytes sizes = OtherLength (kind_of bytes) (lengths_of sizes)

abbrev pub OtherLists : (bytes : List ℕ) (sizes corners : EachWay (List ℕ)) → Type 0
OtherLists bytes sizes corners = OtherLength (kind_of bytes) (lengths_of sizes) ⊎ OtherLength (kind_of bytes) (lengths_of corners)

-- ---- each answer with its cause, and without the causes that the order names before it
pub data CornersSays (bytes : List ℕ) (sizes : EachWay (List ℕ)) (places : EachWay ℕ) : CornersAnswer → Type 0 where
  refused : {refusal : Refusal} → Unsized bytes (OtherSizes bytes sizes) sizes refusal → CornersSays bytes sizes places (Err refusal)
  short : Sized bytes (OtherSizes bytes sizes) sizes → Short (kind_of bytes) places → CornersSays bytes sizes places (Err refusal.ShortOutput)
  placed : Sized bytes (OtherSizes bytes sizes) sizes → ¬ Short (kind_of bytes) places → CornersSays bytes sizes places (Ok (kind_of bytes))

pub data SlackSays (bytes : List ℕ) (sizes : EachWay (List ℕ)) (outline : EachWay ℕ) : SlackAnswer → Type 0 where
  no_slack : {refusal : Refusal} → Unsized bytes (OtherSizes bytes sizes) sizes refusal → SlackSays bytes sizes outline (Err refusal)
  slack_is : Sized bytes (OtherSizes bytes sizes) sizes → {x y : ℤ} → x ≡ slack_of (labels_of bytes) across (sizes across) (outline across)
      → y ≡ slack_of (labels_of bytes) upward (sizes upward) (outline upward) → SlackSays bytes sizes outline (slack_each_way x y)

pub data PlacingSays (bytes : List ℕ) (sizes corners : EachWay (List ℕ)) : PlacingAnswer → Type 0 where
  no_placing : {refusal : Refusal} → Unsized bytes (OtherLists bytes sizes corners) sizes refusal
      → PlacingSays bytes sizes corners (Err refusal)
  broken : Sized bytes (OtherLists bytes sizes corners) sizes → ¬ HonoursAll (labels_of bytes) sizes corners
      → PlacingSays bytes sizes corners (Err refusal.BrokenRelation)
  accepted : Sized bytes (OtherLists bytes sizes corners) sizes → HonoursAll (labels_of bytes) sizes corners
      → PlacingSays bytes sizes corners (Ok tt)

module _ (bytes : List ℕ) (sizes : EachWay (List ℕ)) where
  abbrev n : ℕ
  n = kind_of bytes

  abbrev other : Dec (OtherSizes bytes sizes)
  other = dec_other_length n (lengths_of sizes)

  -- ---- the lowest corners
  module _ (places : EachWay ℕ) where
    -- each answer has its cause
    pub demand1_corners_cause : CornersSays bytes sizes places (corners_answer bytes sizes places)
    demand1_corners_cause = sized_has Err bytes other sizes _ (CornersSays bytes sizes places) (λ refusal cause. refused cause) (go (dec_short n places))
      where
        go : (d : Dec (Short n places)) → Sized bytes (OtherSizes bytes sizes) sizes
            → CornersSays bytes sizes places (ite d (Err refusal.ShortOutput) (Ok n))
        go (yes s) all = short all s
        go (no s) all = placed all s

    -- and an answer with its cause is the answer
    pub demand1_corners_answer : {answer : CornersAnswer} → CornersSays bytes sizes places answer → answer ≡ corners_answer bytes sizes places
    demand1_corners_answer (refused cause) = unsized_refused Err bytes other sizes _ cause
    demand1_corners_answer (short all s) = sym (if_pos (dec_short n places) s _ _) ∙ sized_good Err bytes other sizes _ all
    demand1_corners_answer (placed all s) = sym (if_neg (dec_short n places) s _ _) ∙ sized_good Err bytes other sizes _ all

  -- ---- the slack
  module _ (outline : EachWay ℕ) where
    pub demand1_slack_cause : SlackSays bytes sizes outline (slack_answer bytes sizes outline)
    demand1_slack_cause = sized_has Err bytes other sizes _ (SlackSays bytes sizes outline) (λ refusal cause. no_slack cause) (λ all. slack_is all refl refl)

    pub demand1_slack_answer : {answer : SlackAnswer} → SlackSays bytes sizes outline answer → answer ≡ slack_answer bytes sizes outline
    demand1_slack_answer (no_slack cause) = unsized_refused Err bytes other sizes _ cause
    demand1_slack_answer (slack_is all p q) = (λ i. slack_each_way (p i) (q i)) ∙ sized_good Err bytes other sizes _ all

  -- ---- a placing
  module _ (corners : EachWay (List ℕ)) where
    abbrev others : Dec (OtherLists bytes sizes corners)
    others = dec-⊎ (dec_other_length n (lengths_of sizes)) (dec_other_length n (lengths_of corners))

    abbrev honoured : Dec (HonoursAll (labels_of bytes) sizes corners)
    honoured = dec_honours_all (labels_of bytes) sizes corners

    pub demand1_placing_cause : PlacingSays bytes sizes corners (placing_answer bytes sizes corners)
    demand1_placing_cause = sized_has Err bytes others sizes _ (PlacingSays bytes sizes corners) (λ refusal cause. no_placing cause) (go honoured)
      where
        go : (d : Dec (HonoursAll (labels_of bytes) sizes corners)) → Sized bytes (OtherLists bytes sizes corners) sizes
            → PlacingSays bytes sizes corners (ite d (Ok tt) (Err refusal.BrokenRelation))
        go (yes h) all = accepted all h
        go (no h) all = broken all h

    pub demand1_placing_answer : {answer : PlacingAnswer} → PlacingSays bytes sizes corners answer → answer ≡ placing_answer bytes sizes corners
    demand1_placing_answer (no_placing cause) = unsized_refused Err bytes others sizes _ cause
    demand1_placing_answer (broken all h) = sym (if_neg honoured h _ _) ∙ sized_good Err bytes others sizes _ all
    demand1_placing_answer (accepted all h) = sym (if_pos honoured h _ _) ∙ sized_good Err bytes others sizes _ all

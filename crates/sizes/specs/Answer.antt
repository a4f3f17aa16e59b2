-- What the three calls answer, and what is written then. "Answers: 24 for a list whose length is not n, 25 for a size of 0, 26 for a
-- placing that breaks a relation; they follow 13 in this order, and 15 comes last."
use Rattle.std.specs.Prelude.{List, ◌++◌, ◌≡◌, ℕ, ◌≤◌, ◌<◌, ℤ, drop, Result, Ok, Err}
use Rattle.std.proofs.Math.Logic.{ite}
use Rattle.std.proofs.Math.Decide.{dec_lt}
use Rattle.finite.specs.Decide.{dec-⊎}
use Rattle.record.specs.Read.{kind_of, labels_of}
use Rattle.record.specs.declared.Refusal.{Refusal}
use Rattle.record.specs.declared.Refusal.TheVariants as refusal
use Rattle.sizes.specs.declared.Slack.{Slack}
use Rattle.sizes.specs.Direction.{Direction, across, upward}
use Rattle.sizes.specs.Lists.{EachWay, SomeWay, dec_some_way, lowest_corners, slack_of, dec_honours_all}
use Rattle.sizes.specs.Sized.{dec_other_length, lengths_of, sized}

abbrev pub CornersAnswer : Type 0
CornersAnswer = Result ℕ Refusal

abbrev pub SlackAnswer : Type 0
SlackAnswer = Result Slack Refusal

abbrev pub slack_each_way : (x y : ℤ) → SlackAnswer
slack_each_way x y = Ok (record { across = x; up = y })

abbrev pub PlacingAnswer : Type 0
PlacingAnswer = Result (Unit {0}) Refusal

-- ---- the lowest corners
-- "an output slice too short": it has fewer places than the record has rooms
abbrev pub Short : (n : ℕ) (places : EachWay ℕ) → Type 0
Short n places = SomeWay (λ way. places way < n)

unfoldable pub dec_short : (n : ℕ) (places : EachWay ℕ) → Dec (Short n places)
unfolding dec_some_way dec_lt
dec_short n places = dec_some_way (dec_lt (places across) n) (dec_lt (places upward) n)

-- the answer for a record, the sizes of its rooms and output slices of so many places
abbrev pub corners_answer : (bytes : List ℕ) (sizes : EachWay (List ℕ)) (places : EachWay ℕ) → CornersAnswer
corners_answer bytes sizes places =
    sized Err bytes (dec_other_length (kind_of bytes) (lengths_of sizes)) sizes
    (ite (dec_short (kind_of bytes) places) (Err refusal.ShortOutput)
    (Ok (kind_of bytes)))

-- an output slice after the answer, where it held `before`: the corners by position from the front and "the excess is untouched", or
-- all as it was
abbrev pub corners_after : CornersAnswer → (result before : List ℕ) → List ℕ
corners_after (Ok n) result before = result ++ drop n before
corners_after (Err refusal) result before = before

-- what the call answers for a record and sizes, where the output slices held `before`, and what they hold then
pub record LowestCorners (bytes : List ℕ) (sizes before : EachWay (List ℕ)) (answer : CornersAnswer) (after : EachWay (List ℕ)) : Type 0 where
  pub answered : answer ≡ corners_answer bytes sizes (lengths_of before)
  pub left : (way : Direction) → after way ≡ corners_after answer (lowest_corners (labels_of bytes) way (sizes way)) (before way)

-- a record has at most 255 rooms
abbrev pub Few : CornersAnswer → Type 0
Few (Ok n) = n ≤ 255
Few (Err refusal) = Unit

-- ---- the slack each way
-- the answer for a record, the sizes of its rooms and the sides of an outline
abbrev pub slack_answer : (bytes : List ℕ) (sizes : EachWay (List ℕ)) (outline : EachWay ℕ) → SlackAnswer
slack_answer bytes sizes outline =
    let slack_in : EachWay ℤ = λ way. slack_of (labels_of bytes) way (sizes way) (outline way) in
    sized Err bytes (dec_other_length (kind_of bytes) (lengths_of sizes)) sizes
    (slack_each_way (slack_in across) (slack_in upward))

-- the two numbers that are to hold it, after the answer: the slack each way, or what they held
abbrev pub slack_after : SlackAnswer → (before : EachWay ℤ) → EachWay ℤ
slack_after (Ok slack) before across = slack.across
slack_after (Ok slack) before upward = slack.up
slack_after (Err refusal) before way = before way

-- what a call answers that leaves the slack in two numbers, which held `before`, and what they hold then
pub record SlackIn (bytes : List ℕ) (sizes : EachWay (List ℕ)) (outline : EachWay ℕ) (before : EachWay ℤ) (answer : SlackAnswer) (after : EachWay ℤ) : Type 0 where
  pub answered : answer ≡ slack_answer bytes sizes outline
  pub left : (way : Direction) → after way ≡ slack_after answer before way

-- ---- a placing
-- the answer for a record, the sizes of its rooms and their corners
abbrev pub placing_answer : (bytes : List ℕ) (sizes corners : EachWay (List ℕ)) → PlacingAnswer
placing_answer bytes sizes corners =
    let n = kind_of bytes in
    sized Err bytes (dec-⊎ (dec_other_length n (lengths_of sizes)) (dec_other_length n (lengths_of corners))) sizes
    (ite (dec_honours_all (labels_of bytes) sizes corners) (Ok tt)
    (Err refusal.BrokenRelation))

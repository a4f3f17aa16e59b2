-- M-102 of the question: its relation for a record and two positions is that of every accepted room list which has the record, for the
-- rooms at these positions. "Two rooms in a direct relation always touch", so an answer that says direct says touch. With first and second
-- exchanged it is the opposite side, equally direct, equally touching.
use Rattle.std.specs.Prelude.{Bool, true, false, Result, Ok, Err, List, ◌≢◌, ◌↔◌, ◌≡◌, ℕ, ◌-◌, ◌≤◌, ◌<◌, length}
use Rattle.std.proofs.Common.{inl, inr, sym, ap, ◌∙◌, arith}
use Rattle.std.proofs.Math.Logic.{⊎_swap}
use Rattle.finite.specs.Decide.{Tells, tells_iff, tells_same, told_true, told_false, holds, holds_tells}
use Rattle.record.specs.Labels.{label_at}
use Rattle.record.specs.Read.{kind_of, labels_of}
use Rattle.record.specs.declared.Refusal.{Refusal}
use Rattle.record.proofs.Demand2Read.{readable_only_list}
use Rattle.drawing.specs.declared.Room.{Room}
use Rattle.drawing.specs.declared.Relation.{Relation}
use Rattle.drawing.specs.Side.{converse}
use Rattle.drawing.proofs.SideFacts.{side_exchanged}
use Rattle.drawing.specs.Drawing.{drawing_of}
use Rattle.rooms.specs.Causes.{AcceptedRooms}
use Rattle.rooms.specs.LabelList.{position_of, label_list, record_of_rooms}
use Rattle.rooms.specs.Direct.{Direct, Stands}
use Rattle.rooms.proofs.Stands.{rooms_stand}
use Rattle.rooms.specs.GridFloorplan.{drawing_floorplan}
use Rattle.contacts.specs.Direct.{OnlyThrough, PositionsDirect, dec_positions_direct, relation_of}
use Rattle.contacts.proofs.DirectFacts.{direct_iff_turned, direct→touches}
use Rattle.contacts.specs.Touches.{PositionsTouch}
use Rattle.contacts.specs.DecideTouches.{dec_positions_touch}
use Rattle.contacts.proofs.M101.{m101_touch_symmetric}
use Rattle.contacts.proofs.M102.{m102_direct_or_only_through, m102_rooms_direct_iff_positions_direct}
use Rattle.questions.specs.Answer.{answering, question_answer}
use Rattle.questions.specs.Demand1.{QuestionSays, refused_record, outside, same, related, demand1_question_cause, demand1_question_answer}
use Rattle.questions.specs.OfRooms.{question_of_rooms}
use Rattle.questions.specs.declared.Related.{Related}

-- asked by the record of a room list and the positions of its rooms a and b, the question tells on which side of b the room a stands, and
-- whether "direct, by one segment that holds their facing edges, or only through a chain of more steps"
pub record TellsRelation (rooms : List Room) (a b : ℕ) : Type 0 where
  pub relation : Relation
  pub touch : Bool
  pub answer : question_answer (record_of_rooms rooms) (position_of rooms a) (position_of rooms b) ≡ answering relation touch
  pub stands : Stands rooms relation.side a b
  pub direct : Tells relation.direct (Direct rooms relation.side a b)
  pub through : relation.direct ≡ false → OnlyThrough rooms relation.side a b

-- so it is in every accepted room list
pub m102_question_tells_relation : (rooms : List Room) → AcceptedRooms rooms → (a b : ℕ) → a < length rooms → b < length rooms → a ≢ b
    → TellsRelation rooms a b
m102_question_tells_relation rooms accepted a b ha hb differ = record {
  relation = relation;
  touch = holds (dec_positions_touch (label_list rooms) (position_of rooms a) (position_of rooms b));
  answer = question_of_rooms rooms accepted a b ha hb differ;
  stands = stands;
  direct = direct;
  through = λ e. elim (m102_direct_or_only_through rooms accepted relation.side a b stands) [
    | inl d ↦ absurd (told_false _ relation.direct e direct d)
    | inr only ↦ only
  ];
}
  where
    relation : Relation
    relation = relation_of (label_list rooms) (position_of rooms a) (position_of rooms b)

    stands : Stands rooms relation.side a b
    stands = rooms_stand rooms accepted a b ha hb differ

    iff : Direct rooms relation.side a b ↔ PositionsDirect (label_list rooms) relation.side (position_of rooms a) (position_of rooms b)
    iff = m102_rooms_direct_iff_positions_direct rooms accepted relation.side a b ha hb

    direct : Tells relation.direct (Direct rooms relation.side a b)
    direct = tells_iff _ _ relation.direct iff.1 iff.0
        (holds_tells (dec_positions_direct (label_list rooms) relation.side (position_of rooms a) (position_of rooms b)))

-- ---- direct, so touching
abbrev pub DirectTouches : Result Related Refusal → Type 0
DirectTouches (Ok told) = told.relation.direct ≡ true → told.touch ≡ true
DirectTouches (Err refusal) = Unit

pub m102_direct_answer_touches : (bytes : List ℕ) (first second : ℕ) → DirectTouches (question_answer bytes first second)
m102_direct_answer_touches bytes first second = go (demand1_question_cause bytes first second)
  where
    go : {answer : Result Related Refusal} → QuestionSays bytes first second answer → DirectTouches answer
    go (refused_record cause) = tt
    go (outside all o) = tt
    go (same all o e) = tt
    go (related {relation} {touch} all o e s d t) = λ direct.
        let list = readable_only_list bytes all in
        let kind : kind_of bytes ≢ 0 = λ z. all.kind (inr z) in
        let some : 1 ≤ length (labels_of bytes) = omega (arith, list.size, kind) in
        let floorplan = drawing_floorplan (labels_of bytes) list.baxter.each_once some in
        let stand = told_true _ relation.direct direct d in
        tells_same (PositionsTouch (labels_of bytes) first second) touch true t
        (direct→touches (drawing_of (labels_of bytes)) floorplan relation.side (first - 1) (second - 1) stand)

-- ---- first and second exchanged
-- the opposite side, equally direct, equally touching
abbrev pub exchanged : Result Related Refusal → Result Related Refusal
exchanged (Ok told) = answering (record { side = converse told.relation.side; direct = told.relation.direct }) told.touch
exchanged (Err refusal) = Err refusal

pub m102_question_exchanged : (bytes : List ℕ) (first second : ℕ)
    → question_answer bytes second first ≡ exchanged (question_answer bytes first second)
m102_question_exchanged bytes first second =
    sym (demand1_question_answer bytes second first (turned (demand1_question_cause bytes first second)))
  where
    labels : List ℕ
    labels = labels_of bytes

    turned : {answer : Result Related Refusal} → QuestionSays bytes first second answer → QuestionSays bytes second first (exchanged answer)
    turned (refused_record cause) = refused_record cause
    turned (outside all o) = outside all (⊎_swap o)
    turned (same all o e) = same all (λ p. o (⊎_swap p)) (sym e)
    turned (related {relation} {touch} all o differ s d t) =
        let iff = direct_iff_turned (drawing_of labels) relation.side (first - 1) (second - 1) in
        let symmetric = m101_touch_symmetric (drawing_of labels) in
        related all (λ p. o (⊎_swap p)) (λ e. differ (sym e))
        (ap converse s ∙ sym (side_exchanged (label_at labels) first second differ))
        (tells_iff _ _ relation.direct iff.0 iff.1 d)
        (tells_iff _ _ touch (symmetric (first - 1) (second - 1)) (symmetric (second - 1) (first - 1)) t)

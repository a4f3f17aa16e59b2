-- The question asked by the record of an accepted room list and the positions of two of its rooms: it answers from the label list.
use Rattle.std.specs.Prelude.{List, ◌≢◌, ◌⊎◌, ◌≡◌, refl, ℕ, ◌<◌, length, Result}
use Rattle.std.proofs.Common.{inl, inr, sym, subst, arith}
use Rattle.finite.specs.Decide.{holds, holds_tells}
use Rattle.record.specs.Read.{kind_of, labels_of}
use Rattle.record.specs.Checked.{Readable}
use Rattle.record.specs.declared.Refusal.{Refusal}
use Rattle.drawing.specs.declared.Room.{Room}
use Rattle.rooms.specs.Causes.{AcceptedRooms}
use Rattle.rooms.specs.LabelList.{position_of, label_list, record_of_rooms}
use Rattle.rooms.specs.Ranks.{OneToN}
use Rattle.rooms.proofs.LabelFacts.{positions_are_1_to_n}
use Rattle.rooms.proofs.Demand3.{record_of_rooms_readable, label_list_back, kind_of_rooms}
use Rattle.contacts.specs.Direct.{relation_of, dec_positions_direct}
use Rattle.contacts.specs.DecideTouches.{dec_positions_touch}
use Rattle.questions.specs.Answer.{Outside, answering, question_answer}
use Rattle.questions.specs.Demand1.{related, demand1_question_answer}
use Rattle.questions.specs.declared.Related.{Related}

-- what is answered for two positions of a label list
abbrev pub answer_for : (labels : List ℕ) (first second : ℕ) → Result Related Refusal
answer_for labels first second = answering (relation_of labels first second) (holds (dec_positions_touch labels first second))

pub question_of_rooms : (rooms : List Room) → AcceptedRooms rooms → (a b : ℕ) → a < length rooms → b < length rooms → a ≢ b
    → question_answer (record_of_rooms rooms) (position_of rooms a) (position_of rooms b)
    ≡ answer_for (label_list rooms) (position_of rooms a) (position_of rooms b)
question_of_rooms rooms accepted a b ha hb differ =
    subst (λ (list : List ℕ). question_answer bytes first second ≡ answer_for list first second) (sym labels)
    (sym (demand1_question_answer bytes first second (related readable inside (λ e. differ (at.once a b ha hb e)) refl
    (holds_tells (dec_positions_direct (labels_of bytes) (relation_of (labels_of bytes) first second).side first second))
    (holds_tells (dec_positions_touch (labels_of bytes) first second)))))
  where
    bytes : List ℕ
    bytes = record_of_rooms rooms

    first : ℕ
    first = position_of rooms a

    second : ℕ
    second = position_of rooms b

    readable : Readable bytes
    readable = record_of_rooms_readable rooms accepted

    labels : label_list rooms ≡ labels_of bytes
    labels = label_list_back rooms accepted

    kind : kind_of bytes ≡ length rooms
    kind = kind_of_rooms rooms accepted

    at : OneToN (position_of rooms) (length rooms)
    at = positions_are_1_to_n rooms accepted

    inside : ¬ (Outside first (kind_of bytes) ⊎ Outside second (kind_of bytes))
    inside outside = elim outside [
      | inl o ↦ elim o [ inl e ↦ omega (arith, at.range a ha) | inr l ↦ omega (arith, at.range a ha, kind) ]
      | inr o ↦ elim o [ inl e ↦ omega (arith, at.range b hb) | inr l ↦ omega (arith, at.range b hb, kind) ]
    ]

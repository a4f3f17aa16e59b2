-- M-101 of the question: its answer for a record and two positions is that of every accepted room list which has the record, for the rooms
-- at these positions.
use Rattle.std.specs.Prelude.{Bool, List, ◌≢◌, ◌↔◌, ◌≡◌, ℕ, ◌<◌, length}
use Rattle.finite.specs.Decide.{Tells, tells_iff, holds, holds_tells}
use Rattle.drawing.specs.declared.Room.{Room}
use Rattle.drawing.specs.declared.Relation.{Relation}
use Rattle.rooms.specs.Causes.{AcceptedRooms}
use Rattle.rooms.specs.LabelList.{position_of, label_list, record_of_rooms}
use Rattle.contacts.specs.Direct.{relation_of}
use Rattle.contacts.specs.Touches.{Touches, PositionsTouch}
use Rattle.contacts.specs.DecideTouches.{dec_positions_touch}
use Rattle.contacts.proofs.M101.{m101_rooms_touch_iff_positions_touch}
use Rattle.questions.specs.Answer.{answering, question_answer}
use Rattle.questions.specs.OfRooms.{question_of_rooms}

-- asked by the record of a room list and the positions of its rooms a and b, the question tells whether these two touch
pub record TellsTouch (rooms : List Room) (a b : ℕ) : Type 0 where
  pub relation : Relation
  pub touch : Bool
  pub answer : question_answer (record_of_rooms rooms) (position_of rooms a) (position_of rooms b) ≡ answering relation touch
  pub tells : Tells touch (Touches rooms a b)

-- so it is in every accepted room list
pub m101_question_tells_touch : (rooms : List Room) → AcceptedRooms rooms → (a b : ℕ) → a < length rooms → b < length rooms → a ≢ b
    → TellsTouch rooms a b
m101_question_tells_touch rooms accepted a b ha hb differ = record {
  relation = relation_of (label_list rooms) (position_of rooms a) (position_of rooms b);
  touch = holds positions;
  answer = question_of_rooms rooms accepted a b ha hb differ;
  tells = tells_iff _ _ (holds positions) iff.1 iff.0 (holds_tells positions);
}
  where
    positions : Dec (PositionsTouch (label_list rooms) (position_of rooms a) (position_of rooms b))
    positions = dec_positions_touch (label_list rooms) (position_of rooms a) (position_of rooms b)

    iff : Touches rooms a b ↔ PositionsTouch (label_list rooms) (position_of rooms a) (position_of rooms b)
    iff = m101_rooms_touch_iff_positions_touch rooms accepted a b ha hb

-- Demand 1 for room lists: "either its result or one of the numbered refusals, in the stated order". "A cause found gives its number, and
-- no number comes without its cause."
use Rattle.std.specs.Prelude.{List, ◌≡◌, ℕ, length, Result, Ok, Err}
use Rattle.std.proofs.Math.Logic.{ite, if_pos, if_neg}
use Rattle.std.proofs.Common.{sym, ◌∙◌}
use Rattle.record.specs.Causes.{BadCount, dec_count}
use Rattle.record.specs.declared.Refusal.{Refusal}
use Rattle.record.specs.declared.Refusal.TheVariants as refusal
use Rattle.drawing.specs.declared.Room.{Room}
use Rattle.rooms.specs.LabelList.{record_of_rooms}
use Rattle.rooms.specs.Causes.{RoomSize, Overlap, Uncovered, FourMeet, NameTwice, AcceptedRooms}
use Rattle.rooms.specs.DecideCauses.{dec_room_size, dec_overlap, dec_uncovered, dec_four_meet, dec_name_twice}
use Rattle.entering.specs.Answer.{Short, dec_short, rooms_answer}

-- an answer with its cause, and without the causes that the order names before it
pub data RoomsSays (rooms : List Room) (bytes labels positions names : ℕ) : Result ℕ Refusal → Type 0 where
  count : BadCount (length rooms) → RoomsSays rooms bytes labels positions names (Err refusal.Count)
  size : ¬ BadCount (length rooms) → RoomSize rooms → RoomsSays rooms bytes labels positions names (Err refusal.RoomSize)
  overlap : ¬ BadCount (length rooms) → ¬ RoomSize rooms → Overlap rooms
      → RoomsSays rooms bytes labels positions names (Err refusal.Overlap)
  uncovered : ¬ BadCount (length rooms) → ¬ RoomSize rooms → ¬ Overlap rooms → Uncovered rooms
      → RoomsSays rooms bytes labels positions names (Err refusal.Uncovered)
  four_meet : ¬ BadCount (length rooms) → ¬ RoomSize rooms → ¬ Overlap rooms → ¬ Uncovered rooms → FourMeet rooms
      → RoomsSays rooms bytes labels positions names (Err refusal.FourMeet)
  name_twice : ¬ BadCount (length rooms) → ¬ RoomSize rooms → ¬ Overlap rooms → ¬ Uncovered rooms → ¬ FourMeet rooms → NameTwice rooms
      → RoomsSays rooms bytes labels positions names (Err refusal.NameTwice)
  short : AcceptedRooms rooms → Short rooms bytes labels positions names
      → RoomsSays rooms bytes labels positions names (Err refusal.ShortOutput)
  wrote : AcceptedRooms rooms → ¬ Short rooms bytes labels positions names
      → RoomsSays rooms bytes labels positions names (Ok (length (record_of_rooms rooms)))

module _ (rooms : List Room) (capacity labels positions names : ℕ) where
  abbrev after_causes : Result ℕ Refusal
  after_causes = ite (dec_short rooms capacity labels positions names) (Err refusal.ShortOutput) (Ok (length (record_of_rooms rooms)))

  -- each answer has its cause
  pub demand1_rooms_cause : RoomsSays rooms capacity labels positions names (rooms_answer rooms capacity labels positions names)
  demand1_rooms_cause = go (dec_count (length rooms)) (dec_room_size rooms) (dec_overlap rooms) (dec_uncovered rooms) (dec_four_meet rooms)
      (dec_name_twice rooms) (dec_short rooms capacity labels positions names)
    where
      go : (a : Dec (BadCount (length rooms))) (b : Dec (RoomSize rooms)) (c : Dec (Overlap rooms)) (d : Dec (Uncovered rooms))
          (e : Dec (FourMeet rooms)) (t : Dec (NameTwice rooms)) (f : Dec (Short rooms capacity labels positions names))
          → RoomsSays rooms capacity labels positions names
          (ite a (Err refusal.Count)
          (ite b (Err refusal.RoomSize)
          (ite c (Err refusal.Overlap)
          (ite d (Err refusal.Uncovered)
          (ite e (Err refusal.FourMeet)
          (ite t (Err refusal.NameTwice)
          (ite f (Err refusal.ShortOutput)
          (Ok (length (record_of_rooms rooms))))))))))
      go (yes a) b c d e t f = count a
      go (no a) (yes b) c d e t f = size a b
      go (no a) (no b) (yes c) d e t f = overlap a b c
      go (no a) (no b) (no c) (yes d) e t f = uncovered a b c d
      go (no a) (no b) (no c) (no d) (yes e) t f = four_meet a b c d e
      go (no a) (no b) (no c) (no d) (no e) (yes t) f = name_twice a b c d e t
      go (no a) (no b) (no c) (no d) (no e) (no t) (yes f) =
          short (record { count = a; size = b; overlap = c; uncovered = d; four_meet = e; names = t }) f
      go (no a) (no b) (no c) (no d) (no e) (no t) (no f) =
          wrote (record { count = a; size = b; overlap = c; uncovered = d; four_meet = e; names = t }) f

  -- past the causes of an accepted list
  accepted_answer : AcceptedRooms rooms → rooms_answer rooms capacity labels positions names ≡ after_causes
  accepted_answer k =
      if_neg (dec_count (length rooms)) k.count _ _ ∙ if_neg (dec_room_size rooms) k.size _ _
      ∙ if_neg (dec_overlap rooms) k.overlap _ _ ∙ if_neg (dec_uncovered rooms) k.uncovered _ _
      ∙ if_neg (dec_four_meet rooms) k.four_meet _ _ ∙ if_neg (dec_name_twice rooms) k.names _ _

  -- and an answer with its cause is the answer
  pub demand1_rooms_answer : {answer : Result ℕ Refusal} → RoomsSays rooms capacity labels positions names answer
      → answer ≡ rooms_answer rooms capacity labels positions names
  demand1_rooms_answer (count a) = sym (if_pos (dec_count (length rooms)) a _ _)
  demand1_rooms_answer (size a b) = sym (if_neg (dec_count (length rooms)) a _ _ ∙ if_pos (dec_room_size rooms) b _ _)
  demand1_rooms_answer (overlap a b c) =
      sym (if_neg (dec_count (length rooms)) a _ _ ∙ if_neg (dec_room_size rooms) b _ _ ∙ if_pos (dec_overlap rooms) c _ _)
  demand1_rooms_answer (uncovered a b c d) =
      sym (if_neg (dec_count (length rooms)) a _ _ ∙ if_neg (dec_room_size rooms) b _ _ ∙ if_neg (dec_overlap rooms) c _ _
      ∙ if_pos (dec_uncovered rooms) d _ _)
  demand1_rooms_answer (four_meet a b c d e) =
      sym (if_neg (dec_count (length rooms)) a _ _ ∙ if_neg (dec_room_size rooms) b _ _ ∙ if_neg (dec_overlap rooms) c _ _
      ∙ if_neg (dec_uncovered rooms) d _ _ ∙ if_pos (dec_four_meet rooms) e _ _)
  demand1_rooms_answer (name_twice a b c d e t) =
      sym (if_neg (dec_count (length rooms)) a _ _ ∙ if_neg (dec_room_size rooms) b _ _ ∙ if_neg (dec_overlap rooms) c _ _
      ∙ if_neg (dec_uncovered rooms) d _ _ ∙ if_neg (dec_four_meet rooms) e _ _ ∙ if_pos (dec_name_twice rooms) t _ _)
  demand1_rooms_answer (short k s) = sym (accepted_answer k ∙ if_pos (dec_short rooms capacity labels positions names) s _ _)
  demand1_rooms_answer (wrote k s) = sym (accepted_answer k ∙ if_neg (dec_short rooms capacity labels positions names) s _ _)

-- What Rooms in answers, and what the output slices then hold. "Order: rooms 1, 2, 3, 4, 5, 15", and "20 for one nonzero name on two rooms,
-- after 5 and before 15" (M-106). "Rooms in: record, label and position of each room in list order, and the record's length." "Reading a
-- room list returns the name at each position" (M-106).
use Rattle.std.specs.Prelude.{List, ◌++◌, ◌⊎◌, ◌≡◌, ℕ, suc, ◌<◌, length, drop, Result, Ok, Err}
use Rattle.std.proofs.Math.Logic.{ite}
use Rattle.std.proofs.Math.Decide.{dec_lt}
use Rattle.finite.specs.Decide.{dec-⊎}
use Rattle.finite.specs.Table.{table}
use Rattle.record.specs.Causes.{dec_count}
use Rattle.record.specs.declared.Refusal.{Refusal}
use Rattle.record.specs.declared.Refusal.TheVariants as refusal
use Rattle.drawing.specs.declared.Room.{Room}
use Rattle.rooms.specs.Outline.{room_in}
use Rattle.rooms.specs.LabelList.{label_of, position_of, room_at_position, record_of_rooms}
use Rattle.rooms.specs.DecideCauses.{dec_room_size, dec_overlap, dec_uncovered, dec_four_meet, dec_name_twice}

-- "an output slice too short": for the record, or for a label, a position or a name of each room
abbrev pub Short : List Room → (bytes labels positions names : ℕ) → Type 0
Short rooms bytes labels positions names =
    (bytes < length (record_of_rooms rooms)) ⊎ ((labels < length rooms) ⊎ ((positions < length rooms) ⊎ (names < length rooms)))

unfoldable pub dec_short : (rooms : List Room) (bytes labels positions names : ℕ) → Dec (Short rooms bytes labels positions names)
unfolding dec-⊎ dec_lt
dec_short rooms bytes labels positions names =
    dec-⊎ (dec_lt bytes (length (record_of_rooms rooms)))
    (dec-⊎ (dec_lt labels (length rooms)) (dec-⊎ (dec_lt positions (length rooms)) (dec_lt names (length rooms))))

-- the answer for a room list and output slices of so many places
abbrev pub rooms_answer : List Room → (bytes labels positions names : ℕ) → Result ℕ Refusal
rooms_answer rooms bytes labels positions names =
    ite (dec_count (length rooms)) (Err refusal.Count)
    (ite (dec_room_size rooms) (Err refusal.RoomSize)
    (ite (dec_overlap rooms) (Err refusal.Overlap)
    (ite (dec_uncovered rooms) (Err refusal.Uncovered)
    (ite (dec_four_meet rooms) (Err refusal.FourMeet)
    (ite (dec_name_twice rooms) (Err refusal.NameTwice)
    (ite (dec_short rooms bytes labels positions names) (Err refusal.ShortOutput)
    (Ok (length (record_of_rooms rooms)))))))))

-- "label and position of each room in list order"
abbrev pub labels_of_rooms : List Room → List ℕ
labels_of_rooms rooms = table (label_of rooms) (length rooms)

abbrev pub positions_of_rooms : List Room → List ℕ
positions_of_rooms rooms = table (position_of rooms) (length rooms)

-- "the name at each position": that of the room which stands there
abbrev pub names_of_rooms : List Room → List ℕ
names_of_rooms rooms = table (λ i. (room_in rooms (room_at_position rooms (suc i))).name) (length rooms)

-- an output slice after the answer, where it held `before`: the result from the front and "the excess is untouched", or all as it was
abbrev pub written : Result ℕ Refusal → (result before : List ℕ) → List ℕ
written (Ok size) result before = result ++ drop (length result) before
written (Err refusal) result before = before

-- the four output slices
pub record Slices : Type 0 where
  pub bytes : List ℕ
  pub labels : List ℕ
  pub positions : List ℕ
  pub names : List ℕ

abbrev pub slices : (bytes labels positions names : List ℕ) → Slices
slices bytes labels positions names = record { bytes = bytes; labels = labels; positions = positions; names = names }

-- what Rooms in answers for these rooms and output slices that held `before`, and what the slices hold then
pub record RoomsIn (rooms : List Room) (before : Slices) (answer : Result ℕ Refusal) (after : Slices) : Type 0 where
  pub answered : answer ≡ rooms_answer rooms (length before.bytes) (length before.labels) (length before.positions)
      (length before.names)
  pub record_is : after.bytes ≡ written answer (record_of_rooms rooms) before.bytes
  pub labels_are : after.labels ≡ written answer (labels_of_rooms rooms) before.labels
  pub positions_are : after.positions ≡ written answer (positions_of_rooms rooms) before.positions
  pub names_are : after.names ≡ written answer (names_of_rooms rooms) before.names

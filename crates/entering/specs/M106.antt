-- M-106, names on rooms, of what Rooms in answers and leaves: "Reading a room list returns the name at each position. The record holds no
-- names". Two lists that differ in names alone get the same record, labels and positions unless 20 refuses one of them.
use Rattle.std.specs.Prelude.{List, ◌++◌, ◌⊎◌, ◌≢◌, ◌≡◌, refl, ℕ, suc, ◌-◌, ◌<◌, length, drop, Result, Ok, Err}
use Rattle.std.proofs.Common.{sym, ap, subst, subst₂, ◌∙◌, arith}
use Rattle.finite.specs.Table.{table, table_same, get_d_table}
use Rattle.record.specs.Causes.{BadCount}
use Rattle.record.specs.Labels.{label_at}
use Rattle.record.specs.declared.Refusal.{Refusal}
use Rattle.record.specs.declared.Refusal.TheVariants as refusal
use Rattle.drawing.specs.declared.Room.{Room}
use Rattle.rooms.specs.Outline.{room_in}
use Rattle.rooms.specs.Causes.{AcceptedRooms}
use Rattle.rooms.specs.LabelList.{label_of, position_of, room_at_position, record_of_rooms}
use Rattle.rooms.proofs.LabelFacts.{positions_are_1_to_n}
use Rattle.rooms.specs.PlanOf.{accepted→floorplan}
use Rattle.rooms.proofs.Ranks.{room_of_its_position}
use Rattle.rooms.specs.SameButNames.{SameButNames, same_but_names_sym, same_room_size, same_overlap, same_uncovered, same_four_meet, same_accepted}
use Rattle.rooms.proofs.M106.{m106_same_label, m106_same_position, m106_same_record}
use Rattle.entering.specs.Answer.{Short, rooms_answer, labels_of_rooms, positions_of_rooms, names_of_rooms, written, Slices, RoomsIn}
use Rattle.entering.specs.Demand1.{RoomsSays, count, size, overlap, uncovered, four_meet, name_twice, short, wrote, demand1_rooms_cause, demand1_rooms_answer}

-- ---- "the name at each position"
-- at the position of each room stands its name
pub m106_name_at_its_position : (rooms : List Room) → AcceptedRooms rooms → (i : ℕ) → i < length rooms
    → label_at (names_of_rooms rooms) (position_of rooms i) ≡ (room_in rooms i).name
m106_name_at_its_position rooms accepted i h =
    let (lo, hi) = (positions_are_1_to_n rooms accepted).range i h in
    let e : suc (position_of rooms i - 1) ≡ position_of rooms i = omega arith in
    ap (label_at (names_of_rooms rooms)) (sym e)
    ∙ get_d_table (λ k. (room_in rooms (room_at_position rooms (suc k))).name) (length rooms) (position_of rooms i - 1) 0 (omega arith)
    ∙ ap (λ (p : ℕ). (room_in rooms (room_at_position rooms p)).name) e
    ∙ ap (λ (a : ℕ). (room_in rooms a).name) (room_of_its_position rooms (accepted→floorplan rooms accepted) i h)

-- ---- lists that differ in names alone
module _ (rooms others : List Room) (same : SameButNames rooms others) (bytes labels positions names : ℕ)
    (others_not_20 : rooms_answer others bytes labels positions names ≢ Err refusal.NameTwice) where
  back : SameButNames others rooms
  back = same_but_names_sym same

  -- the other list has none of the causes either: not 20, since that would be its answer
  also_accepted : AcceptedRooms rooms → AcceptedRooms others
  also_accepted k = same_accepted same k (λ twice. others_not_20 (sym (demand1_rooms_answer others bytes labels positions names (name_twice
      (λ c. k.count (subst BadCount back.count c)) (λ c. k.size (same_room_size back c)) (λ c. k.overlap (same_overlap back c))
      (λ c. k.uncovered (same_uncovered back c)) (λ c. k.four_meet (same_four_meet back c)) twice))))

  record_same : AcceptedRooms rooms → record_of_rooms rooms ≡ record_of_rooms others
  record_same k = m106_same_record rooms others same k (also_accepted k)

  -- for so many bytes and rooms a slice is too short
  abbrev TooShort : (total n : ℕ) → Type 0
  TooShort total n = (bytes < total) ⊎ ((labels < n) ⊎ ((positions < n) ⊎ (names < n)))

  short_same : AcceptedRooms rooms → Short rooms bytes labels positions names → Short others bytes labels positions names
  short_same k = subst₂ TooShort (ap length (record_same k)) same.count

  short_back : AcceptedRooms rooms → Short others bytes labels positions names → Short rooms bytes labels positions names
  short_back k = subst₂ TooShort (ap length (sym (record_same k))) back.count

  -- an answer other than 20 that is right for the one list is right for the other
  says_same : {answer : Result ℕ Refusal} → RoomsSays rooms bytes labels positions names answer → answer ≢ Err refusal.NameTwice
      → RoomsSays others bytes labels positions names answer
  says_same (count a) not-20 = count (subst BadCount same.count a)
  says_same (size a b) not-20 = size (λ c. a (subst BadCount back.count c)) (same_room_size same b)
  says_same (overlap a b c) not-20 =
      overlap (λ x. a (subst BadCount back.count x)) (λ x. b (same_room_size back x)) (same_overlap same c)
  says_same (uncovered a b c d) not-20 =
      uncovered (λ x. a (subst BadCount back.count x)) (λ x. b (same_room_size back x)) (λ x. c (same_overlap back x))
      (same_uncovered same d)
  says_same (four_meet a b c d e) not-20 =
      four_meet (λ x. a (subst BadCount back.count x)) (λ x. b (same_room_size back x)) (λ x. c (same_overlap back x))
      (λ x. d (same_uncovered back x)) (same_four_meet same e)
  says_same (name_twice a b c d e t) not-20 = absurd (not-20 refl)
  says_same (short k s) not-20 = short (also_accepted k) (short_same k s)
  says_same (wrote k s) not-20 =
      subst (λ (result : List ℕ). RoomsSays others bytes labels positions names (Ok (length result))) (sym (record_same k))
      (wrote (also_accepted k) (λ short. s (short_back k short)))

  -- and what is written is the same where it is the same for accepted lists
  written_same : {answer : Result ℕ Refusal} → RoomsSays rooms bytes labels positions names answer → (result other before : List ℕ)
      → (AcceptedRooms rooms → result ≡ other) → written answer result before ≡ written answer other before
  written_same (count a) result other before e = refl
  written_same (size a b) result other before e = refl
  written_same (overlap a b c) result other before e = refl
  written_same (uncovered a b c d) result other before e = refl
  written_same (four_meet a b c d f) result other before e = refl
  written_same (name_twice a b c d f t) result other before e = refl
  written_same (short k s) result other before e = refl
  written_same (wrote k s) result other before e = ap (λ (list : List ℕ). list ++ drop (length list) before) (e k)

-- they "get the same record, labels and positions unless 20 refuses one of them", and the same answer
pub m106_same_outcome : (rooms others : List Room) → SameButNames rooms others
    → (before after other_After : Slices) (answer other : Result ℕ Refusal)
    → RoomsIn rooms before answer after → RoomsIn others before other other_After
    → answer ≢ Err refusal.NameTwice → other ≢ Err refusal.NameTwice
    → (answer ≡ other) × (after.bytes ≡ other_After.bytes) × (after.labels ≡ other_After.labels)
    × (after.positions ≡ other_After.positions)
m106_same_outcome rooms others same before after other_After answer other did other-did not-20 other-not-20 = (
  answers,
  did.record_is ∙ same_written (record_of_rooms rooms) (record_of_rooms others) before.bytes
      (λ k. m106_same_record rooms others same k (also k)) ∙ sym other-did.record_is,
  did.labels_are ∙ same_written (labels_of_rooms rooms) (labels_of_rooms others) before.labels
      (λ k. by_room (label_of rooms) (label_of others) (m106_same_label rooms others same k (also k))) ∙ sym other-did.labels_are,
  did.positions_are ∙ same_written (positions_of_rooms rooms) (positions_of_rooms others) before.positions
      (λ k. by_room (position_of rooms) (position_of others) (m106_same_position rooms others same k (also k)))
      ∙ sym other-did.positions_are,
)
  where
    b : ℕ
    b = length before.bytes

    l : ℕ
    l = length before.labels

    p : ℕ
    p = length before.positions

    n : ℕ
    n = length before.names

    said : RoomsSays rooms b l p n (rooms_answer rooms b l p n)
    said = demand1_rooms_cause rooms b l p n

    one_not_20 : rooms_answer rooms b l p n ≢ Err refusal.NameTwice
    one_not_20 e = not-20 (did.answered ∙ e)

    others_not_20 : rooms_answer others b l p n ≢ Err refusal.NameTwice
    others_not_20 e = other-not-20 (other-did.answered ∙ e)

    also : AcceptedRooms rooms → AcceptedRooms others
    also = also_accepted rooms others same b l p n others_not_20

    answers : answer ≡ other
    answers =
        did.answered ∙ demand1_rooms_answer others b l p n (says_same rooms others same b l p n others_not_20 said one_not_20)
        ∙ sym other-did.answered

    same_written : (result other_result held : List ℕ) → (AcceptedRooms rooms → result ≡ other_result)
        → written answer result held ≡ written other other_result held
    same_written result other_result held e =
        ap (λ (a : Result ℕ Refusal). written a result held) did.answered
        ∙ written_same rooms others same b l p n others_not_20 said result other_result held e
        ∙ ap (λ (a : Result ℕ Refusal). written a other_result held) (sym did.answered ∙ answers)

    by_room : (f g : ℕ → ℕ) → ((i : ℕ) → i < length rooms → f i ≡ g i) → table f (length rooms) ≡ table g (length others)
    by_room f g e = table_same f g (length rooms) e ∙ ap (table g) same.count

-- What a refusal leaves, and what is written for an accepted room list once the four slices are long enough: its label list is Baxter, so
-- Labels in writes its record, and nothing else can come back.
use Rattle.std.specs.Prelude.{List, ◌++◌, ◌≡◌, refl, ℕ, suc, ◌+◌, ◌*◌, ◌/◌, ◌≤◌, ◌<◌, length, get_or, drop, Result, Ok, Err}
use Rattle.std.proofs.Common.{inl, inr, sym, ap, ◌∙◌, arith}
use Rattle.std.proofs.Math.ListN.{get_or-append}
use Rattle.finite.specs.Decide.{le_or_lt}
use Rattle.finite.specs.Table.{table, table_same, length_table, get_d_table}
use Rattle.finite.specs.Fill.{filled}
use Rattle.record.specs.Record.{record_of}
use Rattle.record.specs.Answer.{labels_answer, record_after}
use Rattle.record.proofs.Demand2.{record_length, demand2_accepts_baxter}
use Rattle.record.specs.declared.Refusal.{Refusal}
use Rattle.drawing.specs.declared.Room.{Room}
use Rattle.rooms.specs.Causes.{AcceptedRooms}
use Rattle.rooms.specs.Outline.{room_in}
use Rattle.rooms.specs.LabelList.{label_of, position_of, room_at_position, label_list, record_of_rooms}
use Rattle.rooms.specs.PlanOf.{accepted→floorplan}
use Rattle.rooms.proofs.Ranks.{room_of_its_position}
use Rattle.rooms.proofs.Demand3.{BaxterOf, rooms_give_baxter}
use Rattle.orders.specs.InOrder.{ByPosition, Numbered, LabelsInOrder}
use Rattle.entering.specs.Answer.{names_of_rooms, Short, Slices, slices, RoomsIn}
use Rattle.entering.specs.Demand1.{RoomsSays, wrote, demand1_rooms_answer}

-- a refusal with its cause leaves the slices as they were
pub refused : {rooms : List Room} {refusal : Refusal} (before : Slices)
    → RoomsSays rooms (length before.bytes) (length before.labels) (length before.positions) (length before.names)
    (Err refusal)
    → RoomsIn rooms before (Err refusal) before
refused {rooms} before says = record {
  answered = demand1_rooms_answer rooms _ _ _ _ says;
  record_is = refl;
  labels_are = refl;
  positions_are = refl;
  names_are = refl;
}

record_is : (rooms : List Room) → record_of (label_list rooms) ≡ record_of_rooms rooms
unfolding record_of_rooms
record_is rooms = refl

module _ (rooms : List Room) (accepted : AcceptedRooms rooms) where
  b : BaxterOf rooms
  b = rooms_give_baxter rooms accepted

  -- the record's length, as the code tests it
  pub size_is : length (record_of_rooms rooms) ≡ 1 + (3 * length rooms + 4) / 8
  size_is = sym (ap length (record_is rooms)) ∙ record_length (label_list rooms) ∙ omega (arith, b.size, b.some)

  -- the label list, of labels that stand at the front of a slice and the rooms by position
  pub listed_from : {n : ℕ} {by before labels others positions : List ℕ} → Numbered rooms n by before labels others positions
      → n ≡ length rooms → length by ≡ n → n ≤ length labels → LabelsInOrder rooms labels by
  listed_from {n} {by} {before} g many size places = record {
    accepted = accepted;
    count = sym (size ∙ many);
    labels_places = omega arith;
    labels_are = λ i h. ap (λ (xs : List ℕ). get_or xs i 0) g.labels_are ∙ at i (omega arith);
    by_position = rw size g.by_position;
  }
    where
      at : (i : ℕ) → i < n → get_or (filled (label_of rooms) n before) i 0 ≡ label_of rooms i
      at i h = get_or-append (table (label_of rooms) n) (drop n before) 0 i (omega (arith, length_table (label_of rooms) n))
          ∙ get_d_table (label_of rooms) n i 0 h

  -- a number of each room, from the front of a slice
  each_front : (number : ℕ → ℕ) (n : ℕ) (before : List ℕ) → n ≡ length rooms
      → filled number n before ≡ table number (length rooms) ++ drop (length (table number (length rooms))) before
  each_front number n before e = λ i. table number (e i) ++ drop ((e ∙ sym (length_table number (length rooms))) i) before

  -- the room that stands at a position
  at_position : {n : ℕ} (by : List ℕ) → ByPosition rooms n by → n ≡ length rooms → (k : ℕ) → k < n
      → get_or by k 0 ≡ room_at_position rooms (suc k)
  at_position by order many k h =
      let (inside, position) = order k h in
      let e : position_of rooms (get_or by k 0) ≡ suc k = omega arith in
      sym (room_of_its_position rooms (accepted→floorplan rooms accepted) (get_or by k 0) (omega arith)) ∙ ap (room_at_position rooms) e

  -- the names of the rooms by position, from the front of a slice
  names_front : (n : ℕ) (by before : List ℕ) (name : ℕ → ℕ) → ByPosition rooms n by → n ≡ length rooms
      → ((k : ℕ) → k < n → name k ≡ (room_in rooms (get_or by k 0)).name)
      → filled name n before ≡ names_of_rooms rooms ++ drop (length (names_of_rooms rooms)) before
  names_front n by before name order many are =
      ap (λ (part : List ℕ). part ++ drop n before) (table_same name name_at n
      (λ k h. are k h ∙ ap (λ (a : ℕ). (room_in rooms a).name) (at_position by order many k h))) ∙ each_front name_at n before many
    where
      name_at : ℕ → ℕ
      name_at i = (room_in rooms (room_at_position rooms (suc i))).name

  module _ (before : Slices)
      (long : ¬ Short rooms (length before.bytes) (length before.labels) (length before.positions) (length before.names)) where
    answer_is : labels_answer (label_list rooms) (length before.bytes) ≡ Ok (length (record_of_rooms rooms))
    answer_is = (demand2_accepts_baxter (label_list rooms) (length before.bytes) enough).1 (b.baxter, some.0, some.1)
        ∙ ap (λ (bytes : List ℕ). Ok (length bytes)) (record_is rooms)
      where
        enough : length (record_of (label_list rooms)) ≤ length before.bytes
        enough = elim (le_or_lt (length (record_of (label_list rooms))) (length before.bytes)) [
          | inl h ↦ h
          | inr h ↦ absurd (long (inl (omega (arith, ap length (record_is rooms)))))
        ]

        some : (1 ≤ length (label_list rooms)) × (length (label_list rooms) ≤ 255)
        some = omega (arith, b.size, b.some, b.few)

    -- what is left where the labels, the positions, the names and what Labels in leaves for the label list are
    pub written_for : (n : ℕ) (answer : Result ℕ Refusal) {list bytes by labels positions names : List ℕ}
        → n ≡ length rooms → list ≡ label_list rooms
        → answer ≡ labels_answer list (length before.bytes) → bytes ≡ record_after answer list before.bytes
        → Numbered rooms n by before.labels labels before.positions positions
        → (name : ℕ → ℕ) → ((k : ℕ) → k < n → name k ≡ (room_in rooms (get_or by k 0)).name) → names ≡ filled name n before.names
        → RoomsIn rooms before answer (slices bytes labels positions names)
    written_for n answer {by = by} many listed is left g name are named = rw told (record {
      answered = demand1_rooms_answer rooms _ _ _ _ (wrote accepted long);
      record_is = left ∙ (λ i. record_after (told i) (listed i) before.bytes)
          ∙ (λ i. record_is rooms i ++ drop (length (record_of_rooms rooms)) before.bytes);
      labels_are = g.labels_are ∙ each_front (label_of rooms) n before.labels many;
      positions_are = g.positions_are ∙ each_front (position_of rooms) n before.positions many;
      names_are = named ∙ names_front n by before.names name g.by_position many are;
    })
      where
        told : answer ≡ Ok (length (record_of_rooms rooms))
        told = is ∙ ap (λ (list : List ℕ). labels_answer list (length before.bytes)) listed ∙ answer_is

-- What stands in the arrays that rooms are copied into: of up to 255 rooms each stands at its place, so that the rooms read back are those
-- of the list. Of more rooms it is only known that they are too many, so that Rooms in answers for what is read back as it does for the
-- list.
use Rattle.std.specs.Prelude.{List, [], ◌∷◌, ◌≡◌, refl, ℕ, ◌+◌, ◌≤◌, ◌<◌, length, take, Result, Err}
use Rattle.std.proofs.Common.{inl, inr, sym, ap, subst, ◌∙◌, not-suc-le-zero, eq-or-lt_of_le, arith, length-set, get_or-set_same, get_or-set_other, get_or-take, length-take-le, lt-ltb, le-ltb}
use Rattle.finite.specs.Decide.{le_or_lt}
use Rattle.finite.specs.Table.{table, table_same, length_table}
use Rattle.record.specs.Causes.{BadCount}
use Rattle.record.specs.declared.Refusal.{Refusal}
use Rattle.record.specs.declared.Refusal.TheVariants.{Count}
use Rattle.drawing.specs.declared.Room.{Room}
use Rattle.rooms.specs.Outline.{room_in}
use Rattle.rooms.specs.LabelList.{record_of_rooms}
use Rattle.entering.specs.Answer.{labels_of_rooms, positions_of_rooms, names_of_rooms, written, Slices, RoomsIn}
use Rattle.entering.specs.Demand1.{count, demand1_rooms_answer}
use Rattle.entering.specs.declared.CopiedRooms.{CopiedRooms}
use Rattle.entering.specs.Named.{named_at, named_rooms}
use Rattle.entering.specs.Copied.{stored, put, copied_at, copied_rooms}

-- each array has 255 places
pub record Sized (copied : CopiedRooms) : Type 0 where
  pub left : length copied.left ≡ 255
  pub bottom : length copied.bottom ≡ 255
  pub right : length copied.right ≡ 255
  pub top : length copied.top ≡ 255
  pub name : length copied.name ≡ 255

-- ---- the places in use
module _ (copied : CopiedRooms) (n : ℕ) (size : Sized copied) (few : n ≤ 255) where
  abbrev front : List ℕ → List ℕ
  front numbers = take n numbers

  pub front_size : (numbers : List ℕ) → length numbers ≡ 255 → length (front numbers) ≡ n
  front_size numbers e = length-take-le n numbers (omega arith)

  pub names_size : length (front copied.name) ≡ length (front copied.left)
  names_size = omega (arith, front_size copied.name size.name, front_size copied.left size.left)

  abbrev pub front_rooms : List Room
  front_rooms = named_rooms (front copied.left) (front copied.bottom) (front copied.right) (front copied.top) (front copied.name)

  fronts_at : (i : ℕ) → i < n
      → named_at (front copied.left) (front copied.bottom) (front copied.right) (front copied.top) (front copied.name) i
      ≡ copied_at copied i
  fronts_at i h = λ j. record {
    left = get_or-take n copied.left i 0 h j;
    bottom = get_or-take n copied.bottom i 0 h j;
    right = get_or-take n copied.right i 0 h j;
    top = get_or-take n copied.top i 0 h j;
    name = get_or-take n copied.name i 0 h j;
  }

  pub counted : 1 ≤ n → ¬ BadCount (length front_rooms)
  counted some h =
      let many = length_table (named_at (front copied.left) (front copied.bottom) (front copied.right) (front copied.top)
      (front copied.name))
      (length (front copied.left)) in
      let of_left = front_size copied.left size.left in
      elim h [ inl z ↦ omega arith | inr z ↦ omega arith ]

  pub fronts_rooms : front_rooms ≡ copied_rooms copied n
  fronts_rooms =
      ap (table (named_at (front copied.left) (front copied.bottom) (front copied.right) (front copied.top) (front copied.name)))
      (front_size copied.left size.left)
      ∙ table_same (named_at (front copied.left) (front copied.bottom) (front copied.right) (front copied.top) (front copied.name))
      (copied_at copied) n fronts_at

-- ---- the arrays after the first so many rooms
pub record Holds (rooms : List Room) (passed : ℕ) (copied : CopiedRooms) : Type 0 where
  pub size : Sized copied
  each : (k : ℕ) → k < passed → k < 255 → copied_at copied k ≡ room_in rooms k

pub holds_none : (rooms : List Room) (copied : CopiedRooms) → Sized copied → Holds rooms 0 copied
holds_none rooms copied size = record { size = size; each = λ k l h. absurd (not-suc-le-zero l) }

-- one room more
module _ (copied : CopiedRooms) (i : ℕ) (room : Room) (size : Sized copied) where
  stored_size : Sized (stored copied i room)
  stored_size = record {
    left = length-set copied.left i room.left ∙ size.left;
    bottom = length-set copied.bottom i room.bottom ∙ size.bottom;
    right = length-set copied.right i room.right ∙ size.right;
    top = length-set copied.top i room.top ∙ size.top;
    name = length-set copied.name i room.name ∙ size.name;
  }

  stored_new : i < 255 → copied_at (stored copied i room) i ≡ room
  stored_new h = λ j. record {
    left = get_or-set_same copied.left i room.left 0 (omega (arith, size.left)) j;
    bottom = get_or-set_same copied.bottom i room.bottom 0 (omega (arith, size.bottom)) j;
    right = get_or-set_same copied.right i room.right 0 (omega (arith, size.right)) j;
    top = get_or-set_same copied.top i room.top 0 (omega (arith, size.top)) j;
    name = get_or-set_same copied.name i room.name 0 (omega (arith, size.name)) j;
  }

  stored_kept : (k : ℕ) → k < i → copied_at (stored copied i room) k ≡ copied_at copied k
  stored_kept k l = λ j. record {
    left = get_or-set_other copied.left i k room.left 0 (λ e. omega arith) j;
    bottom = get_or-set_other copied.bottom i k room.bottom 0 (λ e. omega arith) j;
    right = get_or-set_other copied.right i k room.right 0 (λ e. omega arith) j;
    top = get_or-set_other copied.top i k room.top 0 (λ e. omega arith) j;
    name = get_or-set_other copied.name i k room.name 0 (λ e. omega arith) j;
  }

put_few : (copied : CopiedRooms) (i : ℕ) (room : Room) → i < 255 → put copied i room ≡ stored copied i room
put_few copied i room h = simp (lt-ltb i 255 h)

put_many : (copied : CopiedRooms) (i : ℕ) (room : Room) → 255 ≤ i → put copied i room ≡ copied
put_many copied i room h = simp (le-ltb i 255 h)

module _ (rooms : List Room) (i : ℕ) (copied : CopiedRooms) (before : Holds rooms i copied) where
  stored_each : i < 255 → (k : ℕ) → k < i + 1 → copied_at (stored copied i (room_in rooms i)) k ≡ room_in rooms k
  stored_each h k l = let m : k ≤ i = omega arith in elim (eq-or-lt_of_le m) [
    | inl e ↦ subst (λ (m : ℕ). copied_at (stored copied i (room_in rooms i)) m ≡ room_in rooms m) (sym e)
        (stored_new copied i (room_in rooms i) before.size h)
    | inr m ↦ stored_kept copied i (room_in rooms i) before.size k m ∙ before.each k m (omega arith)
  ]

  -- one room more, whether or not there is a place for it
  pub holds_more : Holds rooms (i + 1) (put copied i (room_in rooms i))
  holds_more = elim (le_or_lt 255 i) [
    | inl l ↦ subst (Holds rooms (i + 1)) (sym (put_many copied i (room_in rooms i) l))
        (record { size = before.size; each = λ k m h. before.each k (omega arith) h })
    | inr l ↦ subst (Holds rooms (i + 1)) (sym (put_few copied i (room_in rooms i) l))
        (record { size = stored_size copied i (room_in rooms i) before.size; each = λ k m h. stored_each l k m })
  ]

-- a list is the table of its rooms
table_rooms : (rooms : List Room) → table (room_in rooms) (length rooms) ≡ rooms
unfolding table
table_rooms [] = refl
table_rooms (room ∷ rooms) = ap (λ (rest : List Room). room ∷ rest) (table_rooms rooms)

-- ---- all rooms passed
module _ (rooms : List Room) (copied : CopiedRooms) (all : Holds rooms (length rooms) copied) where
  abbrev copy : List Room
  copy = copied_rooms copied (length rooms)

  few_rooms : length rooms ≤ 255 → copy ≡ rooms
  few_rooms h = table_same (copied_at copied) (room_in rooms) (length rooms) (λ i l. all.each i l (omega arith)) ∙ table_rooms rooms

  many_rooms : 255 < length rooms → 255 < length copy
  many_rooms h = omega (arith, length_table (copied_at copied) (length rooms))

  -- too many rooms are refused, whichever they are
  too_many : {before after : Slices} {answer : Result ℕ Refusal} → 255 < length rooms → RoomsIn copy before answer after
      → RoomsIn rooms before answer after
  too_many {before} {after} {answer} h k =
      let of-copy = demand1_rooms_answer copy _ _ _ _ (count (inr (many_rooms h))) in
      let is : answer ≡ Err Count = k.answered ∙ sym of-copy in
      record {
        answered = is ∙ demand1_rooms_answer rooms _ _ _ _ (count (inr h));
        record_is = k.record_is ∙ kept is (record_of_rooms copy) (record_of_rooms rooms) before.bytes;
        labels_are = k.labels_are ∙ kept is (labels_of_rooms copy) (labels_of_rooms rooms) before.labels;
        positions_are = k.positions_are ∙ kept is (positions_of_rooms copy) (positions_of_rooms rooms) before.positions;
        names_are = k.names_are ∙ kept is (names_of_rooms copy) (names_of_rooms rooms) before.names;
      }
    where
      kept : answer ≡ Err Count → (one other before : List ℕ) → written answer one before ≡ written answer other before
      kept is one other before = rw is

  -- what is answered for the copy, and left, is so for the list
  pub copied_in : {before after : Slices} {answer : Result ℕ Refusal} → RoomsIn copy before answer after → RoomsIn rooms before answer after
  copied_in {before} {after} {answer} k = elim (le_or_lt (length rooms) 255) [
    | inl h ↦ subst (λ (list : List Room). RoomsIn list before answer after) (few_rooms h) k
    | inr h ↦ too_many h k
  ]

-- Demand 3 of the calls, from what Rooms in and Record in state alone: "Any two accepted room lists, handed in with long enough output
-- slices, get the same record, byte for byte, exactly when the two floorplans are equivalent. The reading of any bytes at all, handed in
-- as a record with long enough output slices, is accepted exactly when they are the record of some accepted room list; any other bytes
-- are refused whatever the slices."
use Rattle.std.specs.Prelude.{List, ◌++◌, ◌↔◌, ◌⊎◌, ◌≡◌, refl, ℕ, ◌<◌, length, take, drop, Result, Ok, Err}
use Rattle.std.proofs.Common.{inl, inr, sym, ap, subst, ◌∙◌, arith}
use Rattle.std.proofs.Math.Seq.{take-append_seam}
use Rattle.bits.specs.Bit.{Bytes}
use Rattle.record.specs.Read.{kind_of}
use Rattle.record.specs.Checked.{Readable, Sorted, refused, read, sorted}
use Rattle.record.specs.declared.Refusal.{Refusal}
use Rattle.drawing.specs.declared.Room.{Room}
use Rattle.rooms.specs.Outline.{SixteenBits}
use Rattle.rooms.specs.Causes.{AcceptedRooms}
use Rattle.rooms.specs.LabelList.{record_of_rooms}
use Rattle.rooms.specs.Equivalent.{Equivalent}
use Rattle.rooms.proofs.Demand3.{demand3_same_record_iff_equivalent, demand3_read_iff_record_of_rooms}
use Rattle.answers.specs.Answer as answers
use Rattle.answers.specs.Demand1.{refused_record, written as read-written, demand1_record_answer}
use Rattle.entering.specs.Answer.{Short, rooms_answer, Slices, RoomsIn}
use Rattle.entering.specs.Demand1.{RoomsSays, count, size, overlap, uncovered, four_meet, name_twice, short, wrote, demand1_rooms_cause, demand1_rooms_answer}

-- ---- what an answer that is no refusal says
abbrev Accepts : List Room → Result ℕ Refusal → Type 0
Accepts rooms (Ok n) = AcceptedRooms rooms × (n ≡ length (record_of_rooms rooms))
Accepts rooms (Err refusal) = Unit

says_accepts : (rooms : List Room) {capacity labels positions names : ℕ} {answer : Result ℕ Refusal}
    → RoomsSays rooms capacity labels positions names answer
    → Accepts rooms answer
says_accepts rooms (count a) = tt
says_accepts rooms (size a b) = tt
says_accepts rooms (overlap a b c) = tt
says_accepts rooms (uncovered a b c d) = tt
says_accepts rooms (four_meet a b c d e) = tt
says_accepts rooms (name_twice a b c d e t) = tt
says_accepts rooms (short k s) = tt
says_accepts rooms (wrote k s) = (k, refl)

wrote_accepts : (rooms : List Room) (capacity labels positions names n : ℕ) → rooms_answer rooms capacity labels positions names ≡ Ok n
    → AcceptedRooms rooms × (n ≡ length (record_of_rooms rooms))
wrote_accepts rooms capacity labels positions names n e =
    subst (Accepts rooms) e (says_accepts rooms (demand1_rooms_cause rooms capacity labels positions names))

-- ---- what the call leaves
-- the bytes at the front of the record slice, as many as the length returned
abbrev pub bytes_left : (n : ℕ) → (after : Slices) → List ℕ
bytes_left n after = take n after.bytes

module _ {rooms : List Room} {before after : Slices} {n : ℕ} (did : RoomsIn rooms before (Ok n) after) where
  accepts : AcceptedRooms rooms × (n ≡ length (record_of_rooms rooms))
  accepts = wrote_accepts rooms (length before.bytes) (length before.labels) (length before.positions) (length before.names) n
      (sym did.answered)

  pub bytes_are_record : bytes_left n after ≡ record_of_rooms rooms
  bytes_are_record =
      ap (take n) did.record_is
      ∙ ap (λ (m : ℕ). take m (record_of_rooms rooms ++ drop (length (record_of_rooms rooms)) before.bytes)) accepts.1
      ∙ take-append_seam (record_of_rooms rooms) _

-- "get the same record, byte for byte, exactly when the two floorplans are equivalent"
pub demand3_same_bytes_iff_equivalent : (rooms others : List Room) (before after other-before other_After : Slices) (n m : ℕ)
    → RoomsIn rooms before (Ok n) after → RoomsIn others other-before (Ok m) other_After
    → (bytes_left n after ≡ bytes_left m other_After) ↔ Equivalent rooms others
demand3_same_bytes_iff_equivalent rooms others before after other-before other_After n m did other =
    let (to, from) = demand3_same_record_iff_equivalent rooms others (accepts did).0 (accepts other).0 in (
      λ same. to (sym (bytes_are_record did) ∙ same ∙ bytes_are_record other),
      λ q. bytes_are_record did ∙ from q ∙ sym (bytes_are_record other),
    )

-- ---- the reading of any bytes
-- the bytes are the record that Rooms in writes for some room list of 16-bit corners and names, given long enough output slices
pub record WrittenFor (bytes : List ℕ) : Type 0 where
  pub rooms : List Room
  pub sixteen_bits : SixteenBits rooms
  pub answered : (capacity labels positions names : ℕ) → ¬ Short rooms capacity labels positions names
      → rooms_answer rooms capacity labels positions names ≡ Ok (length bytes)
  pub bytes_are : record_of_rooms rooms ≡ bytes

readable→written : (bytes : List ℕ) → Bytes bytes → Readable bytes → WrittenFor bytes
readable→written bytes all readable =
    let (rooms, accepted, sixteen, e) = (demand3_read_iff_record_of_rooms bytes all).0 readable in
    record {
      rooms = rooms;
      sixteen_bits = sixteen;
      answered = λ capacity labels positions names long.
          sym (demand1_rooms_answer rooms capacity labels positions names (wrote accepted long))
          ∙ ap (λ (r : List ℕ). Ok (length r)) e;
      bytes_are = e;
    }

written→readable : (bytes : List ℕ) → Bytes bytes → WrittenFor bytes → Readable bytes
written→readable bytes all w =
    let n = length (record_of_rooms w.rooms) in
    let m = length w.rooms in
    let k = wrote_accepts w.rooms n m m m (length bytes) (w.answered n m m m (long n m)) in
    (demand3_read_iff_record_of_rooms bytes all).1 (w.rooms, k.0, w.sixteen_bits, w.bytes_are)
  where
    long : (n m : ℕ) → ¬ ((n < n) ⊎ ((m < m) ⊎ ((m < m) ⊎ (m < m))))
    long n m (inl h) = omega arith
    long n m (inr (inl h)) = omega arith
    long n m (inr (inr (inl h))) = omega arith
    long n m (inr (inr (inr h))) = omega arith

-- "is accepted exactly when they are the record of some accepted room list"
pub demand3_read_iff_written : (bytes : List ℕ) → Bytes bytes → (labels rooms : ℕ) → ¬ answers.Short (kind_of bytes) labels rooms
    → (answers.record_answer bytes labels rooms ≡ Ok (kind_of bytes)) ↔ WrittenFor bytes
demand3_read_iff_written bytes all labels rooms long = (
  λ e. readable→written bytes all (read_readable bytes (sorted bytes) e),
  λ w. sym (demand1_record_answer bytes labels rooms (read-written (written→readable bytes all w) long)),
)
  where
    IsRead : Result ℕ Refusal → Type 0
    IsRead (Ok n) = Unit
    IsRead (Err refusal) = ⊥

    read_readable : (bytes : List ℕ) → Sorted bytes → answers.record_answer bytes labels rooms ≡ Ok (kind_of bytes)
        → Readable bytes
    read_readable bytes (read all) e = all
    read_readable bytes (refused cause) e =
        absurd (subst IsRead (sym (demand1_record_answer bytes labels rooms (refused_record cause) ∙ e)) tt)

-- "any other bytes are refused whatever the slices", and always with the same number
pub demand3_others_refused : (bytes : List ℕ) → Bytes bytes → ¬ WrittenFor bytes
    → (refusal : Refusal) × ((labels rooms : ℕ) → answers.record_answer bytes labels rooms ≡ Err refusal)
demand3_others_refused bytes all none = go (sorted bytes)
  where
    go : Sorted bytes → (refusal : Refusal) × ((labels rooms : ℕ) → answers.record_answer bytes labels rooms ≡ Err refusal)
    go (refused {refusal} cause) = (refusal, λ labels rooms. sym (demand1_record_answer bytes labels rooms (refused_record cause)))
    go (read readable) = absurd (none (readable→written bytes all readable))

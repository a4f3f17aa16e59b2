-- The sheet's worked room plans, a pinwheel of five, and equivalent and inequivalent pairs, by computation from the definitions.
use Rattle.std.specs.Prelude.{◌≡◌, refl, Bool, true, false, List, [], ◌∷◌, ℕ}
use Rattle.std.proofs.Common.{subst}
use Rattle.finite.specs.Decide.{Tells, holds, holds_tells}
use Rattle.bits.specs.Bit.{value, byte_of, pack}
use Rattle.record.specs.Triple.{triple_at}
use Rattle.record.specs.Record.{body_bit}
use Rattle.drawing.specs.declared.Room.{Room}
use Rattle.rooms.specs.Causes.{AcceptedRooms}
use Rattle.rooms.specs.LabelList.{label_list, record_of_rooms}
use Rattle.rooms.specs.DecideCauses.{dec_room_size, dec_overlap, dec_uncovered, dec_four_meet, dec_name_twice, dec_accepted}
use Rattle.rooms.proofs.Demand3.{dec_equivalent}

-- left, bottom, right, top, unnamed
abbrev room : ℕ → ℕ → ℕ → ℕ → Room
room left bottom right top = record { left = left; bottom = bottom; right = right; top = top; name = 0 }

-- ---- the sheet's plans
abbrev beside : List Room
beside = room 0 0 1 1 ∷ room 1 0 2 1 ∷ []

abbrev beside_turned : List Room
beside_turned = room 1 0 2 1 ∷ room 0 0 1 1 ∷ []

abbrev stacked : List Room
stacked = room 0 0 1 1 ∷ room 0 1 1 2 ∷ []

worked_records : (record_of_rooms beside ≡ 0x02 ∷ 0x40 ∷ []) × (record_of_rooms beside_turned ≡ 0x02 ∷ 0x40 ∷ []) × (record_of_rooms stacked ≡ 0x02 ∷ 0xA0 ∷ [])
unfolding record_of_rooms pack byte_of value body_bit triple_at
worked_records = (refl, refl, refl)

-- a flat room, two rooms that overlap, "rooms (0,0,1,1) (2,0,3,1)", "four unit squares in a 2 by 2 outline"
worked_refusals : (holds (dec_room_size (room 0 0 1 1 ∷ room 1 0 1 1 ∷ [])) ≡ true) × (holds (dec_overlap (room 0 0 2 1 ∷ room 1 0 3 1 ∷ [])) ≡ true)
    × (holds (dec_uncovered (room 0 0 1 1 ∷ room 2 0 3 1 ∷ [])) ≡ true) × (holds (dec_four_meet (room 0 0 1 1 ∷ room 1 0 2 1 ∷ room 0 1 1 2 ∷ room 1 1 2 2 ∷ [])) ≡ true)
unfolding holds dec_accepted
worked_refusals = (refl, refl, refl, refl)

-- ---- a pinwheel, and the same with other sizes, from another corner, in another order
abbrev pinwheel : List Room
pinwheel = room 0 0 2 1 ∷ room 2 0 3 2 ∷ room 1 2 3 3 ∷ room 0 1 1 3 ∷ room 1 1 2 2 ∷ []

abbrev other_pinwheel : List Room
other_pinwheel = room 2 2 3 4 ∷ room 1 1 3 2 ∷ room 3 1 5 4 ∷ room 2 4 5 5 ∷ room 1 2 2 5 ∷ []

-- the pinwheel that turns the other way
abbrev turned_pinwheel : List Room
turned_pinwheel = room 0 0 1 2 ∷ room 1 0 3 1 ∷ room 2 1 3 3 ∷ room 0 2 2 3 ∷ room 1 1 2 2 ∷ []

pinwheel_labels : (label_list pinwheel ≡ 4 ∷ 1 ∷ 3 ∷ 5 ∷ 2 ∷ []) × (label_list turned_pinwheel ≡ 2 ∷ 5 ∷ 3 ∷ 1 ∷ 4 ∷ [])
unfolding label_list
pinwheel_labels = (refl, refl)

-- "a far room with smaller x may be above or below instead": two rows, where the upper left room is above the lower right one and
-- ends before it starts
two_rows_labels : label_list (room 0 1 1 2 ∷ room 1 1 3 2 ∷ room 0 0 2 1 ∷ room 2 0 3 1 ∷ []) ≡ 3 ∷ 4 ∷ 1 ∷ 2 ∷ []
unfolding label_list
two_rows_labels = refl

-- ---- equivalent and not
all_accepted : (holds (dec_accepted beside) ≡ true) × (holds (dec_accepted beside_turned) ≡ true) × (holds (dec_accepted stacked) ≡ true)
    × (holds (dec_accepted pinwheel) ≡ true) × (holds (dec_accepted other_pinwheel) ≡ true) × (holds (dec_accepted turned_pinwheel) ≡ true)
unfolding holds dec_accepted
all_accepted = (refl, refl, refl, refl, refl, refl)

accepted : (rooms : List Room) → holds (dec_accepted rooms) ≡ true → AcceptedRooms rooms
accepted rooms e = subst (λ (b : Bool). Tells b (AcceptedRooms rooms)) e (holds_tells (dec_accepted rooms))

worked_equivalences : (holds (dec_equivalent beside beside_turned (accepted beside all_accepted.0) (accepted beside_turned all_accepted.1)) ≡ true)
    × (holds (dec_equivalent pinwheel other_pinwheel (accepted pinwheel all_accepted.3) (accepted other_pinwheel all_accepted.4)) ≡ true)
    × (holds (dec_equivalent beside stacked (accepted beside all_accepted.0) (accepted stacked all_accepted.2)) ≡ false)
    × (holds (dec_equivalent pinwheel turned_pinwheel (accepted pinwheel all_accepted.3) (accepted turned_pinwheel all_accepted.5)) ≡ false)
unfolding holds dec_equivalent record_of_rooms pack byte_of value body_bit triple_at
worked_equivalences = (refl, refl, refl, refl)

-- ---- names
-- three rooms in a row, of these names
abbrev row_named : (first second third : ℕ) → List Room
row_named first second third =
    record { left = 0; bottom = 0; right = 1; top = 1; name = first } ∷ record { left = 1; bottom = 0; right = 2; top = 1; name = second }
    ∷ record { left = 2; bottom = 0; right = 3; top = 1; name = third } ∷ []

-- "20 for one nonzero name on two rooms": next to each other, with an unnamed room between, and of the largest name; but 0 "may occur
-- often"
worked_names : (holds (dec_name_twice (row_named 7 7 1)) ≡ true) × (holds (dec_name_twice (row_named 7 0 7)) ≡ true)
    × (holds (dec_name_twice (row_named 65535 1 65535)) ≡ true) × (holds (dec_name_twice (row_named 7 8 9)) ≡ false)
    × (holds (dec_name_twice (row_named 0 7 0)) ≡ false) × (holds (dec_name_twice (row_named 0 0 0)) ≡ false)
unfolding holds dec_name_twice
worked_names = (refl, refl, refl, refl, refl, refl)

-- "the record holds no names"
worked_named_record : record_of_rooms (row_named 7 8 9) ≡ record_of_rooms (row_named 0 0 0)
unfolding record_of_rooms pack byte_of value body_bit triple_at
worked_named_record = refl

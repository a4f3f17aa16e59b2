-- Names, by computation from the definitions: 20 stands after 5 and before 15, and names are returned by position.
use Rattle.std.specs.Prelude.{◌≡◌, refl, [], ◌∷◌, ℕ, ◌+◌, Ok, Err}
use Rattle.finite.specs.Table.{table}
use Rattle.bits.specs.Bit.{value, byte_of, pack}
use Rattle.record.specs.Causes.{dec_count}
use Rattle.record.specs.Triple.{triple_at}
use Rattle.record.specs.Record.{body_bit}
use Rattle.record.specs.declared.Refusal.TheVariants as refusal
use Rattle.drawing.specs.declared.Room.{Room}
use Rattle.rooms.specs.LabelList.{room_at_position, record_of_rooms}
use Rattle.rooms.specs.DecideCauses.{dec_room_size, dec_overlap, dec_uncovered, dec_four_meet, dec_name_twice}
use Rattle.entering.specs.Answer.{dec_short, rooms_answer, names_of_rooms}

-- a unit square with its lower left corner there, and its name
abbrev square : (left bottom name : ℕ) → Room
square left bottom name = record { left = left; bottom = bottom; right = left + 1; top = bottom + 1; name = name }

-- the room on the right first: its name comes second
worked_names_by_position : names_of_rooms (square 1 0 5 ∷ square 0 0 9 ∷ []) ≡ 9 ∷ 5 ∷ []
unfolding table room_at_position
worked_names_by_position = refl

-- a name on two rooms and no place for the record; four rooms that meet, two of them of one name; a row, of which two rooms are unnamed
worked_answers : (rooms_answer (square 1 0 5 ∷ square 0 0 5 ∷ []) 0 0 0 0 ≡ Err refusal.NameTwice)
    × (rooms_answer (square 0 0 7 ∷ square 1 0 7 ∷ square 0 1 0 ∷ square 1 1 0 ∷ []) 0 0 0 0 ≡ Err refusal.FourMeet)
    × (rooms_answer (square 0 0 0 ∷ square 1 0 7 ∷ square 2 0 0 ∷ []) 2 3 3 2 ≡ Err refusal.ShortOutput)
    × (rooms_answer (square 0 0 0 ∷ square 1 0 7 ∷ square 2 0 0 ∷ []) 2 3 3 3 ≡ Ok 2)
unfolding dec_count dec_room_size dec_overlap dec_uncovered dec_four_meet dec_name_twice dec_short record_of_rooms pack byte_of value body_bit triple_at
worked_answers = (refl, refl, refl, refl)

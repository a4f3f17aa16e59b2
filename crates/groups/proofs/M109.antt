-- M-109: "Answer left, right, above or below if every room of the first has that relation to every room of the second, direct or not, and
-- "mixed" otherwise." At most one side can be answered; with the groups exchanged it is the opposite one; and what is answered for a record
-- holds in every accepted room list which has it. That for groups of one room each it is the question's side is a theorem of `grouping`.
use Rattle.std.specs.Prelude.{List, ◌↔◌, ◌≡◌, ℕ, length, Some, None, Ok, Err}
use Rattle.std.proofs.Common.{inl, inr, sym, subst}
use Rattle.std.proofs.Math.Logic.{⊎_swap}
use Rattle.record.specs.Labels.{label_at, EachOnce}
use Rattle.record.specs.Read.{labels_of}
use Rattle.drawing.specs.declared.Room.{Room}
use Rattle.drawing.specs.declared.Side.{Side}
use Rattle.rooms.specs.Causes.{AcceptedRooms}
use Rattle.rooms.specs.LabelList.{record_of_rooms}
use Rattle.rooms.proofs.Demand3.{record_of_rooms_readable, label_list_back, kind_of_rooms}
use Rattle.groups.specs.Group.{SomeEmpty, Common, Fits}
use Rattle.groups.specs.Standing.{AllStand}
use Rattle.groups.specs.Answer.{GroupsAnswer, standing, groups_answer}
use Rattle.groups.proofs.StandingFacts.{Says, standing_says, at_most_one_side, common_exchanged, fits_exchanged, exchanged, says_exchanged}
use Rattle.groups.proofs.Demand1.{Asked, GroupsSays, refused_record, outside, empty, common, related, mixed, asked_answer, demand1_groups_cause, demand1_groups_answer}
use Rattle.groups.proofs.ByExtremes.{Span, Spans, Between, stand_iff_between}
use Rattle.groups.proofs.OfRooms.{RoomsStand, stand_iff_rooms_stand}

-- of two groups that are not empty, all rooms stand to all rooms on one side at most
pub m109_at_most_one_side : (f : ℕ → ℕ) (first second : List ℕ) → ¬ SomeEmpty first second → {one other : Side}
    → AllStand f first second one → AllStand f first second other → one ≡ other
m109_at_most_one_side f first second filled = at_most_one_side f first second filled

-- an empty group has no position in common with another one: 27 and 17 never both have a cause
pub m109_empty_have_none_in_common : (first second : List ℕ) → SomeEmpty first second → ¬ Common first second
m109_empty_have_none_in_common first second (inl none) (k, a, b, (m, l)) = none (k, a, b, m)
m109_empty_have_none_in_common first second (inr none) (k, a, b, (m, l)) = none (k, a, b, l)

-- with the groups exchanged the answer is the opposite side, or mixed, or the same refusal
pub m109_exchanged : (bytes first second : List ℕ) → groups_answer bytes second first ≡ exchanged (groups_answer bytes first second)
m109_exchanged bytes first second = sym (demand1_groups_answer bytes second first (turned (demand1_groups_cause bytes first second)))
  where
    back : Asked bytes first second → Asked bytes second first
    back asked = record { readable = asked.readable; fits = fits_exchanged first second asked.fits }

    turned : {answer : GroupsAnswer} → GroupsSays bytes first second answer → GroupsSays bytes second first (exchanged answer)
    turned (refused_record cause) = refused_record cause
    turned (outside all o) = outside all (⊎_swap o)
    turned (empty all o e) = empty all (λ z. o (⊎_swap z)) (⊎_swap e)
    turned (common all o e c) = common all (λ z. o (⊎_swap z)) (λ z. e (⊎_swap z)) (common_exchanged first second c)
    turned (related {side} asked h) = related (back asked) (says_exchanged _ first second asked.fits.apart (Ok (Some side)) h)
    turned (mixed asked h) = mixed (back asked) (says_exchanged _ first second asked.fits.apart (Ok None) h)

-- every room of the first is left of every room of the second exactly if the first's last position is before the second's first and its
-- greatest label below the second's least; and likewise for the other sides (`Between`)
pub m109_all_iff_extremes : (f : ℕ → ℕ) (n : ℕ) → EachOnce f n → (side : Side) (first second : List ℕ) → Fits n first second
    → {one other : Span} → Spans f first one → Spans f second other → AllStand f first second side ↔ Between side one other
m109_all_iff_extremes = stand_iff_between

-- ---- in every accepted room list
-- an answer with what it says of the rooms at the positions of two groups
abbrev pub SaysOfRooms : (rooms : List Room) (first second : List ℕ) → GroupsAnswer → Type 0
SaysOfRooms rooms first second (Ok (Some side)) = RoomsStand rooms first second side
SaysOfRooms rooms first second (Ok None) = (side : Side) → ¬ RoomsStand rooms first second side
SaysOfRooms rooms first second (Err refusal) = ⊥

-- groups of which nothing is refused: what is answered for the record of an accepted room list holds of its rooms
pub m109_holds_in_every_room_list : (rooms : List Room) → AcceptedRooms rooms → (first second : List ℕ) → Fits (length rooms) first second
    → SaysOfRooms rooms first second (groups_answer (record_of_rooms rooms) first second)
m109_holds_in_every_room_list rooms accepted first second fits =
    subst (SaysOfRooms rooms first second) (asked_answer bytes first second asked (standing f first second) (standing_says f first second))
    (go (standing f first second) (standing_says f first second))
  where
    bytes : List ℕ
    bytes = record_of_rooms rooms

    f : ℕ → ℕ
    f = label_at (labels_of bytes)

    asked : Asked bytes first second
    asked = record {
      readable = record_of_rooms_readable rooms accepted;
      fits = subst (λ (n : ℕ). Fits n first second) (sym (kind_of_rooms rooms accepted)) fits;
    }

    iff : (side : Side) → AllStand f first second side ↔ RoomsStand rooms first second side
    iff side = subst (λ (labels : List ℕ). AllStand (label_at labels) first second side ↔ RoomsStand rooms first second side)
        (label_list_back rooms accepted) (stand_iff_rooms_stand rooms accepted first second fits side)

    go : (answer : GroupsAnswer) → Says f first second answer → SaysOfRooms rooms first second answer
    go (Ok (Some side)) h = (iff side).0 h
    go (Ok None) h = λ side all. h side ((iff side).1 all)
    go (Err _) h = elim h [ ]

-- `decide` meets its contract: the rooms stand at the front of the five arrays; a verdict is a refusal with its cause, for the causes 2
-- to 5 look at no names; an accepted list is refused for its names, or written.
use Rattle.std.proofs.Common.{◌≡◌, List, ℕ, ◌≤◌, length, get_or, take, subst, arith, rules, Result, Err}
use Rattle.finite.specs.Decide.{told_true}
use Rattle.record.specs.Causes.{BadCount}
use Rattle.record.specs.declared.Refusal.{Refusal}
use Rattle.record.specs.declared.Refusal.TheVariants as refusal
use Rattle.drawing.specs.declared.Room.{Room}
use Rattle.rooms.specs.Causes.{AcceptedRooms}
use Rattle.rooms.specs.SameButNames.{SameButNames, same_but_names_sym, same_room_size, same_overlap, same_uncovered, same_four_meet}
use Rattle.naming.specs.Twice.{Twice}
use Rattle.checks.specs.Verdict.{FirstCause}
use Rattle.corners.specs.ListPlan.{rooms_from}
use Rattle.entering.specs.Answer.{Slices, slices, RoomsIn}
use Rattle.entering.specs.Copied.{copied_rooms}
use Rattle.entering.specs.Demand1.{size, overlap, uncovered, four_meet, name_twice}
use Rattle.entering.specs.declared.CopiedRooms.{CopiedRooms}
use Rattle.entering.specs.Gathered.{Sized, front_rooms, counted, fronts_rooms, names_size}
use Rattle.entering.specs.Named.{unnamed_named, twice_named}
use Rattle.entering.specs.Written.{refused}
use Rattle.entering.proofs.decide.Given.{Over}
use Rattle.entering.proofs.decide.Goals as goal
use Rattle.entering.proofs.decide.Goals.{After-judge}

-- ---- the rooms in the arrays
module _ (copied : CopiedRooms) (n : ℕ) (arrays : Sized copied) (q : (1 ≤ n) × (n ≤ 255)) where
  abbrev rooms_at : List Room
  rooms_at = front_rooms copied n arrays q.1

  abbrev unnamed_at : List Room
  unnamed_at = rooms_from (take n copied.left) (take n copied.bottom) (take n copied.right) (take n copied.top)

  same : SameButNames unnamed_at rooms_at
  same = unnamed_named (take n copied.left) (take n copied.bottom) (take n copied.right) (take n copied.top) (take n copied.name)

  back : SameButNames rooms_at unnamed_at
  back = same_but_names_sym same

  many : ¬ BadCount (length rooms_at)
  many = counted copied n arrays q.1 q.0

  -- what is done for the rooms at the front is done for the rooms that were copied
  done : {answer : Result ℕ Refusal} {before after : Slices} → RoomsIn rooms_at before answer after
      → RoomsIn (copied_rooms copied n) before answer after
  done {answer} {before} {after} = subst (λ (rooms : List Room). RoomsIn rooms before answer after) (fronts_rooms copied n arrays q.1)

  -- the first cause of the unnamed rooms is that of the rooms
  caused : (before : Slices) (cause : Refusal) → FirstCause unnamed_at cause → RoomsIn (copied_rooms copied n) before (Err cause) before
  caused before refusal.RoomSize a = done (refused before (size many (same_room_size same a)))
  caused before refusal.Overlap (a, b) = done (refused before (overlap many (λ h. a (same_room_size back h)) (same_overlap same b)))
  caused before refusal.Uncovered (a, b, c) = done (refused before (uncovered many (λ h. a (same_room_size back h))
      (λ h. b (same_overlap back h)) (same_uncovered same c)))
  caused before refusal.FourMeet (a, b, c, d) = done (refused before (four_meet many (λ h. a (same_room_size back h))
      (λ h. b (same_overlap back h)) (λ h. c (same_uncovered back h)) (same_four_meet same d)))
  caused before _ none = absurd none

  -- a name on two rooms of a list that is accepted without its names
  named_twice : (before : Slices) → AcceptedRooms unnamed_at → Twice (λ i. get_or (take n copied.name) i 0) (length (take n copied.name))
      → RoomsIn (copied_rooms copied n) before (Err refusal.NameTwice) before
  named_twice before accepted twice = done (refused before (name_twice many
      (λ h. accepted.size (same_room_size back h)) (λ h. accepted.overlap (same_overlap back h))
      (λ h. accepted.uncovered (same_uncovered back h)) (λ h. accepted.four_meet (same_four_meet back h))
      (twice_named (take n copied.left) (take n copied.bottom) (take n copied.right) (take n copied.top) (take n copied.name)
      (names_size copied n arrays q.1) twice)))

-- each array has its places
arrays : (g : Over) (c : After-judge g) → Sized c.args.copied.now
arrays g c = record { left = omega arith; bottom = omega arith; right = omega arith; top = omega arith; name = omega arith }

-- ---- what is returned
-- a refusal is the first cause of the rooms
pub returns-in_err-judge : goal.returns-in_err-judge
returns-in_err-judge g c =
    let a = c.args in
    let before = slices a.«record».now a.labels.now a.positions.now a.names.now in
    let cause = c.in_err-judge.field-0.0 in
    let is : c.from_residual.result ≡ Err cause = search rules in
    rw is (caused a.copied.now a.n (arrays g (goal.at.returns-in_err-judge g c).After-judge) c.requires.one_to_255 before cause c.in_err-judge.ensures.verdict)

pub returns-then-twice : goal.returns-then-twice
returns-then-twice g c =
    let a = c.args in
    let names = take a.n a.copied.now.name in
    named_twice a.copied.now a.n (arrays g (goal.at.returns-then-twice g c).After-judge) c.requires.one_to_255 (slices a.«record».now a.labels.now a.positions.now a.names.now)
    c.in_ok-judge.ensures.verdict (told_true (Twice (λ i. get_or names i 0) (length names)) _ c.if-twice.true c.twice.ensures)

pub returns : goal.returns
returns g c =
    let a = c.args in
    done a.copied.now a.n (arrays g (goal.at.returns g c).After-judge) c.requires.one_to_255 c.write.ensures

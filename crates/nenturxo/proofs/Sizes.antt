-- The lengths and counts that the calls answer are small: a record has at most 97 bytes, a tidy text at most 912 and a tree at most 763, and
-- a plan has at most 255 rooms. An accepted room list has at most 255 rooms, and its label list as many labels.
use mathlib.Core.List.{List}
use mathlib.Core.Path.{sym, subst}
use Prim.Native.Nat.{ℕ, ◌≤◌}
use native.Mathlib.Omega.{arith}
use lib.ListN.{length}
use Rattle.std.specs.Prelude.{Result, Ok, Err}
use Rattle.record.specs.Answer.{LabelsIn}
use Rattle.record.proofs.Demand2.{record_at_most_97, wrote_at_most_97}
use Rattle.record.specs.declared.Refusal.{Refusal}
use Rattle.labeltext.specs.Answer.{Tidied}
use Rattle.labeltext.specs.M100.{wrote_at_most_912}
use Rattle.drawing.specs.declared.Room.{Room}
use Rattle.rooms.specs.Causes.{AcceptedRooms}
use Rattle.rooms.specs.LabelList.{label_list, record_of_rooms}
use Rattle.rooms.proofs.Demand3.{rooms_give_baxter}
use Rattle.entering.specs.Answer.{Slices, RoomsIn}
use Rattle.entering.specs.Demand1.{RoomsSays, count, size, overlap, uncovered, four_meet, name_twice, short, wrote, demand1_rooms_cause}
use Rattle.answers.specs.Answer.{Few}
use Rattle.slicing.specs.Answer.{Few as TreeFew}
use Rattle.sizes.specs.Answer.{Few as CornersFew}
use Rattle.codes.specs.Size.{SizeFits}

record_small : (rooms : List Room) → AcceptedRooms rooms → length (record_of_rooms rooms) ≤ 97
unfolding record_of_rooms
record_small rooms k = let b = rooms_give_baxter rooms k in record_at_most_97 (label_list rooms) (omega (arith, b.size, b.few))

pub rooms_fit : {rooms : List Room} {before after : Slices} {answer : Result ℕ Refusal} → RoomsIn rooms before answer after → SizeFits answer
rooms_fit {rooms} did = subst SizeFits (sym did.answered) (go (demand1_rooms_cause rooms _ _ _ _))
  where
    go : {bytes labels positions names : ℕ} {answer : Result ℕ Refusal} → RoomsSays rooms bytes labels positions names answer
        → SizeFits answer
    go (count a) = tt
    go (size a b) = tt
    go (overlap a b c) = tt
    go (uncovered a b c d) = tt
    go (four_meet a b c d e) = tt
    go (name_twice a b c d e t) = tt
    go (short k s) = tt
    go (wrote k s) = omega (arith, record_small rooms k)

pub labels_fit : {labels before after : List ℕ} {answer : Result ℕ Refusal} → LabelsIn labels before answer after → SizeFits answer
labels_fit {labels} {before} {answer = Ok n} did = omega (arith, wrote_at_most_97 labels (length before) n (sym did.answered))
labels_fit {answer = Err refusal} did = tt

pub tidy_fits : {text before after : List ℕ} {answer : Result ℕ Refusal} → Tidied text before answer after → SizeFits answer
tidy_fits {answer = Ok n} did = omega (arith, wrote_at_most_912 did)
tidy_fits {answer = Err refusal} did = tt

pub record_fits : (answer : Result ℕ Refusal) → Few answer → SizeFits answer
record_fits (Ok n) few = omega (arith, few)
record_fits (Err refusal) few = tt

pub tree_fits : (answer : Result ℕ Refusal) → TreeFew answer → SizeFits answer
tree_fits (Ok n) few = omega (arith, few)
tree_fits (Err refusal) few = tt

pub corners_fit : (answer : Result ℕ Refusal) → CornersFew answer → SizeFits answer
corners_fit (Ok n) few = omega (arith, few)
corners_fit (Err refusal) few = tt

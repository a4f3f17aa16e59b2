-- The label lists and the room lists that are counted.
use Rattle.std.specs.Prelude.{List, ◌≡◌, ℕ, suc, ◌<◌, length}
use Rattle.std.proofs.Math.Decide.{dec_lt}
use Rattle.finite.specs.Count.{count}
use Rattle.record.specs.Labels.{label_at}
use Rattle.record.specs.Barred.{Baxter}
use Rattle.record.specs.Rises.{rises_of}
use Rattle.drawing.specs.declared.Room.{Room}
use Rattle.rooms.specs.Outline.{SixteenBits}
use Rattle.rooms.specs.Causes.{AcceptedRooms}
use Rattle.rooms.specs.LabelList.{record_of_rooms}

-- "A Baxter permutation on [n] = 1, 2, .., n" (000, 2.1): a Baxter list of n labels
abbrev pub BaxterList : (n : ℕ) → List ℕ → Type 0
BaxterList n labels = Baxter labels × (length labels ≡ n)

-- "a rise .. is [a] sequence of two consecutive elements σi σi+1 such that σi < σi+1" (Definition 4.1)
abbrev pub Rise : List ℕ → ℕ → Type 0
Rise labels i = label_at labels i < label_at labels (suc i)

-- how many of them there are, for i from 1 to n − 1
unfoldable pub rises_of_labels : List ℕ → ℕ
unfolding count dec_lt
rises_of_labels labels = count (Rise labels) (λ i. dec_lt (label_at labels i) (label_at labels (suc i))) 1 (length labels)

-- a Baxter list of n labels that has r rises
abbrev pub BaxterWithRises : (n r : ℕ) → List ℕ → Type 0
BaxterWithRises n r labels = BaxterList n labels × (rises_of_labels labels ≡ r)

-- an accepted room list of n rooms: "A room is four unsigned 16-bit numbers", and "carries a 16-bit name beside its four corners"
abbrev pub PlanOfRooms : (n : ℕ) → List Room → Type 0
PlanOfRooms n rooms = AcceptedRooms rooms × SixteenBits rooms × (length rooms ≡ n)

-- an accepted room list of n rooms whose record has r rises
abbrev pub PlanWithRises : (n r : ℕ) → List Room → Type 0
PlanWithRises n r rooms = PlanOfRooms n rooms × (rises_of (record_of_rooms rooms) ≡ r)

-- Labels, positions and the record of a room list. "The label of a room is 1 plus the number of rooms left of it or above it. The
-- position of a room is 1 plus the number of rooms left of it or below it." "The label list gives the labels by position." A room
-- list's "record is the record of its label list".
use Rattle.std.specs.Prelude.{◌≡◌, ◌⊎◌, List, ℕ, suc, ◌+◌, length}
use Rattle.std.proofs.Math.Decide.{ℕ_discrete}
use Rattle.finite.specs.Decide.{dec-⊎}
use Rattle.finite.specs.Search.{dec_some}
use Rattle.finite.specs.Sum.{sum}
use Rattle.finite.specs.Count.{indicator, count}
use Rattle.finite.specs.Table.{table}
use Rattle.record.specs.Record.{record_of}
use Rattle.drawing.specs.declared.Room.{Room}
use Rattle.rooms.specs.Orders.{LeftOf, BelowOf, AboveOf}
use Rattle.rooms.specs.DecideSegment.{dec_segment_chain, dec_left, dec_below, dec_above}
use Rattle.rooms.specs.Pick.{pick}

-- "1 plus the number of rooms left of it or above it"
unfoldable pub label_of : List Room → ℕ → ℕ
unfolding count sum indicator dec-⊎ dec_segment_chain
label_of rooms i = 1 + count (λ j. LeftOf rooms j i ⊎ AboveOf rooms j i) (λ j. dec-⊎ (dec_left rooms j i) (dec_above rooms j i)) 0 (length rooms)

-- "1 plus the number of rooms left of it or below it"
unfoldable pub position_of : List Room → ℕ → ℕ
unfolding count sum indicator dec-⊎ dec_segment_chain
position_of rooms i = 1 + count (λ j. LeftOf rooms j i ⊎ BelowOf rooms j i) (λ j. dec-⊎ (dec_left rooms j i) (dec_below rooms j i)) 0 (length rooms)

-- the room at a position
unfoldable pub room_at_position : List Room → ℕ → ℕ
unfolding pick dec_some ℕ_discrete position_of
room_at_position rooms p = pick (dec_some (λ i. position_of rooms i ≡ p) (λ i. ℕ_discrete (position_of rooms i) p) 0 (length rooms))

-- "the labels by position"
unfoldable pub label_list : List Room → List ℕ
unfolding table label_of room_at_position
label_list rooms = table (λ i. label_of rooms (room_at_position rooms (suc i))) (length rooms)

-- "the record of its label list"
unfoldable pub record_of_rooms : List Room → List ℕ
unfolding record_of label_list
record_of_rooms rooms = record_of (label_list rooms)

-- The relation of two positions (M-102). "The relation of two positions shall say whether it is direct, by one segment that holds their
-- facing edges, or only through a chain of more steps." `Direct` is the first; here is the second, and what is answered.
use Rattle.std.specs.Prelude.{List, ℕ, ◌-◌}
use Rattle.finite.specs.Decide.{holds}
use Rattle.record.specs.Labels.{label_at}
use Rattle.drawing.specs.declared.Room.{Room}
use Rattle.drawing.specs.declared.Side.{Side}
use Rattle.drawing.specs.declared.Relation.{Relation}
use Rattle.drawing.specs.Drawing.{drawing_of}
use Rattle.drawing.specs.Side.{side_of, converse}
use Rattle.rooms.specs.Orders.{Chain}
use Rattle.rooms.specs.Direct.{facing, Direct}
use Rattle.rooms.specs.DecideSegment.{dec_one_segment}

-- "a chain of more steps": a chain of direct steps leads from room a to some room, and one step more from that to room b
pub record ChainOfMore (rooms : List Room) (side : Side) (a b : ℕ) : Type 0 where
  pub last_but_one : ℕ
  pub chain : Chain (Direct rooms side) a last_but_one
  pub last_step : Direct rooms side last_but_one b

-- "only through a chain of more steps"
pub record OnlyThrough (rooms : List Room) (side : Side) (a b : ℕ) : Type 0 where
  pub through : ChainOfMore rooms side a b
  pub not_direct : ¬ Direct rooms side a b

-- two positions stand in a direct relation: their rooms in the grid drawing do, whose list of rooms is by position; a list's places count
-- from 0
abbrev pub PositionsDirect : (labels : List ℕ) (side : Side) (first second : ℕ) → Type 0
PositionsDirect labels side first second = Direct (drawing_of labels) side (first - 1) (second - 1)

abbrev pub dec_positions_direct : (labels : List ℕ) (side : Side) (first second : ℕ) → Dec (PositionsDirect labels side first second)
dec_positions_direct labels side first second =
    dec_one_segment (drawing_of labels) (facing side) (facing (converse side)) (first - 1) (second - 1)

-- "the relation of two positions": the side on which the first stands of the second, and whether it is direct
abbrev pub relation_of : (labels : List ℕ) (first second : ℕ) → Relation
relation_of labels first second =
    let side = side_of (label_at labels) first second in
    record { side = side; direct = holds (dec_positions_direct labels side first second) }

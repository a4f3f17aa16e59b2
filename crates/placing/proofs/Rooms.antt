-- What a turn counts fits the stacks, as `Lines::turn` requires it.
use Prim.Native.Nat.{ℕ}
use Rattle.steps.specs.declared.Turn.{Turn}
use Rattle.sizes.proofs.Turned.{TurnFits}
use Rattle.placing.specs.Room.{HasRoom}

pub has_room : {p q : ℕ} {turn : Turn} → TurnFits p q turn → HasRoom p q turn
has_room f = record {
  stored_below = f.stored_below;
  stored_above = f.stored_above;
  below_few = f.below_few;
  above_few = f.above_few;
  joins_below = f.joins_below;
  joins_above = f.joins_above;
  below_bit = f.below_bit;
  above_bit = f.above_bit;
}

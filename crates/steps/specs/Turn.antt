-- What a triple says of the new label, in numbers.
use Rattle.std.specs.Prelude.{true, false, ◌≡◌, ℕ}
use Rattle.bits.specs.Bit.{bit}
use Rattle.record.specs.Triple.{Triple, triple}
use Rattle.record.specs.Way.{Way, up, down}
use Rattle.record.specs.Decode.{bits_of}
use Rattle.steps.specs.declared.Turn.{Turn}

-- 1 where the label lies above the current run, and where it lies below it
abbrev pub rises_by : Triple → ℕ
rises_by (triple first second false) = 1
rises_by (triple first second true) = 0

abbrev pub falls_by : Triple → ℕ
falls_by (triple first second third) = bit third

-- 1 where the new label meets the current run, looking that way
abbrev pub meets_by : Triple → Way → ℕ
meets_by t up = falls_by t
meets_by t down = rises_by t

pub record Says (t : Triple) (turn : Turn) : Type 0 where
  pub above_is : turn.above ≡ bit (bits_of t up)
  pub below_is : turn.below ≡ bit (bits_of t down)
  pub rises_is : turn.rises ≡ rises_by t
  pub falls_is : turn.falls ≡ falls_by t

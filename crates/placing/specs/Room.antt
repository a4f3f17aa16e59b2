-- What a turn of the walk needs: places in the stacks for the lines that it stores and reads, and the runs that it joins.
use Rattle.std.specs.Prelude.{ℕ, ◌+◌, ◌≤◌, ◌<◌}
use Rattle.steps.specs.declared.Turn.{Turn}

-- with p runs below the current one and q above it
pub record HasRoom (p q : ℕ) (turn : Turn) : Type 0 where
  pub stored_below : p + 1 < 256
  pub stored_above : q + 1 < 256
  pub below_few : p + turn.rises ≤ 254
  pub above_few : q + turn.falls ≤ 254
  pub joins_below : turn.below ≤ p + turn.rises
  pub joins_above : turn.above ≤ q + turn.falls
  pub below_bit : turn.below ≤ 1
  pub above_bit : turn.above ≤ 1

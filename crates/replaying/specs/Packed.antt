-- Both run counts in one number, and what a triple adds to it and to an entry.
use Rattle.std.specs.Prelude.{◌≡◌, ℕ, suc, ◌+◌, ◌-◌, ◌*◌, ◌<◌}
use Rattle.bits.specs.Bit.{bit}
use Rattle.record.specs.Triple.{Triple}
use Rattle.record.specs.Way.{up, down}
use Rattle.record.specs.Decode.{bits_of}
use Rattle.record.specs.Walk.{Counts, missing, counts}
use Rattle.steps.specs.Turn.{rises_by, falls_by}

-- each with 1 added, 0 where a run is missing
abbrev pub packed : Counts → ℕ
packed missing = 0
packed (counts p q) = 257 + p + 256 * q

-- what a step of the walk adds to that number, and 256: the run that was current is one more on one side, and the runs that are joined
-- count no more
abbrev pub row_of : Triple → ℕ
row_of t = 256 + rises_by t + 256 * falls_by t - (bit (bits_of t down) + 256 * bit (bits_of t up))

-- a number of counts tells the runs, the current one among them
abbrev pub CountsRuns : (number runs : ℕ) → Type 0
CountsRuns number runs = (p q : ℕ) → number ≡ packed (counts p q) → p + q < 255 → runs ≡ suc (p + q)

-- what a triple adds to an entry, which is 256 × rooms + runs: a room, a run, and one run less for each that it joins
abbrev pub gain_of : Triple → ℕ
gain_of t = 257 - (bit (bits_of t down) + bit (bits_of t up))

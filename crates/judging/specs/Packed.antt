-- The counts of the walk in one word: 2^15 - 1 less the runs below, 2^15 - 1 less the runs above, of 16 bits each, and over them 1 for
-- each step and 1 more for each fall.
use Rattle.std.specs.Prelude.{◌⊎◌, ◌≡◌, ℕ, suc, ◌+◌, ◌*◌, ◌/◌, ◌%◌, ◌≤◌, Option, Some, None}
use Rattle.bits.specs.Bit.{bit}
use Rattle.record.specs.Triple.{Triple}
use Rattle.record.specs.Way.{up, down}
use Rattle.record.specs.Walk.{missing, counts, walk}
use Rattle.record.specs.Decode.{bits_of}
use Rattle.record.specs.Rises.{falls}
use Rattle.steps.specs.Turn.{rises_by, falls_by}

abbrev pub Packed : (below above steps : ℕ) → ℕ → Type 0
Packed below above steps tally = tally + below + 65536 * above ≡ 32767 + 65536 * 32767 + 4294967296 * steps

-- what a triple adds to the word: the run that was current is one more on one side, and the runs joined count no more
abbrev pub Row : Triple → ℕ → Type 0
Row u added = added + rises_by u + 65536 * falls_by u ≡ bit (bits_of u down) + 65536 * bit (bits_of u up) + 4294967296 * (1 + falls_by u)

-- one of the counts is less than none
abbrev pub Lacks : ℕ → Type 0
Lacks tally = (32768 ≤ tally % 65536) ⊎ (32768 ≤ tally / 65536 % 65536)

-- the word after k steps
pub record Packs (t : ℕ → Triple) (k tally : ℕ) : Type 0 where
  pub below : ℕ
  pub above : ℕ
  pub walked : walk t k ≡ counts below above
  pub few : below + above ≤ k
  pub falls_few : falls t (suc k) ≤ k
  pub packed : Packed below above (k + falls t (suc k)) tally

-- the word that k steps leave; none where one of them lacks a run
abbrev pub Walked : Option ℕ → (ℕ → Triple) → (k : ℕ) → Type 0
Walked (Some tally) t k = Packs t k tally
Walked None t k = walk t k ≡ missing

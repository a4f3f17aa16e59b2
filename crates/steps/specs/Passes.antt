-- What the walk forward notes of each position, and the walk back reads.
use Rattle.std.specs.Prelude.{List, ◌≡◌, ℕ, suc, ◌<◌, length, get_or}
use Rattle.record.specs.Triple.{Triple}
use Rattle.record.specs.Way.{Way}
use Rattle.record.specs.Decode.{lower_size}
use Rattle.record.specs.Positions.{newest_met}
use Rattle.record.specs.TripleNumber.{triple_of}

-- of each position after the first, in an array of 255, the number of its triple
pub record Unpacked (triples : ℕ → Triple) (n : ℕ) (numbers : List ℕ) : Type 0 where
  pub size : length numbers ≡ 255
  pub at : (k : ℕ) → suc k < n → (get_or numbers k 0 < 8) × (triple_of (get_or numbers k 0) ≡ triples (suc (suc k)))

-- of each position, how many labels of its run lie below it
abbrev pub Lowers : (ℕ → Triple) → (n : ℕ) → List ℕ → Type 0
Lowers triples n lower = (i : ℕ) → i < n → get_or lower i 0 ≡ lower_size triples (suc i)

-- of each position, in an array of 255, the newest one in the run next to its label on one side, 0 if there is none
pub record Starts (way : Way) (triples : ℕ → Triple) (n : ℕ) (starts : List ℕ) : Type 0 where
  pub size : length starts ≡ 255
  pub at : (i : ℕ) → i < n → get_or starts i 0 ≡ newest_met triples (suc i) way

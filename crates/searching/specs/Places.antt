-- The table of places: the position of each label.
use Rattle.std.specs.Prelude.{Bool, true, false, List, ◌≡◌, ℕ, ◌<◌, length, get_or}
use Rattle.record.specs.Labels.{label_at}
use Rattle.record.specs.Judged.{Permutation}
use Rattle.patterns.specs.Sides.{NextTo}
use Rattle.patterns.specs.Completion.{Place}

-- of the first k positions
pub record Places (f : ℕ → ℕ) (k : ℕ) (places : List ℕ) : Type 0 where
  pub size : length places ≡ 257
  pub each : (label : ℕ) → label < 257 → Place f k label (get_or places label 0)

-- that a list is one of the labels 1 to n, each once, with the table of all positions; or that it is not
abbrev pub PlacedOrNot : (labels places : List ℕ) → Bool → Type 0
PlacedOrNot labels places true = Permutation labels × Places (label_at labels) (length labels) places
PlacedOrNot labels places false = ¬ Permutation labels

-- what is listed for the label next above a label, or where `above` is false next below it
pub record PlaceNextTo (places : List ℕ) (label : ℕ) (above : Bool) (place : ℕ) : Type 0 where
  pub next : ℕ
  pub next_to : NextTo above label next
  pub small : next < 257
  pub listed : place ≡ get_or places next 0

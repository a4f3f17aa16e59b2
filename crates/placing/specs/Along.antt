-- What the walk along the triples of a record's body gives in one direction.
use Rattle.std.specs.Prelude.{List, ◌≡◌, ℕ, suc, length}
use Rattle.finite.specs.Fill.{filled}
use Rattle.record.specs.Labels.{label_at}
use Rattle.judging.specs.Walkable.{labels_in}
use Rattle.sizes.specs.Direction.{Direction}
use Rattle.sizes.specs.Lowest.{start_at, needed_length}
use Rattle.sizes.specs.Lists.{each_way, number_at}

-- the label and the size at a position, where there are as many rooms as widths
module _ (body widths heights : List ℕ) where
  abbrev pub label : ℕ → ℕ
  label = label_at (labels_in body (length widths))

  abbrev pub size_of : Direction → ℕ → ℕ
  size_of way = number_at (each_way widths heights way)

-- the needed length, and the lowest corners of n rooms from the front of a list that held `before`; f is the label at a position
pub record LowestFor (f : ℕ → ℕ) (way : Direction) (n : ℕ) (sizes before : List ℕ) (needed : ℕ) (after : List ℕ) : Type 0 where
  pub needed_is : needed ≡ needed_length f way (number_at sizes) n
  pub starts_are : after ≡ filled (λ i. start_at f way (number_at sizes) n (suc i)) n before

-- What the walk back leaves: the labels, and of each position the one that first comes to lie beyond its run, less 1.
use Rattle.std.specs.Prelude.{List, ℕ, suc, ◌-◌}
use Rattle.finite.specs.Fill.{Filling}
use Rattle.record.specs.Triple.{Triple}
use Rattle.record.specs.Way.{Way, up, down}
use Rattle.record.specs.Decode.{label_of}
use Rattle.record.specs.Positions.{entered_but}

-- of the position at an index, the one that first comes to lie beyond its run on one side, less 1; n if none does
abbrev pub end_at : (ℕ → Triple) → (n : ℕ) → Way → (i : ℕ) → ℕ
end_at triples n way i = (entered_but triples n (n - suc i)).current way

-- from index a on, three slices have the labels and the ends, and are else as they were
pub record Written (triples : ℕ → Triple) (n a : ℕ) (labels₀ right₀ top₀ labels right top : List ℕ) : Type 0 where
  pub labels_are : Filling (λ i. label_of triples n (suc i)) a n labels₀ labels
  pub rights_are : Filling (end_at triples n up) a n right₀ right
  pub tops_are : Filling (end_at triples n down) a n top₀ top

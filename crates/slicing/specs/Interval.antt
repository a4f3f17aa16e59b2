-- Rooms whose labels are an interval; the place of each among their positions, by its label in the order of a cut; and where the intervals
-- of the rooms before a line and of those after it begin.
use Rattle.std.specs.Prelude.{ℕ, suc, ◌+◌, ◌-◌, ◌≤◌, ◌<◌}
use Rattle.finite.specs.Search.{Each}
use Rattle.slicing.specs.Split.{Distinct}
use Rattle.slicing.specs.declared.Cut.{Cut}
use Rattle.slicing.specs.declared.Cut.TheVariants.{Vertical, Horizontal}

-- the rooms at positions s to e - 1 have the labels from `lowest` on, as many as there are rooms, each once
pub record Interval (f : ℕ → ℕ) (s e lowest : ℕ) : Type 0 where
  pub some : s < e
  pub range : Each (λ i. (lowest ≤ f i) × (f i + s < lowest + e)) s e
  pub distinct : Distinct f s e

-- the place of a label in the order of a cut: from the lowest up, or from the highest down
abbrev pub place_of : Cut → (s e lowest label : ℕ) → ℕ
place_of Vertical s e lowest label = s + label - lowest
place_of Horizontal s e lowest label = e + lowest - suc label

-- the lowest label of the first rooms, up to m - 1, and of the rest, where a line parts them
abbrev pub lowest_of_first : Cut → (m e lowest : ℕ) → ℕ
lowest_of_first Vertical m e lowest = lowest
lowest_of_first Horizontal m e lowest = lowest + (e - m)

abbrev pub lowest_of_rest : Cut → (s m lowest : ℕ) → ℕ
lowest_of_rest Vertical s m lowest = lowest + (m - s)
lowest_of_rest Horizontal s m lowest = lowest

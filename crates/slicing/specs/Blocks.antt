-- The blocks of a node: rooms that no line parts, and where the first block ends.
use Rattle.std.specs.Prelude.{ℕ, ◌≤◌, ◌<◌}
use Rattle.slicing.specs.Cuts.{Parts}
use Rattle.slicing.specs.declared.Cut.{Cut}

-- no line of a cut parts the rooms at positions s to e - 1
abbrev pub Whole : (ℕ → ℕ) → Cut → (s e : ℕ) → Type 0
Whole f cut s e = (m : ℕ) → s < m → m < e → ¬ Parts f cut s m e

-- their first block ends at m: a line stands there, or all rooms are one block, and no line stands before
pub record FirstBlock (f : ℕ → ℕ) (cut : Cut) (s m e : ℕ) : Type 0 where
  pub some : s < m
  pub within : m ≤ e
  pub parts : Parts f cut s m e
  pub first : (k : ℕ) → s < k → k < m → ¬ Parts f cut s k e

-- Rooms in a row with different labels.
use Rattle.std.specs.Prelude.{◌≢◌, ℕ, ◌≤◌, ◌<◌}

-- no label stands at two positions
abbrev pub Distinct : (ℕ → ℕ) → (s e : ℕ) → Type 0
Distinct f s e = (i j : ℕ) → s ≤ i → i < j → j < e → f i ≢ f j

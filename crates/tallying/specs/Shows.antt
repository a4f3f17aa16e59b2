-- Planes that show figures: the one of p and q in row p + 1, q + 1 places before the next row begins, and zeros round them all.
use Rattle.std.specs.Prelude.{List, ◌≡◌, ℕ, zero, suc, ◌+◌, ◌-◌, ◌*◌, ◌≤◌, length, get_or}
use Rattle.counting.specs.Ways.{ways}
use Rattle.counting.specs.AllWays.{all_ways}

-- figures with a border of zeros, before the first p and the first q
abbrev pub bordered : (ℕ → ℕ → ℕ) → (u v : ℕ) → ℕ
bordered f zero v = 0
bordered f (suc p) zero = 0
bordered f (suc p) (suc q) = f p q

-- the plane that begins at `base` shows the figures of p up to `below` and q up to `above`, as far as it has places for them
pub record Shows (f : ℕ → ℕ → ℕ) (base below above : ℕ) (planes : List ℕ) : Type 0 where
  pub at : (u v : ℕ) → u ≤ below + 1 → v ≤ above + 1 → u ≤ 10 → v ≤ 10 → get_or planes (base + 10 * u + (10 - v)) 0 ≡ bordered f u v

-- ---- counts: after so many sweeps plane b holds the figures with b falls left and one rise less than sweeps; before the first sweep
-- there is only the walk that is over
abbrev pub plane_after : (sweeps b : ℕ) → ℕ → ℕ → ℕ
plane_after zero zero p q = ways 0 p q 0
plane_after zero (suc b) p q = 0
plane_after (suc rises) b p q = ways (rises + b) p q rises

-- all planes after so many sweeps, behind one of zeros. With `rises` and `falls` in all, p is never above the rises that are not left, nor
-- q above the falls
pub record Planes (rises falls sweeps : ℕ) (planes : List ℕ) : Type 0 where
  pub size : length planes ≡ 1101
  pub zeros : Shows (λ p q. 0) 0 17 17 planes
  pub each : (b : ℕ) → b ≤ falls → Shows (plane_after sweeps b) (110 * suc b) (suc rises - sweeps) (falls - b) planes

-- ---- totals: both planes hold the figures with k triples left
pub record BothPlanes (reach k : ℕ) (planes : List ℕ) : Type 0 where
  pub size : length planes ≡ 221
  pub fore : Shows (all_ways k) 0 reach reach planes
  pub back : Shows (all_ways k) 110 reach reach planes

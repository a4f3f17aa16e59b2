-- The number that a search in a range finds, as a function, so that it is a small term; 0 where there is none.
use Rattle.std.specs.Prelude.{ℕ, ◌<◌}
use Rattle.finite.specs.Search.{Some}

unfoldable pub pick : {P : ℕ → Type 0} {a e : ℕ} → Dec (Some P a e) → ℕ
pick (yes r) = r.0
pick (no h) = 0

pub pick_has : {P : ℕ → Type 0} {a e : ℕ} (d : Dec (Some P a e)) → Some P a e → (pick d < e) × P (pick d)
unfolding pick
pick_has (yes r) s = (r.2, r.3)
pick_has (no h) s = absurd (h s)

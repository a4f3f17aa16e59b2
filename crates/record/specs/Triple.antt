-- The triple of a position. "For positions 2 to n, with label v there, three bits in this order: first: 1 if v + 1 stands at an
-- earlier position; second: 1 if v − 1 stands at an earlier position; third: 1 if v is smaller than the label one position before."
use Rattle.std.specs.Prelude.{◌≡◌, Bool, false, ℕ, zero, suc, ◌+◌, ◌-◌}
use Rattle.std.proofs.Math.Decide.{dec_lt, ℕ_discrete}
use Rattle.finite.specs.Decide.{holds}
use Rattle.finite.specs.Search.{Some, dec_some}

-- the three bits, 1 as true
pub data Triple : Type 0 where
  triple : (first second third : Bool) → Triple

-- the label v stands at a position before k
abbrev pub Earlier : (ℕ → ℕ) → (v k : ℕ) → Type 0
Earlier f v k = Some (λ i. f i ≡ v) 1 k

unfoldable pub dec_earlier : (f : ℕ → ℕ) (v k : ℕ) → Dec (Earlier f v k)
unfolding dec_some ℕ_discrete
dec_earlier f v k = dec_some (λ i. f i ≡ v) (λ i. ℕ_discrete (f i) v) 1 k

-- the triple of a position; there is no position 0, and position 1's is never asked for
unfoldable pub triple_at : (ℕ → ℕ) → ℕ → Triple
unfolding holds dec_earlier dec_lt
triple_at f zero = triple false false false
triple_at f (suc i) = let v = f (suc i) in triple (holds (dec_earlier f (v + 1) (suc i))) (holds (dec_earlier f (v - 1) (suc i))) (holds (dec_lt v (f i)))

-- Numbers of rooms that are 1 to n, each once, as labels and positions are.
use Rattle.std.specs.Prelude.{◌≡◌, ℕ, ◌≤◌, ◌<◌}
use Rattle.finite.specs.Search.{Some}

-- f of the numbers below n is each of 1 to n, once
pub record OneToN (f : ℕ → ℕ) (n : ℕ) : Type 0 where
  pub range : (i : ℕ) → i < n → (1 ≤ f i) × (f i ≤ n)
  pub once : (i j : ℕ) → i < n → j < n → f i ≡ f j → i ≡ j
  pub each : (v : ℕ) → 1 ≤ v → v ≤ n → Some (λ i. f i ≡ v) 0 n

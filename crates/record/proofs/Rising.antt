-- Numbers by position that rise with the labels, and are 1 to n as they are, are the labels.
use Rattle.std.specs.Prelude.{◌≡◌, ℕ, zero, suc, ◌-◌, ◌≤◌, ◌<◌}
use Rattle.std.proofs.Common.{zero-le, arith}
use Rattle.finite.specs.Search.{Some}
use Rattle.finite.specs.Count.{height_is_level}
use Rattle.record.specs.Labels.{EachOnce}
use Rattle.record.proofs.NextTo.{every}

module _ (f : ℕ → ℕ) (n : ℕ) (each : EachOnce f n) (g : ℕ → ℕ) (range : (i : ℕ) → 1 ≤ i → i ≤ n → (1 ≤ g i) × (g i ≤ n))
    (rises : (i j : ℕ) → 1 ≤ i → i ≤ n → 1 ≤ j → j ≤ n → f j ≡ suc (f i) → g i < g j) where
  own : (a : ℕ) → a < n → (1 ≤ f (suc a)) × (f (suc a) ≤ n)
  own a h = each.range (suc a) (omega arith) h

  other : (a : ℕ) → a < n → (1 ≤ g (suc a)) × (g (suc a) ≤ n)
  other a h = range (suc a) (omega arith) h

  taken : (v : ℕ) → v < n → Some (λ a. f (suc a) - 1 ≡ v) 0 n
  taken v h = go (every f n each (suc v) (omega arith) h)
    where
      go : Some (λ i. f i ≡ suc v) 1 (suc n) → Some (λ a. f (suc a) - 1 ≡ v) 0 n
      go (zero, l, u, e) = absurd (omega arith)
      go (suc a, l, u, e) = (a, zero-le, omega arith, omega arith)

  pub rising_is_label : (i : ℕ) → 1 ≤ i → i ≤ n → g i ≡ f i
  rising_is_label zero a b = absurd (omega arith)
  rising_is_label (suc i) a b =
      omega (
        arith,
        own i b,
        other i b,
        height_is_level n (λ a. f (suc a) - 1) (λ a. g (suc a) - 1) taken (λ a b ha hb e.
            omega (arith, other a ha, rises (suc a) (suc b) (omega arith) ha (omega arith) hb (omega (arith, own a ha, own b hb))))
            (λ a h. omega (arith, other a h)) i b (omega (arith, own i b)),
      )

-- The recursion by its first triple, a rise or a fall; and where it gives nothing, and how much at most.
use Rattle.std.specs.Prelude.{Bool, true, false, ◌≡◌}
use Rattle.std.proofs.Math.Path.{refl}
use Prim.Native.Nat.{ℕ, zero, suc, ◌+◌, ◌*◌, ◌^◌, ◌≤◌, ◌<◌}
use Rattle.std.proofs.Common.{pow-suc}
use Rattle.std.proofs.Math.Nat.{pow-le-pow_right}
use native.Mathlib.Omega.{arith}
use Rattle.finite.specs.SumBelow.{sum_ge}
use Rattle.record.specs.Triple.{triple}
use Rattle.record.specs.Walk.{step}
use Rattle.counting.specs.Ways.{over_bit, after_step, ways, plan_count}
use Rattle.counting.specs.AllWays.{all_ways}
use Rattle.counting.proofs.AllWays.{all_ways_lem}

-- the walks from p and q that begin with a triple of this third bit and go on as `after` counts
unfoldable pub begun : (third : Bool) (after : ℕ → ℕ → ℕ) (p q : ℕ) → ℕ
unfolding step
begun third after p q = over_bit λ first. over_bit λ second. after_step (step (triple first second third) p q) after

pub ways_falls : (k p q : ℕ) → ways (suc k) p q 0 ≡ begun true (λ p q. ways k p q 0) p q
unfolding ways begun
ways_falls k p q = omega arith

pub ways_both : (k p q r : ℕ) → ways (suc k) p q (suc r) ≡ begun false (λ p q. ways k p q r) p q + begun true (λ p q. ways k p q (suc r)) p q
unfolding ways begun
ways_both k p q r = omega arith

pub all_both : (k p q : ℕ) → all_ways (suc k) p q ≡ begun false (all_ways k) p q + begun true (all_ways k) p q
unfolding all_ways begun
all_both k p q = omega arith

-- ---- a rise leaves p or makes it one more, and leaves q or takes one away; a fall the other way round
pub rises_most : (f : ℕ → ℕ → ℕ) (p q m : ℕ) → ((x y : ℕ) → p ≤ x → y ≤ q → f x y ≤ m) → begun false f p q ≤ 4 * m
unfolding begun step
rises_most f p zero m h = omega (arith, h p 0 (omega arith) (omega arith), h (suc p) 0 (omega arith) (omega arith))
rises_most f p (suc q) m h = omega (
  arith,
  h p q (omega arith) (omega arith),
  h (suc p) q (omega arith) (omega arith),
  h p (suc q) (omega arith) (omega arith),
  h (suc p) (suc q) (omega arith) (omega arith),
)

pub falls_most : (f : ℕ → ℕ → ℕ) (p q m : ℕ) → ((x y : ℕ) → p ≤ suc x → f x y ≤ m) → begun true f p q ≤ 4 * m
unfolding begun step
falls_most f zero q m h = omega (arith, h 0 q (omega arith), h 0 (suc q) (omega arith))
falls_most f (suc p) q m h = omega (arith, h p q (omega arith), h p (suc q) (omega arith), h (suc p) q (omega arith), h (suc p) (suc q) (omega arith))

-- each run below takes a fall to end it, so none is counted where too few of k triples are falls
pub too_few_falls : (k p q r : ℕ) → k < p + r → ways k p q r ≡ 0
too_few_falls zero p q r h = go p q r h
  where
    go : (p q r : ℕ) → 0 < p + r → ways 0 p q r ≡ 0
    go zero zero zero h = absurd (omega arith)
    go zero zero (suc r) h = unfold ways in refl
    go zero (suc q) r h = unfold ways in refl
    go (suc p) q r h = unfold ways in refl
too_few_falls (suc k) p q zero h =
    omega (arith, ways_falls k p q, falls_most (λ p q. ways k p q 0) p q 0 (λ x y l. omega (arith, too_few_falls k x y 0 (omega arith))))
too_few_falls (suc k) p q (suc r) h =
    omega (
      arith,
      ways_both k p q r,
      rises_most (λ p q. ways k p q r) p q 0 (λ x y l m. omega (arith, too_few_falls k x y r (omega arith))),
      falls_most (λ p q. ways k p q (suc r)) p q 0 (λ x y l. omega (arith, too_few_falls k x y (suc r) (omega arith))),
    )

-- so a plan has fewer rises than rooms
pub count_none : (n r : ℕ) → n ≤ r → plan_count n r ≡ 0
unfolding plan_count
count_none zero r h = refl
count_none (suc k) r h = too_few_falls k 0 0 r (omega arith)

-- ---- with each triple eight times as many at most
all_ways_most : (k p q : ℕ) → all_ways k p q ≤ 8 ^ k
all_ways_most zero p q = go p q
  where
    go : (p q : ℕ) → all_ways 0 p q ≤ 8 ^ 0
    go zero zero = unfold all_ways in omega arith
    go zero (suc q) = unfold all_ways in omega arith
    go (suc p) q = unfold all_ways in omega arith
all_ways_most (suc k) p q =
    omega (arith, pow-suc 8 k, all_both k p q, rises_most (all_ways k) p q (8 ^ k) (λ x y l m. all_ways_most k x y), falls_most (all_ways k) p q (8 ^ k) (λ x y l. all_ways_most k x y))

pub all_ways_small : (k p q : ℕ) → k ≤ 16 → all_ways k p q ≤ 2 ^ 48
all_ways_small k p q h = omega (arith, all_ways_most k p q, pow-le-pow_right {n = 8} (omega arith) h)

-- of those a number of rises has a part
pub ways_small : (k p q r : ℕ) → k ≤ 16 → ways k p q r ≤ 2 ^ 48
ways_small k p q r h = omega (arith, all_ways_small k p q h, all_ways_lem k p q (suc (k + r)) (omega arith), sum_ge (ways k p q) (suc (k + r)) r (omega arith))

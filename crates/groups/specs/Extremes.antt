-- The extremes of a number that each room of a group has, as its position or its label: all those of one group are below all those of
-- another one exactly if the greatest is below the least. So one look along each group is enough.
use Rattle.std.specs.Prelude.{List, ◌↔◌, ◌≡◌, ℕ, ◌≤◌, ◌<◌}
use Rattle.std.proofs.Common.{arith}
use Rattle.groups.specs.Group.{Member, EachIn}

-- of the numbers that g gives to the rooms of a group, `least` and `greatest` are the extremes
pub record Extremes (group : List ℕ) (g : ℕ → ℕ) (least greatest : ℕ) : Type 0 where
  pub low : ℕ
  pub low_in : (1 ≤ low) × (low < 257) × Member group low
  pub low_is : g low ≡ least
  pub high : ℕ
  pub high_in : (1 ≤ high) × (high < 257) × Member group high
  pub high_is : g high ≡ greatest
  pub between : EachIn group (λ k. (least ≤ g k) × (g k ≤ greatest))

-- each number of the first is below each of the second exactly if the greatest is below the least
pub all_less_iff : {first second : List ℕ} {g : ℕ → ℕ} {a b c d : ℕ} → Extremes first g a b → Extremes second g c d
    → EachIn first (λ i. EachIn second (λ j. g i < g j)) ↔ (b < c)
all_less_iff one other = (
  λ h. let (p, q, m) = one.high_in in let (r, s, l) = other.low_in in
      omega (arith, h one.high p q m other.low r s l, one.high_is, other.low_is),
  λ h i p q m j r s l. omega (arith, one.between i p q m, other.between j r s l),
)

-- The first barred pattern of a label list. "For a label list refused so, name the four positions and which of the two conditions they
-- meet. The four are the first ones in order of i, then j, then k, then l."
use Rattle.std.specs.Prelude.{◌≡◌, ◌⊎◌, ℕ, ◌≤◌, ◌<◌}
use Rattle.record.specs.Barred.{BarredFirst, BarredSecond}
use Rattle.patterns.specs.declared.Condition.{Condition}
use Rattle.patterns.specs.declared.Condition.TheVariants as condition

-- "the four positions"
pub record Four : Type 0 where
  pub i : ℕ
  pub j : ℕ
  pub k : ℕ
  pub l : ℕ

-- "which of the two conditions they meet": labels a, b, c, d meet a condition
abbrev pub Meets : Condition → (a b c d : ℕ) → Type 0
Meets condition.First a b c d = BarredFirst a b c d
Meets condition.Second a b c d = BarredSecond a b c d

-- the number of each condition
abbrev pub condition_number : Condition → ℕ
condition_number condition.First = 1
condition_number condition.Second = 2

-- "positions i < j < k < l" of 1 to n
pub record Ordered (n : ℕ) (p : Four) : Type 0 where
  pub start : 1 ≤ p.i
  pub i<j : p.i < p.j
  pub j<k : p.j < p.k
  pub k<l : p.k < p.l
  pub end : p.l ≤ n

-- such positions whose labels meet a condition; f is the label at a position
pub record PatternAt (f : ℕ → ℕ) (n : ℕ) (which : Condition) (p : Four) : Type 0 where
  pub order : Ordered n p
  pub meets : Meets which (f p.i) (f p.j) (f p.k) (f p.l)

-- p comes before q "in order of i, then j, then k, then l"
abbrev pub Before : (p q : Four) → Type 0
Before p q =
    (p.i < q.i)
    ⊎ ((p.i ≡ q.i) × ((p.j < q.j)
    ⊎ ((p.j ≡ q.j) × ((p.k < q.k)
    ⊎ ((p.k ≡ q.k) × (p.l < q.l))))))

-- "the first ones": they meet the condition, and no four before them meet any
pub record FirstPattern (f : ℕ → ℕ) (n : ℕ) (which : Condition) (p : Four) : Type 0 where
  pub pattern : PatternAt f n which p
  pub first : (other : Condition) (q : Four) → PatternAt f n other q → ¬ Before q p

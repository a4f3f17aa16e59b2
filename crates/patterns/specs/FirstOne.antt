-- A list that has a barred pattern has a first one. It is found as the order says: the first i that has some j, k and l; for it the
-- first j; and so on.
use Rattle.std.proofs.Common.{inl, inr, arith}
use Rattle.std.specs.Prelude.{◌⊎◌, ℕ, suc}
use Rattle.finite.specs.Search.{Some, dec_some}
use Rattle.finite.specs.First.{first_of}
use Rattle.record.specs.Barred.{BarredFirst, BarredSecond, Barred}
use Rattle.record.specs.Causes.{dec_meets}
use Rattle.patterns.specs.Pattern.{Four}
use Rattle.patterns.specs.declared.Condition.{Condition}
use Rattle.patterns.specs.declared.Condition.TheVariants as condition

-- labels meet one of the two conditions
abbrev pub Met : (a b c d : ℕ) → Type 0
Met a b c d = BarredFirst a b c d ⊎ BarredSecond a b c d

-- the condition that they meet
unfoldable pub condition_met : (a b c d : ℕ) → Met a b c d → Condition
condition_met a b c d (inl m) = condition.First
condition_met a b c d (inr m) = condition.Second

module _ (f : ℕ → ℕ) (n : ℕ) where
  -- positions that some more complete to a pattern
  abbrev pub With4 : (i j k l : ℕ) → Type 0
  With4 i j k l = Met (f i) (f j) (f k) (f l)

  abbrev pub With3 : (i j k : ℕ) → Type 0
  With3 i j k = Some (With4 i j k) (suc k) (suc n)

  abbrev pub With2 : (i j : ℕ) → Type 0
  With2 i j = Some (With3 i j) (suc j) (suc n)

  abbrev pub With1 : (i : ℕ) → Type 0
  With1 i = Some (With2 i) (suc i) (suc n)

  unfoldable pub dec_with4 : (i j k l : ℕ) → Dec (With4 i j k l)
  unfolding dec_meets
  dec_with4 i j k l = dec_meets (f i) (f j) (f k) (f l)

  unfoldable pub dec_with3 : (i j k : ℕ) → Dec (With3 i j k)
  unfolding dec_some dec_with4
  dec_with3 i j k = dec_some _ (dec_with4 i j k) (suc k) (suc n)

  unfoldable pub dec_with2 : (i j : ℕ) → Dec (With2 i j)
  unfolding dec_some dec_with3
  dec_with2 i j = dec_some _ (dec_with3 i j) (suc j) (suc n)

  unfoldable pub dec_with1 : (i : ℕ) → Dec (With1 i)
  unfolding dec_some dec_with2
  dec_with1 i = dec_some _ (dec_with2 i) (suc i) (suc n)

  -- in a barred list some position is the first of a pattern
  pub barred_with : Barred f n → Some With1 1 (suc n)
  barred_with (l, l-from, l-to, (k, k-from, k<l, (j, j-from, j<k, (i, i-from, i<j, met)))) =
      (i, i-from, omega arith, (j, i<j, omega arith, (k, j<k, omega arith, (l, k<l, l-to, met))))

  -- the first four, and the condition that they meet
  pub record FirstFour : Type 0 where
    pub which : Condition
    pub four : Four

  unfoldable pub first_four : Barred f n → FirstFour
  unfolding first_of dec_with1 dec_with2 dec_with3 dec_with4 condition_met
  first_four barred =
      let i = first_of With1 dec_with1 1 (suc n) (barred_with barred) in
      let j = first_of (With2 i.at) (dec_with2 i.at) (suc i.at) (suc n) i.has in
      let k = first_of (With3 i.at j.at) (dec_with3 i.at j.at) (suc j.at) (suc n) j.has in
      let l = first_of (With4 i.at j.at k.at) (dec_with4 i.at j.at k.at) (suc k.at) (suc n) k.has in record {
        which = condition_met (f i.at) (f j.at) (f k.at) (f l.at) l.has;
        four = record { i = i.at; j = j.at; k = k.at; l = l.at };
      }

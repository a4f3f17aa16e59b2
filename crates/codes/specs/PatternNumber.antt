-- The number of a pattern tells its condition and its positions, which are bytes; and no pattern has the number of "no pattern".
use Rattle.std.specs.Prelude.{◌≡◌, refl, ℕ, ◌<◌}
use Rattle.std.proofs.Common.{arith}
use Rattle.patterns.specs.Pattern.{Four, condition_number}
use Rattle.patterns.specs.declared.Condition.{Condition}
use Rattle.patterns.specs.declared.Condition.TheVariants.{First, Second}
use Rattle.codes.specs.Code.{pattern_number}

-- four positions that are bytes
pub record Bytes (p : Four) : Type 0 where
  pub i_byte : p.i < 256
  pub j_byte : p.j < 256
  pub k_byte : p.k < 256
  pub l_byte : p.l < 256

abbrev number_of_four : Condition → Four → ℕ
number_of_four which p = pattern_number which p.i p.j p.k p.l

same_condition : (which other : Condition) → condition_number which ≡ condition_number other → which ≡ other
same_condition First First e = refl
same_condition First Second e = absurd (omega arith)
same_condition Second First e = absurd (omega arith)
same_condition Second Second e = refl

-- two patterns with one number are the same
pub m105_number_tells : (which other : Condition) (p q : Four) → Bytes p → Bytes q → number_of_four which p ≡ number_of_four other q
    → (which ≡ other) × (p ≡ q)
m105_number_tells which other p q bp bq e =
    let c : condition_number which ≡ condition_number other = omega (arith, bp, bq) in
    let i : p.i ≡ q.i = omega (arith, bp, bq) in
    let j : p.j ≡ q.j = omega (arith, bp, bq) in
    let k : p.k ≡ q.k = omega (arith, bp, bq) in
    let l : p.l ≡ q.l = omega (arith, bp, bq) in
    (same_condition which other c, λ x. record { i = i x; j = j x; k = k x; l = l x })

-- and it is not 0
pub m105_number_positive : (which : Condition) (p : Four) → 0 < number_of_four which p
m105_number_positive First p = omega arith
m105_number_positive Second p = omega arith

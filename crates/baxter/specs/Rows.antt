-- The counts for all numbers of rises at once, as a list: so the recursion is quickly computed.
use Rattle.std.specs.Prelude.{Bool, true, false, List, [], ◌∷◌, ◌≡◌, refl, ℕ, zero, suc, ◌+◌, get_or}
use Rattle.std.proofs.Common.{arith}
use Rattle.record.specs.Triple.{triple}
use Rattle.record.specs.Walk.{Counts, missing, counts, step}
use Rattle.counting.specs.Ways.{over_bit, after_step, after_third, ways}

-- two lists added entry by entry, where a shorter one goes on with 0
abbrev add : List ℕ → List ℕ → List ℕ
add [] ys = ys
add (x ∷ xs) [] = x ∷ xs
add (x ∷ xs) (y ∷ ys) = (x + y) ∷ add xs ys

abbrev row_over_bit : (Bool → List ℕ) → List ℕ
row_over_bit f = add (f false) (f true)

abbrev row_after_step : Counts → (ℕ → ℕ → List ℕ) → List ℕ
row_after_step missing f = []
row_after_step (counts p q) f = f p q

abbrev row_after_third : (third : Bool) → List ℕ → List ℕ
row_after_third true xs = xs
row_after_third false xs = 0 ∷ xs

-- entry r is the number of ways with r rises
unfoldable pub row : (k p q : ℕ) → List ℕ
unfolding step
row zero zero zero = 1 ∷ []
row zero zero (suc q) = []
row zero (suc p) q = []
row (suc k) p q =
    row_over_bit λ first. row_over_bit λ second. row_over_bit λ third.
    row_after_third third (row_after_step (step (triple first second third) p q) λ p q. row k p q)

-- ---- entry by entry
add_at : (xs ys : List ℕ) (r : ℕ) → get_or (add xs ys) r 0 ≡ get_or xs r 0 + get_or ys r 0
add_at [] ys r = omega arith
add_at (x ∷ xs) [] r = omega arith
add_at (x ∷ xs) (y ∷ ys) zero = refl
add_at (x ∷ xs) (y ∷ ys) (suc r) = add_at xs ys r

over_bit_at : (f : Bool → List ℕ) (g : Bool → ℕ) (r : ℕ) → ((b : Bool) → get_or (f b) r 0 ≡ g b) → get_or (row_over_bit f) r 0 ≡ over_bit g
over_bit_at f g r same = omega (arith, add_at (f false) (f true) r, same false, same true)

after_step_at : (c : Counts) (f : ℕ → ℕ → List ℕ) (g : ℕ → ℕ → ℕ) (r : ℕ) → ((p q : ℕ) → get_or (f p q) r 0 ≡ g p q)
    → get_or (row_after_step c f) r 0 ≡ after_step c g
after_step_at missing f g r same = refl
after_step_at (counts p q) f g r same = same p q

after_third_at : (third : Bool) (xs : List ℕ) (f : ℕ → ℕ) (r : ℕ) → ((r : ℕ) → get_or xs r 0 ≡ f r)
    → get_or (row_after_third third xs) r 0 ≡ after_third third r f
after_third_at true xs f r same = same r
after_third_at false xs f zero same = refl
after_third_at false xs f (suc r) same = same r

pub row_at : (k p q r : ℕ) → get_or (row k p q) r 0 ≡ ways k p q r
unfolding row ways
row_at zero zero zero zero = refl
row_at zero zero zero (suc r) = refl
row_at zero zero (suc q) r = refl
row_at zero (suc p) q r = refl
row_at (suc k) p q r =
    over_bit_at (λ first. row_over_bit λ second. row_over_bit λ third. row_after_third third (after first second third)) _ r λ first.
    over_bit_at (λ second. row_over_bit λ third. row_after_third third (after first second third)) _ r λ second.
    over_bit_at (λ third. row_after_third third (after first second third)) _ r λ third.
    after_third_at third (after first second third) _ r λ r.
    after_step_at (step (triple first second third) p q) (row k) _ r λ p q. row_at k p q r
  where
    after : (first second third : Bool) → List ℕ
    after first second third = row_after_step (step (triple first second third) p q) (row k)

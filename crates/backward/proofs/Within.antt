-- How large the ends are that stand on the stacks going backward, whatever the triples: n at most.
use mathlib.Core.Bool.{Bool, true, false}
use mathlib.Core.List.{List, [], ◌∷◌}
use Prim.Native.Nat.{ℕ, zero, suc, ◌-◌, ◌≤◌}
use native.Mathlib.Omega.{arith}
use Rattle.record.specs.Triple.{Triple, triple}
use Rattle.record.specs.Way.{Way, up, down, both}
use Rattle.record.specs.Decode.{bits_of}
use Rattle.record.specs.Positions.{first_of, Entered, pushed, entered_met, others_of, entered_before, entered_but}

-- none of the numbers is above b
abbrev Bounded : ℕ → List ℕ → Type 0
Bounded b [] = Unit
Bounded b (x ∷ xs) = (x ≤ b) × Bounded b xs

module _ (b : ℕ) where
  first_bounded : (xs : List ℕ) → Bounded b xs → first_of xs ≤ b
  unfolding first_of
  first_bounded [] p = omega arith
  first_bounded (x ∷ xs) p = p.0

  others_bounded : (xs : List ℕ) → Bounded b xs → Bounded b (others_of xs)
  others_bounded [] p = p
  others_bounded (x ∷ xs) p = p.1

  pushed_bounded : (bit : Bool) (x : ℕ) (xs : List ℕ) → x ≤ b → Bounded b xs → Bounded b (pushed bit x xs)
  pushed_bounded true x xs h p = (h, p)
  pushed_bounded false x xs h p = p

-- none of the numbers known going backward is above n
pub record EnteredWithin (n : ℕ) (y : Entered) : Type 0 where
  pub current : (way : Way) → y.current way ≤ n
  pub others : (way : Way) → Bounded n (y.others way)

met_within : {n : ℕ} {y : Entered} (u : Triple) → EnteredWithin n y → (way : Way) → Bounded n (entered_met u y way)
met_within {n} {y} u w way = pushed_bounded n (bits_of u way) (y.current way) (y.others way) (w.current way) (w.others way)

before_within : {n p : ℕ} {y : Entered} (u : Triple) → p ≤ n → EnteredWithin n y → EnteredWithin n (entered_before u p y)
unfolding entered_before
before_within {n} {y = y} (triple first second false) h w =
    let u = triple first second false in
    record {
      current = both _ h (first_bounded n (entered_met u y down) (met_within u w down));
      others = both _ (met_within u w up) (others_bounded n (entered_met u y down) (met_within u w down));
    }
before_within {n} {y = y} (triple first second true) h w =
    let u = triple first second true in
    record {
      current = both _ (first_bounded n (entered_met u y up) (met_within u w up)) h;
      others = both _ (others_bounded n (entered_met u y up) (met_within u w up)) (met_within u w down);
    }

pub entered_small : (t : ℕ → Triple) (n j : ℕ) → EnteredWithin n (entered_but t n j)
unfolding entered_but
entered_small t n zero = record { current = λ way. omega arith; others = λ way. tt }
entered_small t n (suc j) = before_within (t (n - j)) (omega arith) (entered_small t n j)

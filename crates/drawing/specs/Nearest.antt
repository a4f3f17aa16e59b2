-- What the drawing looks for is the nearest position that has a property, looking down or up from a position. The drawing's
-- property is a smaller or a larger label. Here it is any: looking down serves left and bottom, looking up serves right and top.
use Rattle.std.specs.Prelude.{◌≡◌, ◌⊎◌, ℕ, suc, ◌-◌, ◌≤◌}
use Rattle.std.proofs.Math.Path.{subst}
use Rattle.std.proofs.Math.Logic.{inl, inr}
use Rattle.std.proofs.Common.{arith}
use Rattle.finite.specs.Search.{Each, Last, First, last}
use Rattle.finite.specs.First.{first}
use Rattle.record.specs.Way.{Way, up, down, Less}
use Rattle.drawing.specs.Drawing.{last_before, first_later}

-- no position between i and x has P
abbrev pub Clear : Way → (ℕ → Type 0) → (i x : ℕ) → Type 0
Clear way P i x = (j : ℕ) → Less way i j → Less way j x → ¬ P j

-- looking from i, x is the nearest of the positions 1 to n that has P; 0 or n + 1 if none
pub record Nearest (way : Way) (P : ℕ → Type 0) (n i x : ℕ) : Type 0 where
  pub past : Less way i x
  pub within : x ≤ suc n
  pub has : 1 ≤ x → x ≤ n → P x
  pub clear : Clear way P i x

-- it is clear as far as the nearest position, and no further
module _ (way : Way) {P : ℕ → Type 0} {n i x : ℕ} (from : 1 ≤ i) (to : i ≤ n) (k : Nearest way P n i x) where
  pub reach→clear : (z : ℕ) → ¬ Less way x z → Clear way P i z
  reach→clear z h j a b = k.clear j a (go way h b)
    where
      go : (way : Way) → ¬ Less way x z → Less way j z → Less way j x
      go up h b = omega arith
      go down h b = omega arith

  pub clear→reach : (z : ℕ) → z ≤ suc n → Clear way P i z → ¬ Less way x z
  clear→reach z h c b = let position = go way k.past b in c x k.past b (k.has position.0 position.1)
    where
      go : (way : Way) → Less way i x → Less way x z → (1 ≤ x) × (x ≤ n)
      go up a b = omega arith
      go down a b = omega arith

-- there is only one
pub nearest_same : (way : Way) {P : ℕ → Type 0} {n i x y : ℕ} → 1 ≤ i → i ≤ n → Nearest way P n i x → Nearest way P n i y → x ≡ y
nearest_same way {x = x} {y} from to k l =
    go way (clear→reach way from to k y l.within l.clear) (clear→reach way from to l x k.within k.clear)
  where
    go : (way : Way) → ¬ Less way x y → ¬ Less way y x → x ≡ y
    go up a b = omega arith
    go down a b = omega arith

module _ (P : ℕ → Type 0) (d : (j : ℕ) → Dec (P j)) (n i : ℕ) (from : 1 ≤ i) (to : i ≤ n) where
  -- what the drawing looks for is the nearest
  pub last_nearest : Nearest down P n i (last_before P d i)
  unfolding last_before
  last_nearest = go (last P d 1 i)
    where
      go : (r : Last P 1 i ⊎ Each (λ j. ¬ P j) 1 i) → Nearest down P n i (elim r [ inl r ↦ r.at | inr none ↦ 0 ])
      go (inl r) = record { past = r.to; within = omega arith; has = λ a b. r.has; clear = λ j a b. r.after j b a }
      go (inr none) = record { past = from; within = omega arith; has = λ a b. absurd (omega arith); clear = λ j a b. none j b a }

  pub first_nearest : Nearest up P n i (suc (first_later P d i n))
  unfolding first_later
  first_nearest = go (first P d (suc i) (suc n))
    where
      go : (r : First P (suc i) (suc n) ⊎ Each (λ j. ¬ P j) (suc i) (suc n))
          → Nearest up P n i (suc (elim r [ inl r ↦ r.at - 1 | inr none ↦ n ]))
      go (inl r) = record {
        past = omega arith;
        within = omega arith;
        has = λ a b. subst P (omega arith) r.has;
        clear = λ j a b. r.before j a (omega arith);
      }
      go (inr none) = record { past = omega arith; within = omega arith; has = λ a b. absurd (omega arith); clear = none }

  -- and whatever is the nearest is what the drawing looks for
  pub nearest→last : {x : ℕ} → Nearest down P n i x → last_before P d i ≡ x
  nearest→last k = nearest_same down from to last_nearest k

  pub nearest→first : {x : ℕ} → Nearest up P n i x → first_later P d i n ≡ x - 1
  nearest→first k = omega (arith, nearest_same up from to first_nearest k)
